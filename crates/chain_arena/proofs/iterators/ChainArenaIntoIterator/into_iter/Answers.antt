use Rattle.std.proofs.Common.{ap, ◌∙◌, arith, length}
use Rattle.chain_links.specs.Links.{entry_views}
use Rattle.chain_compaction.proofs.ValueViewLemmas.{entry_views-all}
use Rattle.chain_arena.proofs.iterators.ChainArenaIntoIterator.into_iter.Goals as goal

pub returns : goal.returns
returns g c =
    let number = g.P.Inx.InxKey.packed_number in
    record {
      into_iter_gives = (
        rw (← c.self.view_is) (ap (entry_views number) c.into_iter.ensures.into_iter_gives ∙ entry_views-all number c.self.inside.arena),
        omega (arith, c.invariants.ensures.sound.one_more, ap length c.into_iter.ensures.into_iter_gives),
      );
    }
