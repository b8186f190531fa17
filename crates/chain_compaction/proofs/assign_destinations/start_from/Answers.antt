use Rattle.std.proofs.Common.{refl, subst, arith}
use Rattle.std.specs.Prelude.{IfSome}
use Rattle.chain_laws.specs.ChainStart.{IsStart}
use Rattle.chain_compaction.specs.DetachedLinks.{link_map_in}
use Rattle.chain_compaction.proofs.DetachedLinkLemmas.{work-none}
use Rattle.chain_compaction.proofs.WorkCountLemmas.{counts_none}
use Rattle.chain_compaction.proofs.assign_destinations.start_from.Goals as goal

pub returns-in-Some : goal.returns-in-Some
returns-in-Some g c =
    let now = c.args.compactor.now in
    record {
      start = subst (λ o. IfSome o (λ start. IsStart (link_map_in g.P.Inx.InxKey.packed_number now.detached.slots) (g.P.Inx.InxKey.number c.args.i) (g.P.Inx.InxKey.number start))) c.in-Some.is c.requires.known;
      ahead = omega arith;
      detached = refl;
      linear = λ xs h m. work-none now.arena.now _;
      cyclic = λ xs h. work-none now.arena.now _;
      counts = counts_none now;
    }
