use Rattle.std.proofs.Common.{ap, ◌∙◌}
use Rattle.chain_links.specs.Links.{entry_views}
use Rattle.chain_compaction.proofs.ValueViewLemmas.{entry_views-all}
use Rattle.chain_arena.proofs.chain_arena.ChainArena.iter_link_no_gen.Goals as goal

pub returns-clause-links : goal.returns-clause-links
returns-clause-links g c =
    let number = g.P.Inx.InxKey.packed_number in
    rw (← c.self.view_is) (ap (entry_views number) c.links_of.ensures.0 ∙ entry_views-all number c.self.inside.arena)
