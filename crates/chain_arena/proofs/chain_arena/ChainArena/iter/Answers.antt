use Rattle.std.proofs.Common.{ap, ◌∙◌}
use Rattle.chain_links.specs.Links.{held_entries}
use Rattle.chain_compaction.proofs.ValueViewLemmas.{held_entries-all}
use Rattle.chain_arena.proofs.chain_arena.ChainArena.iter.Goals as goal

pub returns-clause-values : goal.returns-clause-values
returns-clause-values g c = rw (← c.self.view_is) (ap held_entries c.links_of.ensures.0 ∙ held_entries-all g.P.Inx.InxKey.packed_number c.self.inside.arena)
