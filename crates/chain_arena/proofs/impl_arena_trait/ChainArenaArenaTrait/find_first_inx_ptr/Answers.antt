use Rattle.std.proofs.Common.{ap, sym, ◌∙◌}
use Rattle.arena_traits.specs.Entries.{entries, first_key}
use Rattle.chain_links.specs.Links.{held_in}
use Rattle.chain_compaction.proofs.ValueViewLemmas.{first-with_each, values_of-links_view}
use Rattle.chain_arena.proofs.impl_arena_trait.ChainArenaArenaTrait.find_first_inx_ptr.Goals as goal

pub returns : goal.returns
returns g c = rw (← c.self.view_is) (c.find_first_inx_ptr.ensures
    ∙ (sym (first-with_each held_in c.self.inside.arena) ∙ ap (λ v. first_key (entries v)) (values_of-links_view g.P.Inx.InxKey.packed_number c.self.inside.arena)))
