use Rattle.std.proofs.Common.{◌≡◌, ◌↔◌, [], subst}
use Rattle.std.specs.Prelude.{IsTrue}
use Rattle.arena_traits.specs.Entries.{entries}
use Rattle.chain_links.specs.Links.{held_in}
use Rattle.chain_compaction.proofs.ValueViewLemmas.{empty-with_each, values_of-links_view}
use Rattle.chain_arena.proofs.impl_arena_trait.ChainArenaArenaTrait.is_empty.Goals as goal

pub returns : goal.returns
returns g c =
    let same = empty-with_each held_in c.self.inside.arena in
    rw (← c.self.view_is) (subst (λ v. IsTrue c.is_empty.result ↔ (entries v ≡ [])) (values_of-links_view g.P.Inx.InxKey.packed_number c.self.inside.arena)
    (λ h. same.0 (c.is_empty.ensures.0 h), λ h. c.is_empty.ensures.1 (same.1 h)))
