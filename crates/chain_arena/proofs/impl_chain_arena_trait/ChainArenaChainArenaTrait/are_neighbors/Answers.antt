use Rattle.std.proofs.Common.{◌↔◌, Some, sym, ap, ◌∙◌}
use Rattle.std.specs.Prelude.{is_some, IsTrue}
use Rattle.chain_laws.specs.Neighbors.{AreNeighbors}
use Rattle.arena_traits.specs.Arena.{IsValid}
use Rattle.chain_links.specs.Links.{links_view}
use Rattle.chain_links.specs.ChainArena.{entry, link_map}
use Rattle.chain_links.proofs.MappedArenaLemmas.{is_some-map}
use Rattle.chain_arena.proofs.impl_chain_arena_trait.ChainArenaChainArenaTrait.are_neighbors.Given.{Over}
use Rattle.chain_arena.proofs.impl_chain_arena_trait.ChainArenaChainArenaTrait.are_neighbors.Goals.{After-is_index}
use Rattle.chain_arena.proofs.impl_chain_arena_trait.ChainArenaChainArenaTrait.are_neighbors.Goals as goal

states : (g : Over) (c : After-is_index g) → let s = links_view g.P.Inx.InxKey.packed_number c.self.inside.arena in
    IsValid (entry s) (g.P.PtrKey.key c.args.q) → IsTrue c.is_index.result
    ↔ (IsValid (entry s) (g.P.PtrKey.key c.args.p) × IsValid (entry s) (g.P.PtrKey.key c.args.q) × AreNeighbors (link_map s) (g.P.PtrKey.key c.args.p).0 (g.P.PtrKey.key c.args.q).0)
states g c valid = (
  λ yes. let named = c.is_index.ensures.0 yes in let stored = c.next_of.ensures.some (sym (is_some-map _ c.next_of.result) ∙ ap is_some named) in
      (stored, valid, sym (c.next_of.ensures.neighbor stored) ∙ (named ∙ ap Some c.inx.ensures)),
  λ h. c.is_index.ensures.1 (c.next_of.ensures.neighbor h.0 ∙ (h.2 ∙ sym (ap Some c.inx.ensures))),
)

pub returns-then-contains : goal.returns-then-contains
returns-then-contains g c = rw (← c.self.view_is) (states g c (rw (← c.self.view_is) at (c.contains.ensures.0 c.if-contains.true)))
