use Rattle.std.proofs.Common.{ℕ, ap₂, sym, ◌∙◌, subst}
use Rattle.chain_laws.specs.Chains.{HasLink}
use Rattle.chain_laws.specs.MoveAfter.{with_move_after}
use Rattle.chain_links.specs.Links.{links_view}
use Rattle.chain_links.specs.ChainArena.{link_map, with_link_map, entry, CanMove}
use Rattle.chain_linking.proofs.NeighborLemmas.{valid_link}
use Rattle.chain_arena.specs.Effects.{IsMove}
use Rattle.chain_arena.proofs.ReverseAndMoveLemmas.{agrees_move, moved}
use Rattle.chain_arena.proofs.impl_chain_arena_trait.ChainArenaChainArenaTrait.move_after.Given.{Over}
use Rattle.chain_arena.proofs.impl_chain_arena_trait.ChainArenaChainArenaTrait.move_after.Goals.{Else-not-can_move, After-move_link}
use Rattle.chain_arena.proofs.impl_chain_arena_trait.ChainArenaChainArenaTrait.move_after.Goals as goal

can : (g : Over) (c : Else-not-can_move g) → CanMove (entry (links_view g.P.Inx.InxKey.packed_number c.self.inside.arena)) (g.P.PtrKey.key c.args.p) (g.P.PtrKey.key c.args.q)
can g c = rw (← c.self.view_is) at (c.can_move.ensures.0 c.if-not-can_move.false)

first : (g : Over) (c : Else-not-can_move g) → HasLink (link_map (links_view g.P.Inx.InxKey.packed_number c.self.inside.arena)) (g.P.PtrKey.key c.args.p).0
first g c = valid_link (links_view g.P.Inx.InxKey.packed_number c.self.inside.arena) (g.P.PtrKey.key c.args.p) (can g c).first_valid

second : (g : Over) (c : Else-not-can_move g) → HasLink (link_map (links_view g.P.Inx.InxKey.packed_number c.self.inside.arena)) (g.P.PtrKey.key c.args.q).0
second g c = valid_link (links_view g.P.Inx.InxKey.packed_number c.self.inside.arena) (g.P.PtrKey.key c.args.q) (can g c).second_valid

is_move : (g : Over) (c : After-move_link g) → IsMove (links_view g.P.Inx.InxKey.packed_number c.self.inside.arena) (g.P.PtrKey.key c.args.p).0 (g.P.PtrKey.key c.args.q).0 (links_view g.P.Inx.InxKey.packed_number c.move_link.new.arena)
is_move g c =
    let a = links_view g.P.Inx.InxKey.packed_number c.self.inside.arena in
    c.move_link.ensures.links ∙ ap₂ (λ (i j : ℕ). with_link_map a (with_move_after (link_map a) i j)) c.inx.ensures c.inx-2.ensures

pub move_link-requires-clause-moved : goal.move_link-requires-clause-moved
move_link-requires-clause-moved g c =
    subst (HasLink (link_map (links_view g.P.Inx.InxKey.packed_number c.self.inside.arena))) (sym c.inx.ensures) (first g (goal.at.move_link-requires-clause-moved g c).Else-not-can_move)

pub move_link-requires-clause-before : goal.move_link-requires-clause-before
move_link-requires-clause-before g c =
    subst (HasLink (link_map (links_view g.P.Inx.InxKey.packed_number c.self.inside.arena))) (sym c.inx-2.ensures) (second g (goal.at.move_link-requires-clause-before g c).Else-not-can_move)

pub invariant_of-self : goal.invariant_of-self
invariant_of-self g c =
    let packed = g.P.Inx.InxKey.packed_number in
    let before = (goal.at.invariant_of-self g c).Else-not-can_move in
    record {
      agree = agrees_move (links_view packed c.self.inside.arena) (links_view packed c.move_link.new.arena) (g.P.PtrKey.key c.args.p).0 (g.P.PtrKey.key c.args.q).0 (is_move g c) c.self.invariant.agree (first g before) (second g before) (can g before).apart;
      at_rest = c.move_link.ensures.at_rest c.self.invariant.at_rest;
    }

pub returns-clause-outcome : goal.returns-clause-outcome
returns-clause-outcome g c =
    let packed = g.P.Inx.InxKey.packed_number in
    let before = (goal.at.returns-clause-outcome g c).Else-not-can_move in
    rw (← c.self.view_is) (
      can g before,
      moved (links_view packed c.self.inside.arena) (links_view packed c.move_link.new.arena) (g.P.PtrKey.key c.args.p).0 (g.P.PtrKey.key c.args.q).0 (is_move g (goal.at.returns-clause-outcome g c).After-move_link) c.self.invariant.agree (first g before) (second g before) (can g before).apart,
    )

pub returns-clause-implementation : goal.returns-clause-implementation
returns-clause-implementation g c = rw (← c.self.view_is) (is_move g (goal.at.returns-clause-implementation g c).After-move_link)
