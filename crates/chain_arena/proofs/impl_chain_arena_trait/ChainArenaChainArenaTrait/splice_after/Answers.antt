use Rattle.std.proofs.Common.{sym, subst}
use Rattle.chain_laws.specs.Chains.{HasLink}
use Rattle.chain_links.specs.Links.{links_view}
use Rattle.chain_links.specs.ChainArena.{link_map, entry, CanSplice}
use Rattle.chain_linking.proofs.NeighborLemmas.{valid_link}
use Rattle.chain_arena.specs.Effects.{IsSplice}
use Rattle.chain_arena.proofs.ReverseAndMoveLemmas.{agrees_splice, spliced}
use Rattle.chain_arena.proofs.impl_chain_arena_trait.ChainArenaChainArenaTrait.splice_after.Given.{Over}
use Rattle.chain_arena.proofs.impl_chain_arena_trait.ChainArenaChainArenaTrait.splice_after.Goals.{Else-not-can_splice, After-splice}
use Rattle.chain_arena.proofs.impl_chain_arena_trait.ChainArenaChainArenaTrait.splice_after.Goals as goal

can : (g : Over) (c : Else-not-can_splice g) → CanSplice (entry (links_view g.P.Inx.InxKey.packed_number c.self.inside.arena)) (g.P.PtrKey.key c.args.p) (g.P.PtrKey.key c.args.first) (g.P.PtrKey.key c.args.last)
can g c = rw (← c.self.view_is) at (c.can_splice.ensures.0 c.if-not-can_splice.false)

valid_p : (g : Over) (c : Else-not-can_splice g) → HasLink (link_map (links_view g.P.Inx.InxKey.packed_number c.self.inside.arena)) (g.P.PtrKey.key c.args.p).0
valid_p g c = valid_link (links_view g.P.Inx.InxKey.packed_number c.self.inside.arena) (g.P.PtrKey.key c.args.p) (can g c).p_valid

valid_first : (g : Over) (c : Else-not-can_splice g) → HasLink (link_map (links_view g.P.Inx.InxKey.packed_number c.self.inside.arena)) (g.P.PtrKey.key c.args.first).0
valid_first g c = valid_link (links_view g.P.Inx.InxKey.packed_number c.self.inside.arena) (g.P.PtrKey.key c.args.first) (can g c).first_valid

valid_last : (g : Over) (c : Else-not-can_splice g) → HasLink (link_map (links_view g.P.Inx.InxKey.packed_number c.self.inside.arena)) (g.P.PtrKey.key c.args.last).0
valid_last g c = valid_link (links_view g.P.Inx.InxKey.packed_number c.self.inside.arena) (g.P.PtrKey.key c.args.last) (can g c).last_valid

is_splice : (g : Over) (c : After-splice g) → IsSplice (links_view g.P.Inx.InxKey.packed_number c.self.inside.arena) (g.P.PtrKey.key c.args.p).0 (g.P.PtrKey.key c.args.first).0 (g.P.PtrKey.key c.args.last).0 (links_view g.P.Inx.InxKey.packed_number c.splice.new.arena)
is_splice g c = rw (← c.inx.ensures) (rw (← c.inx-2.ensures) (rw (← c.inx-3.ensures) c.splice.ensures.links))

pub splice-requires-clause-before : goal.splice-requires-clause-before
splice-requires-clause-before g c =
    subst (HasLink (link_map (links_view g.P.Inx.InxKey.packed_number c.self.inside.arena))) (sym c.inx.ensures) (valid_p g (goal.at.splice-requires-clause-before g c).Else-not-can_splice)

pub splice-requires-clause-first : goal.splice-requires-clause-first
splice-requires-clause-first g c =
    subst (HasLink (link_map (links_view g.P.Inx.InxKey.packed_number c.self.inside.arena))) (sym c.inx-2.ensures) (valid_first g (goal.at.splice-requires-clause-first g c).Else-not-can_splice)

pub splice-requires-clause-last : goal.splice-requires-clause-last
splice-requires-clause-last g c =
    subst (HasLink (link_map (links_view g.P.Inx.InxKey.packed_number c.self.inside.arena))) (sym c.inx-3.ensures) (valid_last g (goal.at.splice-requires-clause-last g c).Else-not-can_splice)

pub invariant_of-self : goal.invariant_of-self
invariant_of-self g c =
    let packed = g.P.Inx.InxKey.packed_number in
    let before = (goal.at.invariant_of-self g c).Else-not-can_splice in
    record {
      agree = agrees_splice (links_view packed c.self.inside.arena) (links_view packed c.splice.new.arena) (g.P.PtrKey.key c.args.p).0 (g.P.PtrKey.key c.args.first).0 (g.P.PtrKey.key c.args.last).0 (is_splice g c) c.self.invariant.agree
          (valid_p g before) (valid_first g before) (valid_last g before) (can g before).apart;
      at_rest = c.splice.ensures.at_rest c.self.invariant.at_rest;
    }

pub returns-clause-outcome : goal.returns-clause-outcome
returns-clause-outcome g c =
    let packed = g.P.Inx.InxKey.packed_number in
    let before = (goal.at.returns-clause-outcome g c).Else-not-can_splice in
    rw (← c.self.view_is) (
      can g before,
      spliced (links_view packed c.self.inside.arena) (links_view packed c.splice.new.arena) (g.P.PtrKey.key c.args.p).0 (g.P.PtrKey.key c.args.first).0 (g.P.PtrKey.key c.args.last).0
          (is_splice g (goal.at.returns-clause-outcome g c).After-splice) c.self.invariant.agree (valid_p g before) (valid_first g before) (valid_last g before) (can g before).apart,
    )

pub returns-clause-implementation : goal.returns-clause-implementation
returns-clause-implementation g c = rw (← c.self.view_is) (is_splice g (goal.at.returns-clause-implementation g c).After-splice)
