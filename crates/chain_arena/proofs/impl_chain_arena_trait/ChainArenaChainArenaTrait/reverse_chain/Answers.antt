use Rattle.std.proofs.Common.{refl, ap, sym, ◌∙◌, subst}
use Rattle.std.proofs.lemmas.Bool.{false≢true}
use Rattle.chain_laws.specs.Chains.{HasLink}
use Rattle.chain_links.specs.Links.{links_view}
use Rattle.chain_links.specs.ChainArena.{link_map}
use Rattle.chain_linking.specs.ChainReversals.{arena_with_turns, walk_at}
use Rattle.chain_linking.proofs.ConnectionLemmas.{same_valid, valid_at}
use Rattle.chain_arena.specs.Effects.{IsReversal}
use Rattle.chain_arena.proofs.ReverseAndMoveLemmas.{agrees_reversal, reversed}
use Rattle.chain_arena.proofs.impl_chain_arena_trait.ChainArenaChainArenaTrait.reverse_chain.Given.{Over}
use Rattle.chain_arena.proofs.impl_chain_arena_trait.ChainArenaChainArenaTrait.reverse_chain.Goals.{In-Some, After-turn_walk}
use Rattle.chain_arena.proofs.impl_chain_arena_trait.ChainArenaChainArenaTrait.reverse_chain.Goals as goal

is_reversal : (g : Over) (c : After-turn_walk g) → IsReversal (links_view g.P.Inx.InxKey.packed_number c.self.inside.arena) (g.P.PtrKey.key c.args.p).0 (links_view g.P.Inx.InxKey.packed_number c.turn_walk.new.arena)
is_reversal g c =
    let a = links_view g.P.Inx.InxKey.packed_number c.self.inside.arena in
    c.turn_walk.ensures.links ∙ ap (λ i. arena_with_turns a (walk_at a i)) c.inx.ensures

has_link : (g : Over) (c : In-Some g) → HasLink (link_map (links_view g.P.Inx.InxKey.packed_number c.self.inside.arena)) (g.P.PtrKey.key c.args.p).0
has_link g c = valid_at g.P.Inx.InxKey.packed_number c.self.inside.arena (g.P.PtrKey.key c.args.p) c.in-Some.link.now c.in-Some.ensures.value

pub turn_walk-requires-clause-start : goal.turn_walk-requires-clause-start
turn_walk-requires-clause-start g c =
    subst (HasLink (link_map (links_view g.P.Inx.InxKey.packed_number c.self.inside.arena))) (sym c.inx.ensures) (has_link g (goal.at.turn_walk-requires-clause-start g c).In-Some)

pub invariant_of-self : goal.invariant_of-self
invariant_of-self g c =
    let packed = g.P.Inx.InxKey.packed_number in
    record {
      agree = agrees_reversal (links_view packed c.self.inside.arena) (links_view packed c.turn_walk.new.arena) (g.P.PtrKey.key c.args.p).0 (is_reversal g c) c.self.invariant.agree (has_link g (goal.at.invariant_of-self g c).In-Some);
      at_rest = c.turn_walk.ensures.at_rest c.self.invariant.at_rest;
    }

pub returns-in-Some-clause-outcome : goal.returns-in-Some-clause-outcome
returns-in-Some-clause-outcome g c =
    let packed = g.P.Inx.InxKey.packed_number in
    let p = g.P.PtrKey.key c.args.p in
    rw (← c.self.view_is) (
      (same_valid packed c.self.inside.arena p).0 (c.in-Some.ensures.some.0 refl),
      reversed (links_view packed c.self.inside.arena) (links_view packed c.turn_walk.new.arena) p.0 (is_reversal g (goal.at.returns-in-Some-clause-outcome g c).After-turn_walk) c.self.invariant.agree
          (has_link g (goal.at.returns-in-Some-clause-outcome g c).In-Some),
    )

pub returns-in-None-clause-outcome : goal.returns-in-None-clause-outcome
returns-in-None-clause-outcome g c =
    let same = same_valid g.P.Inx.InxKey.packed_number c.self.inside.arena (g.P.PtrKey.key c.args.p) in
    rw (← c.self.view_is) (λ valid. false≢true (c.in-None.ensures.some.1 (same.1 valid)))
