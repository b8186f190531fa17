use Rattle.std.proofs.Common.{Option, ℕ, refl, subst}
use Rattle.std.specs.Prelude.{IfSome}
use Rattle.chain_laws.specs.Chains.{HasLink}
use Rattle.chain_links.specs.Links.{links_view}
use Rattle.chain_links.specs.ChainArena.{link_map}
use Rattle.chain_linking.proofs.ConnectionLemmas.{link_at_ptr, next_of-view_after, prev_of-view_after, same_valid}
use Rattle.chain_linking.proofs.NeighborLemmas.{next_named, prev_named}
use Rattle.chain_arena.proofs.impl_chain_arena_trait.ChainArenaChainArenaTrait.get_link.Goals as goal

pub neighbors-requires-clause-prev : goal.neighbors-requires-clause-prev
neighbors-requires-clause-prev g c =
    let number = g.P.Inx.InxKey.packed_number in
    let a = c.self.inside.arena in
    let p = g.P.PtrKey.key c.args.p in
    let s = link_map (links_view number a) in
    subst (λ (o : Option ℕ). IfSome o (HasLink s)) (prev_of-view_after number a p c.in-Some.link.now c.in-Some.ensures.value) (prev_named s p.0 c.self.invariant.agree)

pub neighbors-requires-clause-next : goal.neighbors-requires-clause-next
neighbors-requires-clause-next g c =
    let number = g.P.Inx.InxKey.packed_number in
    let a = c.self.inside.arena in
    let p = g.P.PtrKey.key c.args.p in
    let s = link_map (links_view number a) in
    subst (λ (o : Option ℕ). IfSome o (HasLink s)) (next_of-view_after number a p c.in-Some.link.now c.in-Some.ensures.value) (next_named s p.0 c.self.invariant.agree)

pub returns-in-Some : goal.returns-in-Some
returns-in-Some g c =
    let number = g.P.Inx.InxKey.packed_number in
    let a = c.self.inside.arena in
    let p = g.P.PtrKey.key c.args.p in
    let same = same_valid number a p in
    rw (← c.self.view_is) (record {
      outcome = record {
        some = (λ _. same.0 (c.in-Some.ensures.some.0 refl), λ _. refl);
        link = rw (c.new.ensures.prev, c.new.ensures.next, c.new.ensures.value)
            (link_at_ptr number a p c.in-Some.link.now _ _ c.in-Some.ensures.value c.neighbors.ensures.prev c.neighbors.ensures.next);
      };
      agree = c.self.invariant.agree;
    })

pub returns-in-None : goal.returns-in-None
returns-in-None g c =
    let same = same_valid g.P.Inx.InxKey.packed_number c.self.inside.arena (g.P.PtrKey.key c.args.p) in
    rw (← c.self.view_is) (record { outcome = record { some = (λ h. same.0 (c.in-None.ensures.some.0 h), λ valid. c.in-None.ensures.some.1 (same.1 valid)); link = tt }; agree = c.self.invariant.agree })
