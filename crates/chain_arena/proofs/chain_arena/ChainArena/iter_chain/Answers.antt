use Rattle.std.proofs.Common.{Option, ℕ, refl, sym, ◌∙◌, subst}
use Rattle.std.specs.Prelude.{IfSome}
use Rattle.chain_laws.specs.Chains.{HasLink}
use Rattle.chain_links.specs.Links.{links_view}
use Rattle.chain_links.specs.ChainArena.{IsWalkOf, link_map}
use Rattle.chain_links.proofs.ArenaInsertionLemmas.{entry_count-links_view}
use Rattle.chain_arena.proofs.ChainIterLemmas.{walker-walk, length-walk}
use Rattle.chain_linking.proofs.ConnectionLemmas.{prev_of-view_after, same_valid, valid_at}
use Rattle.chain_linking.proofs.NeighborLemmas.{prev_named}
use Rattle.chain_arena.proofs.chain_arena.ChainArena.iter_chain.Goals as goal

pub iter_from-requires-clause-agrees : goal.iter_from-requires-clause-agrees
iter_from-requires-clause-agrees g c = c.self.invariant.agree

pub iter_from-requires-clause-onward : goal.iter_from-requires-clause-onward
iter_from-requires-clause-onward g c =
    let number = g.P.Inx.InxKey.packed_number in
    let a = c.self.inside.arena in
    subst (HasLink (link_map (links_view number a))) (sym c.inx.ensures) (valid_at number a (g.P.PtrKey.key c.args.p) c.in-Some.link.now c.in-Some.ensures.value)

pub iter_from-requires-clause-behind : goal.iter_from-requires-clause-behind
iter_from-requires-clause-behind g c =
    let number = g.P.Inx.InxKey.packed_number in
    let a = c.self.inside.arena in
    let s = link_map (links_view number a) in
    let p = g.P.PtrKey.key c.args.p in
    subst (λ (o : Option ℕ). IfSome o (HasLink s)) (prev_of-view_after number a p c.in-Some.link.now c.in-Some.ensures.value ∙ sym c.prev.ensures) (prev_named s p.0 c.self.invariant.agree)

pub returns-in-Some : goal.returns-in-Some
returns-in-Some g c =
    let number = g.P.Inx.InxKey.packed_number in
    let a = c.self.inside.arena in
    let links = links_view number a in
    let p = g.P.PtrKey.key c.args.p in
    let at = c.in-Some.ensures.value in
    let walk : IsWalkOf links p.0 c.iter_from.result =
    walker-walk links p.0 _ _ _ _ c.iter_from.ensures (c.len.ensures.entries ∙ sym (entry_count-links_view number a)) c.inx.ensures (c.prev.ensures ∙ sym (prev_of-view_after number a p c.in-Some.link.now at)) c.self.invariant.agree (valid_at number a p c.in-Some.link.now at) in
    rw (← c.self.view_is) ((same_valid number a p).0 (c.in-Some.ensures.some.0 refl), walk, length-walk _ _ _ walk)

pub returns-in-None : goal.returns-in-None
returns-in-None g c =
    let same = same_valid g.P.Inx.InxKey.packed_number c.self.inside.arena (g.P.PtrKey.key c.args.p) in
    rw (← c.self.view_is) (λ valid. absurd (let some = c.in-None.ensures.some.1 (same.1 valid) in cc))
