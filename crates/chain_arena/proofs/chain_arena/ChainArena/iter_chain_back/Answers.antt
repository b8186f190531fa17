use Rattle.std.proofs.Common.{refl, sym, ◌∙◌, subst}
use Rattle.std.proofs.lemmas.Bool.{false≢true}
use Rattle.chain_laws.specs.Chains.{HasLink}
use Rattle.chain_links.specs.Links.{links_view}
use Rattle.chain_links.specs.ChainArena.{IsWalkBackOf, link_map}
use Rattle.chain_links.proofs.ArenaInsertionLemmas.{entry_count-links_view}
use Rattle.chain_arena.proofs.ChainIterLemmas.{back_walker-walk, length-walk_back}
use Rattle.chain_linking.proofs.ConnectionLemmas.{same_valid, valid_at}
use Rattle.chain_arena.proofs.chain_arena.ChainArena.iter_chain_back.Goals as goal

pub iter_back_from-requires-clause-began : goal.iter_back_from-requires-clause-began
iter_back_from-requires-clause-began g c =
    let number = g.P.Inx.InxKey.packed_number in
    let a = c.self.inside.arena in
    let valid = c.if-contains.ensures.0 refl in
    subst (HasLink (link_map (links_view number a))) (sym c.inx.ensures) (valid_at number a (g.P.PtrKey.key c.args.p) valid.value valid.stored)

pub returns-then-contains : goal.returns-then-contains
returns-then-contains g c =
    let number = g.P.Inx.InxKey.packed_number in
    let a = c.self.inside.arena in
    let links = links_view number a in
    let p = g.P.PtrKey.key c.args.p in
    let valid = c.if-contains.ensures.0 refl in
    let walk : IsWalkBackOf links p.0 c.iter_back_from.result =
    back_walker-walk links p.0 _ _ _ c.iter_back_from.ensures (c.len.ensures.entries ∙ sym (entry_count-links_view number a)) c.inx.ensures c.self.invariant.agree (valid_at number a p valid.value valid.stored) in
    rw (← c.self.view_is) ((same_valid number a p).0 valid, walk, length-walk_back _ _ _ walk)

pub returns-else-contains : goal.returns-else-contains
returns-else-contains g c =
    let same = same_valid g.P.Inx.InxKey.packed_number c.self.inside.arena (g.P.PtrKey.key c.args.p) in
    rw (← c.self.view_is) (λ valid. false≢true (c.if-contains.ensures.1 (same.1 valid)))
