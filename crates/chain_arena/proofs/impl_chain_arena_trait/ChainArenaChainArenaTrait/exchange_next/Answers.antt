use Rattle.std.proofs.Common.{◌≡◌, ℕ, Option, Some, refl, ap, ap₂, sym, ◌∙◌, subst}
use Rattle.std.specs.Prelude.{is_some}
use Rattle.std.proofs.lemmas.Bool.{false≢true}
use Rattle.chain_laws.specs.Chains.{HasLink, next_of}
use Rattle.chain_laws.specs.Exchanges.{with_exchange}
use Rattle.chain_laws.specs.Joins.{with_neighbors}
use Rattle.chain_laws.proofs.ChainLemmas.LinkedLists.{next_valid, prev_valid}
use Rattle.arena_traits.specs.Arena.{Arena}
use Rattle.chain_links.specs.Links.{links_view}
use Rattle.chain_links.specs.ChainArena.{LinkView, with_link_map, link_map}
use Rattle.chain_arena.proofs.BreakAndExchangeLemmas.{exchanged, agrees_exchange, exchange_known}
use Rattle.chain_arena.proofs.impl_chain_arena_trait.ChainArenaChainArenaTrait.exchange_next.Given.{Over}
use Rattle.chain_arena.proofs.impl_chain_arena_trait.ChainArenaChainArenaTrait.exchange_next.Goals.{After-link_pairs}
use Rattle.chain_arena.proofs.impl_chain_arena_trait.ChainArenaChainArenaTrait.exchange_next.Goals as goal

abbrev links : (g : Over) → After-link_pairs g → Arena g.row.P-Gen.Denot (LinkView g.row.T.Denot)
links g c = links_view g.P.Inx.InxKey.packed_number c.self.inside.arena

abbrev exchanged_links : (g : Over) → After-link_pairs g → Arena g.row.P-Gen.Denot (LinkView g.row.T.Denot)
exchanged_links g c = links_view g.P.Inx.InxKey.packed_number c.link_pairs.new.arena

after_p : (g : Over) (c : After-link_pairs g) → Some (g.P.Inx.InxKey.number c.in-Some.after_p) ≡ next_of (link_map (links g c)) (g.P.PtrKey.key c.args.p).0
after_p g c = c.in-Some.ensures.neighbor (c.in-Some.ensures.some refl)

after_q : (g : Over) (c : After-link_pairs g) → Some (g.P.Inx.InxKey.number c.in-Some-next_of.after_q) ≡ next_of (link_map (links g c)) (g.P.PtrKey.key c.args.q).0
after_q g c = c.in-Some-next_of.ensures.neighbor (c.in-Some-next_of.ensures.some refl)

valid_p : (g : Over) (c : After-link_pairs g) → HasLink (link_map (links g c)) (g.P.PtrKey.key c.args.p).0
valid_p g c = next_valid (link_map (links g c)) _ _ (sym (after_p g c))

valid_q : (g : Over) (c : After-link_pairs g) → HasLink (link_map (links g c)) (g.P.PtrKey.key c.args.q).0
valid_q g c = next_valid (link_map (links g c)) _ _ (sym (after_q g c))

is_exchanged : (g : Over) (c : After-link_pairs g) → exchanged_links g c ≡ with_link_map (links g c) (with_exchange (link_map (links g c)) (g.P.PtrKey.key c.args.p).0 (g.P.PtrKey.key c.args.q).0)
is_exchanged g c =
    let s = links g c in
    c.link_pairs.ensures.links
    ∙ (ap₂ (λ (i j : ℕ). with_link_map s (with_neighbors (with_neighbors (link_map s) (Some i) (Some (g.P.Inx.InxKey.number c.in-Some-next_of.after_q))) (Some j) (Some (g.P.Inx.InxKey.number c.in-Some.after_p)))) c.inx-i.ensures c.inx-j.ensures
    ∙ ap₂ (λ (a b : Option ℕ). with_link_map s (with_neighbors (with_neighbors (link_map s) (Some (g.P.PtrKey.key c.args.p).0) b) (Some (g.P.PtrKey.key c.args.q).0) a)) (after_p g c) (after_q g c))

pub link_pairs-requires-clause-first_prev : goal.link_pairs-requires-clause-first_prev
link_pairs-requires-clause-first_prev g c =
    let s = link_map (links_view g.P.Inx.InxKey.packed_number c.self.inside.arena) in
    let p = (g.P.PtrKey.key c.args.p).0 in
    subst (HasLink s) (sym c.inx-i.ensures) (next_valid s p (g.P.Inx.InxKey.number c.in-Some.after_p) (sym (c.in-Some.ensures.neighbor (c.in-Some.ensures.some refl))))

pub link_pairs-requires-clause-first_next : goal.link_pairs-requires-clause-first_next
link_pairs-requires-clause-first_next g c =
    let s = link_map (links_view g.P.Inx.InxKey.packed_number c.self.inside.arena) in
    let q = (g.P.PtrKey.key c.args.q).0 in
    let after = g.P.Inx.InxKey.number c.in-Some-next_of.after_q in
    prev_valid s after q ((c.self.invariant.agree.both q after).0 (sym (c.in-Some-next_of.ensures.neighbor (c.in-Some-next_of.ensures.some refl))))

pub link_pairs-requires-clause-second_prev : goal.link_pairs-requires-clause-second_prev
link_pairs-requires-clause-second_prev g c =
    let s = link_map (links_view g.P.Inx.InxKey.packed_number c.self.inside.arena) in
    let q = (g.P.PtrKey.key c.args.q).0 in
    subst (HasLink s) (sym c.inx-j.ensures) (next_valid s q (g.P.Inx.InxKey.number c.in-Some-next_of.after_q) (sym (c.in-Some-next_of.ensures.neighbor (c.in-Some-next_of.ensures.some refl))))

pub link_pairs-requires-clause-second_next : goal.link_pairs-requires-clause-second_next
link_pairs-requires-clause-second_next g c =
    let s = link_map (links_view g.P.Inx.InxKey.packed_number c.self.inside.arena) in
    let p = (g.P.PtrKey.key c.args.p).0 in
    let after = g.P.Inx.InxKey.number c.in-Some.after_p in
    prev_valid s after p ((c.self.invariant.agree.both p after).0 (sym (c.in-Some.ensures.neighbor (c.in-Some.ensures.some refl))))

pub invariant_of-self : goal.invariant_of-self
invariant_of-self g c = record {
  agree = agrees_exchange (links g c) (exchanged_links g c) _ _ (is_exchanged g c) c.self.invariant.agree (valid_p g c) (valid_q g c);
  at_rest = c.link_pairs.ensures.at_rest c.self.invariant.at_rest;
}

pub returns-in-Some-next_of : goal.returns-in-Some-next_of
returns-in-Some-next_of g c =
    let a = links g c in
    let b = exchanged_links g c in
    let i = (g.P.PtrKey.key c.args.p).0 in
    let j = (g.P.PtrKey.key c.args.q).0 in
    let is = is_exchanged g c in
    rw (← c.self.view_is) (record {
      outcome = (
        record { first_valid = c.in-Some.ensures.some refl; second_valid = c.in-Some-next_of.ensures.some refl; first_next = ap is_some (sym (after_p g c)); second_next = ap is_some (sym (after_q g c)) },
        exchanged a b i j is c.self.invariant.agree (valid_p g c) (valid_q g c),
      );
      none = tt;
      implementation = exchange_known a b i j is c.self.invariant.agree (valid_p g c) (valid_q g c);
    })

pub returns-in-None-next_of : goal.returns-in-None-next_of
returns-in-None-next_of g c = rw (← c.self.view_is) (record {
  outcome = λ can. false≢true (ap is_some (c.in-None-next_of.ensures.neighbor can.second_valid) ∙ can.second_next);
  none = refl;
  implementation = tt;
})

pub returns-in-None : goal.returns-in-None
returns-in-None g c = rw (← c.self.view_is) (record {
  outcome = λ can. false≢true (ap is_some (c.in-None.ensures.neighbor can.first_valid) ∙ can.first_next);
  none = refl;
  implementation = tt;
})
