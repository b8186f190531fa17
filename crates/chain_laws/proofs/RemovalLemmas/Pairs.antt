-- Interlinks after a removal: they skip the index and still agree.
use Rattle.std.specs.Prelude.{◌≡◌, ◌≢◌, ◌↔◌, ℕ, ◌⊎◌, Option, None, Some}
use Rattle.std.specs.Option.{option_map}
use Rattle.std.proofs.Common.{sym, refl, ap, ap₂, ◌∙◌, inl, inr, ⊎_elim}
use Rattle.std.proofs.lemmas.Bool.{cases_eq}
use mathlib.Core.Path.{fun_ext}
use Rattle.chain_laws.specs.Chains.{LinkMap, HasLink, IsWellLinked, prev_in, next_in, prev_of, next_of}
use Rattle.chain_laws.specs.Joins.{with_prev, with_next, with_prev_at, with_next_at, with_neighbors, with_lone}
use Rattle.chain_laws.specs.Removals.{without_link, with_removal, RemovesPairs}
use Rattle.chain_laws.proofs.InterlinkLemmas.Inverses.{if_same, if_other, altered-same}
use Rattle.chain_laws.proofs.ChainLemmas.LinkedLists.{next_valid, prev_valid}
use Rattle.chain_laws.proofs.InterlinkLemmas.Linked.{IsElsewhere, IsValidAt-Some, with_next_at-elsewhere, with_prev_at-elsewhere, prev_of-with_next_at, next_of-with_prev_at, next_of-with_next_at, prev_of-with_prev_at, HasLink-same, HasLink-with_next_at, HasLink-linked}
use Rattle.chain_laws.proofs.JoinLemmas.LoneLinks.{with_lone-at, with_lone-elsewhere}
use Rattle.chain_laws.proofs.InterlinkLemmas.Skips.{Skips, skips_pairs, skips_undo}

pub vacated-at : (link_map : LinkMap) (q j : ℕ) → j ≡ q → without_link link_map q j ≡ None
vacated-at link_map q j e = if_same j q None (link_map j) e

pub vacated-elsewhere : (link_map : LinkMap) (q j : ℕ) → j ≢ q → without_link link_map q j ≡ link_map j
vacated-elsewhere link_map q j ne = if_other j q None (link_map j) ne

pub with_next_at-none : (link_map : LinkMap) (u v : Option ℕ) (j : ℕ) → link_map j ≡ None → with_next_at link_map u v j ≡ None
with_next_at-none link_map None v j e = e
with_next_at-none link_map (Some i) v j e = ⊎_elim
    (λ s. if_same j i _ _ s ∙ ap (option_map (with_next v)) e)
    (λ ne. if_other j i _ _ ne ∙ e)
    (cases_eq j i)

pub with_prev_at-none : (link_map : LinkMap) (u v : Option ℕ) (j : ℕ) → link_map j ≡ None → with_prev_at link_map u v j ≡ None
with_prev_at-none link_map None v j e = e
with_prev_at-none link_map (Some i) v j e = ⊎_elim
    (λ s. if_same j i _ _ s ∙ ap (option_map (with_prev v)) e)
    (λ ne. if_other j i _ _ ne ∙ e)
    (cases_eq j i)

pub removed-at : (link_map : LinkMap) (q : ℕ) → with_removal link_map q q ≡ None
removed-at link_map q =
    let u = prev_of link_map q in
    let v = next_of link_map q in
    with_prev_at-none (with_next_at (without_link link_map q) u v) v u q (with_next_at-none (without_link link_map q) u v q (vacated-at link_map q q refl))

pub HasLink-vacated : (link_map : LinkMap) (q j : ℕ) → HasLink (without_link link_map q) j ↔ (HasLink link_map j × (j ≢ q))
HasLink-vacated link_map q j = (λ v. by v (cases_eq j q), λ p. (HasLink-same (without_link link_map q) link_map j (vacated-elsewhere link_map q j p.1)).1 p.0)
  where
    by : HasLink (without_link link_map q) j → (j ≡ q) ⊎ (j ≢ q) → HasLink link_map j × (j ≢ q)
    by v (inl e) = let none = sym (vacated-at link_map q j e) ∙ v.links in absurd (cc)
    by v (inr ne) = ((HasLink-same (without_link link_map q) link_map j (vacated-elsewhere link_map q j ne)).0 v, ne)

pub HasLink-removed : (link_map : LinkMap) (q j : ℕ) → HasLink (with_removal link_map q) j ↔ (HasLink link_map j × (j ≢ q))
HasLink-removed link_map q j =
    let linking = HasLink-linked (without_link link_map q) (prev_of link_map q) (next_of link_map q) j in
    let rest = HasLink-vacated link_map q j in
    (λ v. rest.0 (linking.0 v), λ p. linking.1 (rest.1 p))

pub next_skips : (link_map : LinkMap) (q : ℕ) → IsWellLinked link_map → Skips (next_of link_map) (next_of (with_removal link_map q)) q
next_skips link_map q agrees = record { gone = ap next_in (removed-at link_map q); past = past; elsewhere = elsewhere }
  where
    past : (j : ℕ) → j ≢ q → next_of link_map j ≡ Some q → next_of (with_removal link_map q) j ≡ next_of link_map q
    past j ne to_q =
        let u = prev_of link_map q in
        let v = next_of link_map q in
        let named : u ≡ Some j = (agrees.both j q).0 to_q in
        let valid : HasLink (without_link link_map q) j = (HasLink-vacated link_map q j).1 (next_valid link_map j q to_q, ne) in
        next_of-with_prev_at (with_next_at (without_link link_map q) u v) v u j
        ∙ ap (λ o. next_of (with_next_at (without_link link_map q) o v) j) named
        ∙ next_of-with_next_at (without_link link_map q) (Some j) v j (IsValidAt-Some (without_link link_map q) j valid)
        ∙ altered-same (next_of (without_link link_map q)) j v j refl

    elsewhere : (j : ℕ) → j ≢ q → next_of link_map j ≢ Some q → next_of (with_removal link_map q) j ≡ next_of link_map j
    elsewhere j ne not_q =
        let u = prev_of link_map q in
        let v = next_of link_map q in
        let unnamed : IsElsewhere u j = λ i named s. not_q ((agrees.both j q).1 (named ∙ ap Some (sym s))) in
        next_of-with_prev_at (with_next_at (without_link link_map q) u v) v u j
        ∙ ap next_in (with_next_at-elsewhere (without_link link_map q) u v j unnamed)
        ∙ ap next_in (vacated-elsewhere link_map q j ne)

pub prev_skips : (link_map : LinkMap) (q : ℕ) → IsWellLinked link_map → Skips (prev_of link_map) (prev_of (with_removal link_map q)) q
prev_skips link_map q agrees = record { gone = ap prev_in (removed-at link_map q); past = past; elsewhere = elsewhere }
  where
    past : (j : ℕ) → j ≢ q → prev_of link_map j ≡ Some q → prev_of (with_removal link_map q) j ≡ prev_of link_map q
    past j ne to_q =
        let u = prev_of link_map q in
        let v = next_of link_map q in
        let named : v ≡ Some j = (agrees.both q j).1 to_q in
        let valid : HasLink (without_link link_map q) j = (HasLink-vacated link_map q j).1 (prev_valid link_map j q to_q, ne) in
        let written = with_next_at (without_link link_map q) u v in
        ap (λ o. prev_of (with_prev_at written o u) j) named
        ∙ prev_of-with_prev_at written (Some j) u j (IsValidAt-Some written j ((HasLink-with_next_at (without_link link_map q) u v j).1 valid))
        ∙ altered-same (prev_of written) j u j refl

    elsewhere : (j : ℕ) → j ≢ q → prev_of link_map j ≢ Some q → prev_of (with_removal link_map q) j ≡ prev_of link_map j
    elsewhere j ne not_q =
        let u = prev_of link_map q in
        let v = next_of link_map q in
        let unnamed : IsElsewhere v j = λ i named s. not_q ((agrees.both q j).0 (named ∙ ap Some (sym s))) in
        ap prev_in (with_prev_at-elsewhere (with_next_at (without_link link_map q) u v) v u j unnamed)
        ∙ prev_of-with_next_at (without_link link_map q) u v j
        ∙ ap prev_in (vacated-elsewhere link_map q j ne)

pub removed_agrees : (link_map : LinkMap) (q : ℕ) → IsWellLinked link_map → IsWellLinked (with_removal link_map q)
removed_agrees link_map q agrees =
    record {
      both = skips_undo (next_of link_map) (prev_of link_map) (next_of (with_removal link_map q)) (prev_of (with_removal link_map q)) q
          agrees.both (next_skips link_map q agrees) (prev_skips link_map q agrees);
    }

pub removed_in_pairs : (link_map : LinkMap) (q : ℕ) → IsWellLinked link_map → RemovesPairs link_map (with_removal link_map q) q
removed_in_pairs link_map q agrees =
    record {
      pairs = skips_pairs (next_of link_map) (prev_of link_map) (next_of (with_removal link_map q)) q agrees.both (next_skips link_map q agrees);
      links = HasLink-removed link_map q;
    }

pub removed_unnamed : (link_map : LinkMap) (q : ℕ) → IsWellLinked link_map → (j : ℕ) → (next_of (with_removal link_map q) j ≢ Some q) × (prev_of (with_removal link_map q) j ≢ Some q)
removed_unnamed link_map q agrees j =
    let valid_q : HasLink (with_removal link_map q) q → ⊥ = λ v. ((HasLink-removed link_map q q).0 v).1 refl in
    let both = (removed_agrees link_map q agrees).both in
    (λ e. valid_q (prev_valid (with_removal link_map q) q j ((both j q).0 e)), λ e. valid_q (next_valid (with_removal link_map q) q j ((both q j).1 e)))

pub removed_lone : (link_map : LinkMap) (q : ℕ) → prev_of link_map q ≡ None → next_of link_map q ≡ None → with_removal link_map q ≡ without_link link_map q
removed_lone link_map q start end = ap₂ (with_neighbors (without_link link_map q)) start end

pub removed_of_lone : (link_map : LinkMap) (q : ℕ) → link_map q ≡ None → with_removal (with_lone link_map q) q ≡ link_map
removed_of_lone link_map q free =
    removed_lone (with_lone link_map q) q (ap prev_in (with_lone-at link_map q q refl)) (ap next_in (with_lone-at link_map q q refl)) ∙ fun_ext (λ j. by j (cases_eq j q))
  where
    by : (j : ℕ) → (j ≡ q) ⊎ (j ≢ q) → without_link (with_lone link_map q) q j ≡ link_map j
    by j (inl e) = vacated-at (with_lone link_map q) q j e ∙ sym (ap link_map e ∙ free)
    by j (inr ne) = vacated-elsewhere (with_lone link_map q) q j ne ∙ with_lone-elsewhere link_map q j ne
