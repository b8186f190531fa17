-- A new lone link keeps interlinks in agreement, adds no pair, and is a chain of its own.
use Rattle.std.specs.Prelude.{◌≡◌, ◌≢◌, ◌↔◌, ℕ, ◌⊎◌, List, Option, None, Some}
use Rattle.std.proofs.Common.{sym, refl, ap, ◌∙◌, subst, inl, inr, ⊎_elim}
use Rattle.std.proofs.lemmas.Bool.{cases_eq}
use Rattle.chain_laws.specs.Chains.{LinkMap, Chain, items, IsChain, HasLink, IsWellLinked, IsMember, AreLinked, prev_in, next_in, prev_of, next_of}
use Rattle.chain_laws.specs.Joins.{with_lone, AddsLone}
use Rattle.chain_laws.proofs.InterlinkLemmas.Inverses.{if_same, if_other}
use Rattle.chain_laws.proofs.ChainLemmas.LinkedLists.{link, AreLinked-frame, IsChain-frame}
use Rattle.chain_laws.proofs.InterlinkLemmas.Linked.{HasLink-same}

pub with_lone-at : (link_map : LinkMap) (q j : ℕ) → j ≡ q → with_lone link_map q j ≡ Some (link None None)
with_lone-at link_map q j e = if_same j q (Some (link None None)) (link_map j) e

pub with_lone-elsewhere : (link_map : LinkMap) (q j : ℕ) → j ≢ q → with_lone link_map q j ≡ link_map j
with_lone-elsewhere link_map q j ne = if_other j q (Some (link None None)) (link_map j) ne

pub next_of-with_lone : (link_map : LinkMap) (q : ℕ) → link_map q ≡ None → (j : ℕ) → next_of (with_lone link_map q) j ≡ next_of link_map j
next_of-with_lone link_map q free j = ⊎_elim
    (λ e. ap next_in (with_lone-at link_map q j e) ∙ sym (ap next_in (ap link_map e ∙ free)))
    (λ ne. ap next_in (with_lone-elsewhere link_map q j ne))
    (cases_eq j q)

pub prev_of-with_lone : (link_map : LinkMap) (q : ℕ) → link_map q ≡ None → (j : ℕ) → prev_of (with_lone link_map q) j ≡ prev_of link_map j
prev_of-with_lone link_map q free j = ⊎_elim
    (λ e. ap prev_in (with_lone-at link_map q j e) ∙ sym (ap prev_in (ap link_map e ∙ free)))
    (λ ne. ap prev_in (with_lone-elsewhere link_map q j ne))
    (cases_eq j q)

pub with_lone_agrees : (link_map : LinkMap) (q : ℕ) → link_map q ≡ None → IsWellLinked link_map → IsWellLinked (with_lone link_map q)
with_lone_agrees link_map q free agrees =
    record {
      both = λ i j. (
        λ e. prev_of-with_lone link_map q free j ∙ (agrees.both i j).0 (sym (next_of-with_lone link_map q free i) ∙ e),
        λ e. next_of-with_lone link_map q free i ∙ (agrees.both i j).1 (sym (prev_of-with_lone link_map q free j) ∙ e),
      );
    }

reports_same : (link_map : LinkMap) (q : ℕ) (xs : List ℕ) → (IsMember xs q → ⊥) → (i : ℕ) → IsMember xs i → with_lone link_map q i ≡ link_map i
reports_same link_map q xs none i h = with_lone-elsewhere link_map q i (λ e. none (subst (IsMember xs) e h))

pub AreLinked-with_lone : (link_map : LinkMap) (q : ℕ) (before : Option ℕ) (xs : List ℕ) (after : Option ℕ) → (IsMember xs q → ⊥)
    → AreLinked link_map before xs after ↔ AreLinked (with_lone link_map q) before xs after
AreLinked-with_lone link_map q before xs after none = (
  AreLinked-frame link_map (with_lone link_map q) before xs after (λ i h. sym (reports_same link_map q xs none i h)),
  AreLinked-frame (with_lone link_map q) link_map before xs after (reports_same link_map q xs none),
)

pub IsChain-with_lone : (link_map : LinkMap) (q : ℕ) (c : Chain) → (IsMember (items c) q → ⊥) → IsChain link_map c ↔ IsChain (with_lone link_map q) c
IsChain-with_lone link_map q c none = (
  IsChain-frame link_map (with_lone link_map q) c (λ i h. sym (reports_same link_map q (items c) none i h)),
  IsChain-frame (with_lone link_map q) link_map c (reports_same link_map q (items c) none),
)

pub HasLink-with_lone : (link_map : LinkMap) (q i : ℕ) → HasLink (with_lone link_map q) i ↔ (HasLink link_map i ⊎ (i ≡ q))
HasLink-with_lone link_map q i = (
  λ h. ⊎_elim
      (λ e. let r : HasLink link_map i ⊎ (i ≡ q) = inr e in r)
      (λ ne. inl ((HasLink-same (with_lone link_map q) link_map i (with_lone-elsewhere link_map q i ne)).0 h))
      (cases_eq i q),
  λ h. ⊎_elim
      (λ v. ⊎_elim
      (λ e. record { link = link None None; links = with_lone-at link_map q i e })
      (λ ne. (HasLink-same (with_lone link_map q) link_map i (with_lone-elsewhere link_map q i ne)).1 v)
      (cases_eq i q))
      (λ e. record { link = link None None; links = with_lone-at link_map q i e })
      h,
)

pub with_lone_adds : (link_map : LinkMap) (q : ℕ) → link_map q ≡ None → AddsLone link_map (with_lone link_map q) q
with_lone_adds link_map q free =
    record {
      alone = (λ e. cc, (λ h. h, tt), (with_lone-at link_map q q refl, tt));
      rest = IsChain-with_lone link_map q;
      pairs = λ i j. (λ e. sym (next_of-with_lone link_map q free i) ∙ e, λ e. next_of-with_lone link_map q free i ∙ e);
      links = HasLink-with_lone link_map q;
    }
