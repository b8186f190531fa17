-- Lists of items stored in an arena, and what an insertion keeps of them.
use Rattle.std.proofs.Common.{◌≡◌, ◌≢◌, ℕ, suc, ◌≤◌, inl, inr, List, [], ◌∷◌, ◌++◌, map, Option, None, Some, refl, sym, ap, ◌∙◌, subst, arith, eq-eqb}
use mathlib.Core.List.{reverse_aux}
use Rattle.std.specs.Prelude.{◌⊎◌, is_some, Bool, true, false, cond, ◌==◌}
use Rattle.std.proofs.lemmas.List.{map-append, reverse-append}
use Rattle.chain_laws.specs.Chains.{IsMember, AreDistinct}
use Rattle.chain_laws.proofs.ListLemmas.Members.{IsMember-left, IsMember-right, IsMember-parts}
use Rattle.chain_laws.proofs.ListLemmas.MemberLaws.{once_in_middle}
use Rattle.chain_laws.proofs.InterlinkLemmas.Inverses.{one_some}
use Rattle.arena_traits.specs.Arena.{IsValid}
use Rattle.arena_traits.specs.Entries.{index_of, found, first_key, last_key, AscendsFrom}
use Rattle.chain_lists.specs.Lists.{Item, AreEntries, indexes}

module _ {Gen T : Type 0} where
  pub are_stored-append : (entry : ℕ → Option (Gen × T)) (xs ys : List (Item Gen T)) → AreEntries entry xs → AreEntries entry ys → AreEntries entry (xs ++ ys)
  are_stored-append entry [] ys a b = b
  are_stored-append entry (x ∷ xs) ys a b = (a.0, are_stored-append entry xs ys a.1 b)

  pub are_stored-left : (entry : ℕ → Option (Gen × T)) (xs ys : List (Item Gen T)) → AreEntries entry (xs ++ ys) → AreEntries entry xs
  are_stored-left entry [] ys a = tt
  are_stored-left entry (x ∷ xs) ys a = (a.0, are_stored-left entry xs ys a.1)

  pub are_stored-right : (entry : ℕ → Option (Gen × T)) (xs ys : List (Item Gen T)) → AreEntries entry (xs ++ ys) → AreEntries entry ys
  are_stored-right entry [] ys a = a
  are_stored-right entry (x ∷ xs) ys a = are_stored-right entry xs ys a.1

  pub are_stored-frame : (old new : ℕ → Option (Gen × T)) (xs : List (Item Gen T)) → ((i : ℕ) → IsMember (indexes xs) i → new i ≡ old i) → AreEntries old xs → AreEntries new xs
  are_stored-frame old new [] same s = tt
  are_stored-frame old new (x ∷ xs) same s = (same x.0.0 (inl refl) ∙ s.0, are_stored-frame old new xs (λ i has. same i (inr has)) s.1)

  pub are_stored-reversed : (entry : ℕ → Option (Gen × T)) (xs ys : List (Item Gen T)) → AreEntries entry xs → AreEntries entry ys → AreEntries entry (reverse_aux xs ys)
  are_stored-reversed entry [] ys a b = b
  are_stored-reversed entry (x ∷ xs) ys a b = are_stored-reversed entry xs (x ∷ ys) a.1 (a.0, b)

  pub indexes-reversed : (xs ys : List (Item Gen T)) → indexes (reverse_aux xs ys) ≡ reverse_aux (indexes xs) (indexes ys)
  indexes-reversed [] ys = refl
  indexes-reversed (x ∷ xs) ys = indexes-reversed xs (x ∷ ys)

  pub same_pointer : (entry : ℕ → Option (Gen × T)) (p q : ℕ × Gen) → IsValid entry p → IsValid entry q → p.0 ≡ q.0 → p ≡ q
  same_pointer entry p q one two same =
      let there : Some (p.1, one.value) ≡ Some (q.1, two.value) = sym one.stored ∙ (ap entry same ∙ two.stored) in
      ap (λ (i : ℕ). (i, p.1)) same ∙ ap (λ (e : Gen × T). (q.0, e.0)) (one_some there)

  abbrev item_of : ℕ → Gen × T → Item Gen T
  item_of i e = ((i, e.0), e.1)

  abbrev entry_of : Item Gen T → Gen × T
  entry_of e = (e.0.1, e.1)

  same_item : (x y : Item Gen T) → x.0.0 ≡ y.0.0 → entry_of x ≡ entry_of y → x ≡ y
  same_item x y index there = ap (λ (i : ℕ). item_of i (entry_of x)) index ∙ ap (item_of y.0.0) there

  pub same_items : (entry : ℕ → Option (Gen × T)) (xs ys : List (Item Gen T)) → AreEntries entry xs → AreEntries entry ys → indexes xs ≡ indexes ys → xs ≡ ys
  same_items entry [] [] a b same = refl
  same_items entry [] (y ∷ ys) a b same = absurd (cc)
  same_items entry (x ∷ xs) [] a b same = absurd (cc)
  same_items entry (x ∷ xs) (y ∷ ys) a b same =
      let index : x.0.0 ≡ y.0.0 = cc in
      let rest : indexes xs ≡ indexes ys = cc in
      let first : x ≡ y = same_item x y index (one_some (sym a.0 ∙ (ap entry index ∙ b.0))) in
      ap (λ (l : List (Item Gen T)). x ∷ l) (same_items entry xs ys a.1 b.1 rest) ∙ ap (λ (e : Item Gen T). e ∷ ys) first

  pub item_among : (entry : ℕ → Option (Gen × T)) (xs : List (Item Gen T)) (p : ℕ × Gen) → AreEntries entry xs → IsValid entry p → IsMember (indexes xs) p.0
      → (before : List (Item Gen T)) × (t : T) × (after : List (Item Gen T)) × (xs ≡ before ++ (p, t) ∷ after)
  item_among entry [] p s valid has = absurd has
  item_among entry (x ∷ xs) p s valid (inl is) =
      let same : x.0 ≡ p = same_pointer entry x.0 p (record { value = x.1; stored = s.0 }) valid is in
      ([], x.1, xs, ap (λ (k : ℕ × Gen). (k, x.1) ∷ xs) same)
  item_among entry (x ∷ xs) p s valid (inr has) =
      let more = item_among entry xs p s.1 valid has in
      (x ∷ more.0, more.1, more.2, ap (λ (l : List (Item Gen T)). x ∷ l) more.3)

  pub are_stored-some : (entry : ℕ → Option (Gen × T)) (xs : List (Item Gen T)) (i : ℕ) → AreEntries entry xs → IsMember (indexes xs) i → is_some (entry i) ≡ true
  are_stored-some entry [] i s has = absurd has
  are_stored-some entry (x ∷ xs) i s (inl is) = ap (λ k. is_some (entry k)) (sym is) ∙ ap is_some s.0
  are_stored-some entry (x ∷ xs) i s (inr has) = are_stored-some entry xs i s.1 has

  pub among-left : (xs ys : List (Item Gen T)) (i : ℕ) → IsMember (indexes xs) i → IsMember (indexes (xs ++ ys)) i
  among-left xs ys i has = subst (λ (l : List ℕ). IsMember l i) (sym (map-append index_of xs ys)) (IsMember-left (map index_of xs) (map index_of ys) i has)

  pub among-right : (xs ys : List (Item Gen T)) (i : ℕ) → IsMember (indexes ys) i → IsMember (indexes (xs ++ ys)) i
  among-right xs ys i has = subst (λ (l : List ℕ). IsMember l i) (sym (map-append index_of xs ys)) (IsMember-right (map index_of xs) (map index_of ys) i has)

  pub among-parts : (before after : List (Item Gen T)) (i : ℕ) → IsMember (indexes (before ++ after)) i → IsMember (indexes before) i ⊎ IsMember (indexes after) i
  among-parts before after i has = IsMember-parts (indexes before) (indexes after) i (subst (λ (l : List ℕ). IsMember l i) (map-append index_of before after) has)

  pub last_apart : (e : Item Gen T) (es : List (Item Gen T)) → (before : List (Item Gen T)) × (last : Item Gen T) × (e ∷ es ≡ before ++ last ∷ [])
  last_apart e [] = ([], e, refl)
  last_apart e (f ∷ fs) =
      let rest = last_apart f fs in
      (e ∷ rest.0, rest.1, ap (λ (l : List (Item Gen T)). e ∷ l) rest.2)

  pub last_is : (before : List (Item Gen T)) (e : Item Gen T) → last_key (before ++ e ∷ []) ≡ Some e.0
  last_is before e = ap first_key (reverse-append before (e ∷ []))

  pub last_key-cons : (e f : Item Gen T) (fs : List (Item Gen T)) → last_key (f ∷ fs) ≡ last_key (e ∷ f ∷ fs)
  last_key-cons e f fs =
      let last = last_apart f fs in
      ap last_key last.2 ∙ (last_is last.0 last.1 ∙ sym (ap (λ (l : List (Item Gen T)). last_key (e ∷ l)) last.2 ∙ last_is (e ∷ last.0) last.1))

  pub apart : (before : List (Item Gen T)) (e : Item Gen T) (after : List (Item Gen T)) → AreDistinct (indexes (before ++ e ∷ after))
      → (IsMember (indexes (before ++ after)) e.0.0 → ⊥) × AreDistinct (indexes (before ++ after))
  apart before e after once =
      let both = (once_in_middle (indexes before) (indexes after) e.0.0).0 (subst AreDistinct (map-append index_of before (e ∷ after)) once) in
      (λ has. both.0 (subst (λ (l : List ℕ). IsMember l e.0.0) (map-append index_of before after) has), subst AreDistinct (sym (map-append index_of before after)) both.1)

  pub stored_kept : (entry after : ℕ → Option (Gen × T)) (p : ℕ × Gen) → entry p.0 ≡ None → ((i : ℕ) → i ≢ p.0 → after i ≡ entry i) → (xs : List (Item Gen T)) → AreEntries entry xs → AreEntries after xs
  stored_kept entry after p free rest xs s = are_stored-frame entry after xs (λ i has. rest i (λ is. not_among (subst (λ (k : ℕ). IsMember (indexes xs) k) is has))) s
    where
      not_among : IsMember (indexes xs) p.0 → ⊥
      not_among has = let some = are_stored-some entry xs p.0 s has in let none = ap is_some free in let both = sym some ∙ none in cc

  ascends_low : (from i : ℕ) (es : List (Item Gen T)) → AscendsFrom from es → IsMember (indexes es) i → from ≤ i
  ascends_low from i [] ascends has = absurd has
  ascends_low from i (e ∷ es) ascends (inl is) = omega (arith, ascends.0, is)
  ascends_low from i (e ∷ es) ascends (inr has) = omega (arith, ascends.0, ascends_low (suc e.0.0) i es ascends.1 has)

  pub ascends_once : (from : ℕ) (es : List (Item Gen T)) → AscendsFrom from es → AreDistinct (indexes es)
  ascends_once from [] ascends = tt
  ascends_once from (e ∷ es) ascends = (λ has. absurd (omega (arith, ascends_low (suc e.0.0) e.0.0 es ascends.1 has)), ascends_once (suc e.0.0) es ascends.1)

  pub has_found : (i : ℕ) (es : List (Item Gen T)) → IsMember (indexes es) i → is_some (found i es) ≡ true
  has_found i [] has = absurd has
  has_found i (e ∷ es) has = by (e.0.0 == i) refl has (has_found i es)
    where
      by : (b : Bool) → (e.0.0 == i) ≡ b → IsMember (indexes (e ∷ es)) i → (IsMember (indexes es) i → is_some (found i es) ≡ true) → is_some (cond b (Some (e.0.1, e.1)) (found i es)) ≡ true
      by true same has rest = refl
      by false other (inl is) rest = absurd (let yes = eq-eqb e.0.0 i is in let both = sym yes ∙ other in cc)
      by false other (inr has) rest = rest has
