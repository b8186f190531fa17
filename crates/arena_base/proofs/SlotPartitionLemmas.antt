-- Entries and freed list partition the indexes of the slots.
use Rattle.std.proofs.Common.{◌≡◌, ℕ, zero, suc, ◌+◌, ◌<◌, ◌≤◌, List, [], ◌∷◌, ◌++◌, length, map, Option, None, Some, refl, ap, sym, ◌∙◌, arith, rules, inl, inr, ◌⊎◌}
use Rattle.std.specs.Prelude.{slice_index_or, All, min}
use Rattle.std.proofs.lemmas.List.Elements.{All-nil, All-cons}
use Rattle.arena_core.specs.Numbers.{IsWithin}
use Rattle.arena_core.specs.SlotStack.{IsWithinMaximum}
use Rattle.arena_traits.specs.Arena.{Arena, IsMember, AreDistinct, IsListed, IsCapacityFor}
use Rattle.arena_traits.specs.Entries.{entries_from, entries, index_of, CoverSlots}

IsMember-append : (xs ys : List ℕ) (n : ℕ) → IsMember xs n ⊎ IsMember ys n → IsMember (xs ++ ys) n
IsMember-append [] ys n (inl has) = absurd has
IsMember-append [] ys n (inr has) = has
IsMember-append (x ∷ xs) ys n (inl (inl same)) = inl same
IsMember-append (x ∷ xs) ys n (inl (inr has)) = inr (IsMember-append xs ys n (inl has))
IsMember-append (x ∷ xs) ys n (inr has) = inr (IsMember-append xs ys n (inr has))

IsMember-of : (xs ys : List ℕ) (n : ℕ) → IsMember (xs ++ ys) n → IsMember xs n ⊎ IsMember ys n
IsMember-of [] ys n has = inr has
IsMember-of (x ∷ xs) ys n (inl same) = inl (inl same)
IsMember-of (x ∷ xs) ys n (inr has) = elim (IsMember-of xs ys n has) [ inl first ↦ inl (inr first) | inr second ↦ inr second ]

AreDistinct-append : (xs ys : List ℕ) → AreDistinct xs → AreDistinct ys → ((n : ℕ) → IsMember xs n → IsMember ys n → ⊥) → AreDistinct (xs ++ ys)
AreDistinct-append [] ys first second none = second
AreDistinct-append (x ∷ xs) ys first second none = (
  λ has. elim (IsMember-of xs ys x has) [ inl here ↦ first.0 here | inr there ↦ none x (inl refl) there ],
  AreDistinct-append xs ys first.1 second (λ n here there. none n (inr here) there),
)

pub capacity_for : (greatest n capacity : ℕ) (maximum : Option ℕ) → n ≤ capacity → n ≤ greatest → IsWithinMaximum maximum capacity → IsCapacityFor greatest maximum n (min capacity greatest)
capacity_for greatest n capacity maximum fits most within = record {
  fits = search rules;
  at_most_greatest = search rules;
  within_maximum = below maximum within;
} where
  below : (m : Option ℕ) → IsWithinMaximum m capacity → IsWithinMaximum m (min capacity greatest)
  below None within = within
  below (Some most) within = search rules

module _ {Gen T : Type 0} where
  abbrev indexes : ℕ → List (Option (Gen × T)) → List ℕ
  indexes i slots = map index_of (entries_from i slots)

  indexes-above : (slots : List (Option (Gen × T))) (i n : ℕ) → IsMember (indexes i slots) n → i ≤ n
  indexes-above [] i n has = absurd has
  indexes-above (None ∷ slots) i n has = let above = indexes-above slots (suc i) n has in omega arith
  indexes-above (Some e ∷ slots) i n (inl same) = omega (arith, same)
  indexes-above (Some e ∷ slots) i n (inr has) = let above = indexes-above slots (suc i) n has in omega arith

  indexes-apart : (slots : List (Option (Gen × T))) (i : ℕ) → AreDistinct (indexes i slots)
  indexes-apart [] i = tt
  indexes-apart (None ∷ slots) i = indexes-apart slots (suc i)
  indexes-apart (Some e ∷ slots) i = (λ has. let above = indexes-above slots (suc i) i has in absurd (omega (arith, above)), indexes-apart slots (suc i))

  indexes-taken : (slots : List (Option (Gen × T))) (i n : ℕ) → IsMember (indexes i slots) n → (k : ℕ) × (e : Gen × T) × (i + k ≡ n) × (k < length slots) × (slice_index_or slots k None ≡ Some e)
  indexes-taken [] i n has = absurd has
  indexes-taken (None ∷ slots) i n has = let later = indexes-taken slots (suc i) n has in (suc later.0, later.1, omega (arith, later.2), omega (arith, later.3), later.4)
  indexes-taken (Some e ∷ slots) i n (inl same) = (0, e, omega (arith, same), omega arith, refl)
  indexes-taken (Some e ∷ slots) i n (inr has) = let later = indexes-taken slots (suc i) n has in (suc later.0, later.1, omega (arith, later.2), omega (arith, later.3), later.4)

  indexes-all : (slots : List (Option (Gen × T))) (i k n : ℕ) → i + k ≡ n → k < length slots → IsMember (indexes i slots) n ⊎ (slice_index_or slots k None ≡ None)
  indexes-all [] i k n at below = absurd (omega (arith, below))
  indexes-all (None ∷ slots) i zero n at below = inr refl
  indexes-all (Some e ∷ slots) i zero n at below = inl (inl (omega (arith, at)))
  indexes-all (None ∷ slots) i (suc k) n at below = indexes-all slots (suc i) k n (omega (arith, at)) (omega (arith, below))
  indexes-all (Some e ∷ slots) i (suc k) n at below =
      elim (indexes-all slots (suc i) k n (omega (arith, at)) (omega (arith, below))) [ inl has ↦ inl (inr has) | inr none ↦ inr none ]

  module _ (a : Arena Gen T) (listed : IsListed a) (placed touched : ℕ) where
    taken_or_free : (i : ℕ) → IsWithin (length a.slots) i → IsMember (indexes 1 a.slots) i ⊎ IsMember a.freed i
    taken_or_free zero within = absurd (omega (arith, within.0))
    taken_or_free (suc k) within = elim (indexes-all a.slots 1 k (suc k) (omega arith) (omega (arith, within.1))) [
      | inl has ↦ inl has
      | inr none ↦ inr (listed.listed (suc k) within.0 within.1 none)
    ]

    not_both : (i : ℕ) → IsMember (indexes 1 a.slots) i → IsMember a.freed i → ⊥
    not_both zero has free = let above = indexes-above a.slots 1 0 has in absurd (omega (arith, above))
    not_both (suc k) has free =
        let taken = indexes-taken a.slots 1 (suc k) has in
        let same : taken.0 ≡ k = omega (arith, taken.2) in
        let both : None ≡ Some taken.1 = sym (listed.free (suc k) free).0 ∙ (ap (λ j. slice_index_or a.slots j None) (sym same) ∙ taken.4) in cc

    inside : (i : ℕ) → IsMember (indexes 1 a.slots) i ⊎ IsMember a.freed i → IsWithin (length a.slots) i
    inside i (inl has) = let taken = indexes-taken a.slots 1 i has in (omega (arith, taken.2), omega (arith, taken.2, taken.3))
    inside i (inr free) = let here = listed.free i free in (here.1, here.2)

    pub they_fill : CoverSlots (entries a) (record { count = length a.slots; freed = a.freed; placed = placed; touched = touched })
    they_fill = record {
      apart = AreDistinct-append (indexes 1 a.slots) a.freed (indexes-apart a.slots 1) listed.apart not_both;
      all = λ i. (λ has. inside i (IsMember-of (indexes 1 a.slots) a.freed i has), λ within. IsMember-append (indexes 1 a.slots) a.freed i (taken_or_free i within));
    }

  indexes_within : (slots : List (Option (Gen × T))) (i greatest : ℕ) → 1 ≤ i → i + length slots ≤ suc greatest → All (λ e. IsWithin greatest (index_of e)) (entries_from i slots)
  indexes_within [] i greatest some fits = All-nil _
  indexes_within (None ∷ slots) i greatest some fits = indexes_within slots (suc i) greatest (omega arith) (omega (arith, fits))
  indexes_within (Some e ∷ slots) i greatest some fits =
      let here : IsWithin greatest i = (some, omega (arith, fits)) in
      All-cons (λ x. IsWithin greatest (index_of x)) ((i, e.0), e.1) (entries_from (suc i) slots) here (indexes_within slots (suc i) greatest (omega arith) (omega (arith, fits)))

  pub entries_within : (slots : List (Option (Gen × T))) (greatest : ℕ) → length slots ≤ greatest → All (λ e. IsWithin greatest (index_of e)) (entries_from 1 slots)
  entries_within slots greatest fits = indexes_within slots 1 greatest (omega arith) (omega (arith, fits))
