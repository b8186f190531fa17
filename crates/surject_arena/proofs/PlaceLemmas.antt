-- The table of the places of the values, which is filled by ascending index.
use Rattle.std.proofs.Common.{◌≡◌, ℕ, zero, suc, ◌+◌, ◌<◌, ◌≤◌, ◌⊎◌, inl, inr, List, [], ◌∷◌, ◌++◌, map, length, Some, refl, sym, ap, ◌∙◌, subst, arith, length-append, append_assoc, append-nil}
use Rattle.std.specs.Prelude.{slice_index_or}
use Rattle.std.proofs.lemmas.Bool.{cases_eq}
use Rattle.std.proofs.lemmas.List.{get_or_append_left, get_or_past}
use Rattle.std.proofs.Math.Seq.{get_or-append_seam}
use Rattle.arena_traits.specs.Entries.{AscendsFrom, index_of}
use Rattle.chain_laws.specs.Chains.{IsMember}
use Rattle.chain_laws.specs.Arrangements.{place_in}
use Rattle.chain_laws.proofs.RenamingLemmas.Positions.{has-place, place-last, place-before_last, place-within}
use Rattle.surject_arena.specs.Renames.{HasPlaces}
use Rattle.surject_arena.proofs.OptionLemmas.{same_some}

abbrev pub Rise : ℕ → List ℕ → Type 0
Rise j [] = Unit {0}
Rise j (i ∷ is) = (j ≤ i) × Rise (suc i) is

abbrev pub indexes : {Gen : Type 0} → List (ℕ × Gen) → List ℕ
indexes ps = map (λ p. p.0) ps

pub indexes_rise : {Gen X : Type 0} (j k : ℕ) (es : List ((ℕ × Gen) × X)) → k ≤ j → AscendsFrom j es → Rise k (indexes (map (λ e. e.0) es))
indexes_rise j k [] low ascends = tt
indexes_rise j k (e ∷ es) low ascends = (omega (arith, low, ascends.0), indexes_rise (suc e.0.0) (suc e.0.0) es (omega arith) ascends.1)

pub indexes_of : {Gen X : Type 0} (es : List ((ℕ × Gen) × X)) → indexes (map (λ e. e.0) es) ≡ map index_of es
indexes_of [] = refl
indexes_of (e ∷ es) = ap (λ l. e.0.0 ∷ l) (indexes_of es)

within_end : (xs : List ℕ) (i : ℕ) → (i < length xs) ⊎ (length xs ≤ i)
within_end [] i = inr (omega arith)
within_end (x ∷ xs) zero = inl (omega arith)
within_end (x ∷ xs) (suc i) = by (within_end xs i)
  where
    by : (i < length xs) ⊎ (length xs ≤ i) → (suc i < length (x ∷ xs)) ⊎ (length (x ∷ xs) ≤ suc i)
    by (inl low) = inl (omega (arith, low))
    by (inr high) = inr (omega (arith, high))

-- The places of the n indexes that were passed are in the table, and those ahead are past its end.
pub record ArePlaced (all ahead places : List ℕ) (n : ℕ) : Type 0 where
  pub passed : List ℕ
  pub parts : passed ++ ahead ≡ all
  pub count : length passed ≡ n
  pub placed : HasPlaces passed places
  pub above : Rise (length places) ahead

pub placing_begins : (all ahead : List ℕ) → ahead ≡ all → Rise 0 ahead → ArePlaced all ahead [] 0
placing_begins all ahead same rise = record { passed = []; parts = same; count = refl; placed = λ i k at. absurd (let h = at in cc); above = rise }

module _ (all ahead rest places : List ℕ) (n i : ℕ) (are : ArePlaced all ahead places n) (first : ahead ≡ i ∷ rest) where
  rises : Rise (length places) (i ∷ rest)
  rises = subst (Rise (length places)) first are.above

  pub count_below : n < length all
  count_below = omega (arith, are.count, ap length are.parts, length-append are.passed ahead, ap length first)

  new_index : IsMember are.passed i → ⊥
  new_index has =
      let at = has-place 1 are.passed i has in
      omega (arith, (place-within 1 are.passed i at.0 at.1).0, are.placed i at.0 at.1, get_or_past places i 0 rises.0)

  pub placing_goes_on : (resized filled : List ℕ) → length resized ≡ i → ((j : ℕ) → j < i → j < length places → slice_index_or resized j 0 ≡ slice_index_or places j 0) → filled ≡ resized ++ (n + 1) ∷ []
      → ArePlaced all rest filled (n + 1)
  placing_goes_on resized filled long same is = record {
    passed = are.passed ++ i ∷ [];
    parts = append_assoc are.passed (i ∷ []) rest ∙ (ap (λ (l : List ℕ). are.passed ++ l) (sym first) ∙ are.parts);
    count = omega (arith, are.count, length-append are.passed (i ∷ []));
    placed = placed;
    above = subst (λ (m : ℕ). Rise m rest) (sym longer) rises.1;
  }
    where
      longer : length filled ≡ suc i
      longer = omega (arith, long, ap length is, length-append resized ((n + 1) ∷ []))

      placed : HasPlaces (are.passed ++ i ∷ []) filled
      placed j k at = by (cases_eq i j)
        where
          by : (i ≡ j) ⊎ (i ≡ j → ⊥) → slice_index_or filled j 0 ≡ k
          by (inl here) =
              let place : length are.passed + 1 ≡ k = same_some (length are.passed + 1) k (sym (place-last are.passed i new_index) ∙ (ap (place_in (are.passed ++ i ∷ [])) here ∙ at)) in
              ap (λ (l : List ℕ). slice_index_or l j 0) is ∙ (ap (λ (m : ℕ). slice_index_or (resized ++ (n + 1) ∷ []) m 0) (sym here ∙ sym long) ∙ (get_or-append_seam resized (n + 1) [] 0 ∙ (ap (λ (m : ℕ). m + 1) (sym are.count) ∙ place)))
          by (inr other) =
              let before : place_in are.passed j ≡ Some k = sym (place-before_last are.passed i j other) ∙ at in
              let was = are.placed j k before in
              let low : j < length places = inside (within_end places j) was (place-within 1 are.passed j k before).0 in
              ap (λ (l : List ℕ). slice_index_or l j 0) is ∙ (get_or_append_left resized ((n + 1) ∷ []) 0 j (omega (arith, low, long, rises.0)) ∙ (same j (omega (arith, low, rises.0)) low ∙ was))
            where
              inside : (j < length places) ⊎ (length places ≤ j) → slice_index_or places j 0 ≡ k → 1 ≤ k → j < length places
              inside (inl low) was positive = low
              inside (inr high) was positive = absurd (omega (arith, was, positive, get_or_past places j 0 high))

pub all_placed : (all ahead places : List ℕ) (n : ℕ) → ArePlaced all ahead places n → ahead ≡ [] → HasPlaces all places
all_placed all ahead places n are none = subst (λ (l : List ℕ). HasPlaces l places) (sym (append-nil are.passed) ∙ (ap (λ (l : List ℕ). are.passed ++ l) (sym none) ∙ are.parts)) are.placed
