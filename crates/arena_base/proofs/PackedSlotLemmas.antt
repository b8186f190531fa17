-- Trimming to the first `n` slots, exactly the entries.
use Rattle.std.proofs.Common.{◌≡◌, ℕ, zero, suc, ◌<◌, ◌≤◌, cond, List, [], ◌∷◌, length, map, take, Option, None, Some, refl, ap, sym, ◌∙◌, arith}
use Rattle.std.specs.Prelude.{true, false, IsSome, count_by, is_some, slice_index_or, slice_get}
use Rattle.std.proofs.lemmas.List.{length-take}
use Rattle.std.proofs.lemmas.List.Sums.{sum_by-cons}
use Rattle.arena_core.specs.declared.packed_option.PackedOption.{PackedOption}
use Rattle.arena_base.specs.DetachedSlots.{before_cut, without_free_end, free_from, IsPacked}
use Rattle.arena_base.specs.Slots.{item_at, entry_of, free_slot, IsSound}
use Rattle.arena_base.specs.declared.slot.ArenaSlot.{ArenaSlot}
use Rattle.arena_base.specs.declared.slot.ArenaSlot.TheVariants.{Allocated, Free}
use Rattle.arena_base.proofs.TrimLemmas.{map-take}

module _ {X : Type 0} where
  pub all_cut : (xs : List (Option X)) → ((k : ℕ) → slice_index_or xs k None ≡ None) → without_free_end xs ≡ []
  all_cut [] none = refl
  all_cut (x ∷ xs) none =
      let first : x ≡ None = none 0 in
      ap (λ (o : Option X). before_cut o (without_free_end xs)) first ∙ ap (before_cut None) (all_cut xs (λ k. none (suc k)))

  some_there : (x : Option X) → IsSome x → (y : X) × (x ≡ Some y)
  some_there None some = let both : false ≡ true = some in absurd cc
  some_there (Some y) some = (y, refl)

  cut_behind : (n : ℕ) (xs : List (Option X)) → ((k : ℕ) → k < n → IsSome (slice_index_or xs k None)) → ((k : ℕ) → n ≤ k → slice_index_or xs k None ≡ None) → without_free_end xs ≡ take n xs
  cut_behind zero [] front behind = refl
  cut_behind zero (x ∷ xs) front behind = all_cut (x ∷ xs) (λ k. behind k (omega arith))
  cut_behind (suc n) [] front behind = refl
  cut_behind (suc n) (x ∷ xs) front behind =
      let first = some_there x (front 0 (omega arith)) in
      let rest = cut_behind n xs (λ k below. front (suc k) (omega (arith, below))) (λ k above. behind (suc k) (omega (arith, above))) in
      ap (λ (o : Option X). before_cut o (without_free_end xs)) first.1 ∙ (ap (λ (ys : List (Option X)). Some first.0 ∷ ys) rest ∙ ap (λ (o : Option X). o ∷ take n xs) (sym first.1))

  none_left : (n i : ℕ) (xs : List (Option X)) → ((k : ℕ) → k < n → IsSome (slice_index_or xs k None)) → free_from i (take n xs) ≡ []
  none_left zero i [] front = refl
  none_left zero i (x ∷ xs) front = refl
  none_left (suc n) i [] front = refl
  none_left (suc n) i (x ∷ xs) front =
      let first = some_there x (front 0 (omega arith)) in
      ap (λ (o : Option X). free_from i (o ∷ take n xs)) first.1 ∙ none_left n (suc i) xs (λ k below. front (suc k) (omega (arith, below)))

  module _ (n : ℕ) (xs : List (Option X)) (packed : IsPacked xs n) where
    in_front : (k : ℕ) → k < n → IsSome (slice_index_or xs k None)
    in_front k below = packed.taken (suc k) (omega arith) (omega (arith, below))

    pub packed-trimmed : without_free_end xs ≡ take n xs
    packed-trimmed = cut_behind n xs in_front (λ k above. packed.free (suc k) (omega (arith, above)))

    pub packed-none_free : free_from 1 (without_free_end xs) ≡ []
    packed-none_free = ap (free_from 1) packed-trimmed ∙ none_left n 1 xs in_front

module _ {P T Inx Gen Word : Type 0} where
  none_free_at : (n : ℕ) (slots : List (ArenaSlot P T Inx Gen Word)) (k : ℕ) (next : PackedOption Inx Word) → ((k : ℕ) → k < n → IsSome (slice_index_or (map entry_of slots) k None))
      → slice_get (take n slots) k ≡ Some (free_slot next) → ⊥
  none_free_at zero [] k next front is = cc
  none_free_at zero (s ∷ slots) k next front is = cc
  none_free_at (suc n) [] k next front is = cc
  none_free_at (suc n) (s ∷ slots) (suc k) next front is = none_free_at n slots k next (λ k below. front (suc k) (omega (arith, below))) is
  none_free_at (suc n) (Allocated g t ∷ slots) zero next front is = cc
  none_free_at (suc n) (Free other ∷ slots) zero next front is = let both : false ≡ true = front 0 (omega arith) in cc

  taken_count : (n : ℕ) (slots : List (ArenaSlot P T Inx Gen Word)) → ((k : ℕ) → k < n → IsSome (slice_index_or (map entry_of slots) k None))
      → (n ≡ count_by is_some (map entry_of (take n slots))) × (n ≡ length (take n slots))
  taken_count zero [] front = (refl, refl)
  taken_count zero (s ∷ slots) front = (refl, refl)
  taken_count (suc n) [] front = let both : false ≡ true = front 0 (omega arith) in absurd cc
  taken_count (suc n) (Free other ∷ slots) front = let both : false ≡ true = front 0 (omega arith) in absurd cc
  taken_count (suc n) (Allocated g t ∷ slots) front =
      let rest = taken_count n slots (λ k below. front (suc k) (omega (arith, below))) in (
        omega (arith, rest.0, sum_by-cons (λ (o : Option (Gen × T)). cond (is_some o) 1 0) (Some (g, t)) (map entry_of (take n slots))),
        ap suc rest.1,
      )

  module _ (n : ℕ) (slots : List (ArenaSlot P T Inx Gen Word)) (packed : IsPacked (map entry_of slots) n) where
    front : (k : ℕ) → k < n → IsSome (slice_index_or (map entry_of slots) k None)
    front k below = packed.taken (suc k) (omega arith) (omega (arith, below))

    pub packed-entries : map entry_of (take n slots) ≡ without_free_end (map entry_of slots)
    packed-entries = map-take slots n ∙ sym (packed-trimmed n (map entry_of slots) packed)

    pub packed-within : n ≤ length slots
    packed-within = omega (arith, (taken_count n slots front).1, length-take n slots)

    pub packed_sound : (number : PackedOption Inx Word → Option ℕ) (greatest : ℕ) (head : PackedOption Inx Word) → number head ≡ None → length slots ≤ greatest → IsSound number (take n slots) greatest n head []
    packed_sound number greatest head none fits =
        let counts = taken_count n slots front in
        record {
          linked = none;
          apart = tt;
          covers = λ m next free. absurd (none_free m next free);
          counted = counts.0;
          total = omega (arith, counts.1);
          fits = omega (arith, fits, packed-within, counts.1);
        }
      where
        none_free : (m : ℕ) (next : PackedOption Inx Word) → item_at (take n slots) m ≡ Some (free_slot next) → ⊥
        none_free zero next is = cc
        none_free (suc k) next is = none_free_at n slots k next front is
