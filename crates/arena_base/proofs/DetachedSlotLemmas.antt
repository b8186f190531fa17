-- Steps on detached slots, in their model.
use Rattle.std.proofs.Common.{◌≡◌, ◌≢◌, ℕ, zero, suc, ◌+◌, ◌<◌, List, [], ◌∷◌, length, map, Option, None, Some, refl, ap, sym, ◌∙◌, subst, arith}
use Rattle.std.specs.Prelude.{true, false, IsSome, slice_index_or, slice_get, slice_set, swap}
use Rattle.std.specs.Option.{option_map}
use Rattle.std.proofs.Math.Decide.{ℕ_discrete}
use Rattle.std.proofs.lemmas.List.{length-map, length-set, map-set, set-set, get_or-set_same, get_or-set_other}
use Rattle.arena_core.specs.declared.packed_option.PackedOption.{PackedOption}
use Rattle.arena_traits.specs.Arena.{slot_at, with_slot}
use Rattle.arena_base.specs.DetachedSlots.{DetachedView, with_placed_entry, detached_with_value}
use Rattle.arena_base.specs.Slots.{entry_of, entry_in, allocated_slot, free_slot, with_value_in, with_generation_in, with_generation_at, detached_view}
use Rattle.arena_base.specs.declared.slot.ArenaSlot.{ArenaSlot}
use Rattle.arena_base.specs.declared.slot.ArenaSlot.TheVariants.{Allocated, Free}
use Rattle.arena_base.proofs.SlotLemmas.{entry_at-position, with_slot-position}
use Rattle.arena_base.proofs.ArenaModelLemmas.{entry_of-written}

module _ {X : Type 0} where
  slot_at-position : (xs : List (Option X)) (k n : ℕ) → k + 1 ≡ n → slice_index_or xs k None ≡ slot_at xs n
  slot_at-position xs k n at = let next : suc k ≡ n = omega (arith, at) in ap (slot_at xs) next

at_one : {X : Type 0} (xs : List X) (i j : ℕ) → j ≡ i → (x y z : X) → slice_set (slice_set xs i x) j z ≡ slice_set (slice_set xs i y) j z
at_one xs i j same x y z = ap (λ n. slice_set (slice_set xs i x) n z) same ∙ (set-set xs i x z ∙ (sym (set-set xs i y z) ∙ ap (λ n. slice_set (slice_set xs i y) n z) (sym same)))

abbrev regenerated : {Gen T : Type 0} → Gen → Option (Gen × T) → Option (Gen × T)
regenerated {Gen} {T} g o = option_map (λ (e : Gen × T). (g, e.1)) o

module _ {P T Inx Gen Word : Type 0} where
  entry_of-regenerated : (slot : ArenaSlot P T Inx Gen Word) (g : Gen) → entry_of (with_generation_in slot g) ≡ regenerated g (entry_of slot)
  entry_of-regenerated (Allocated h t) g = refl
  entry_of-regenerated (Free next) g = refl

  map-with_generation_at : (slots : List (ArenaSlot P T Inx Gen Word)) (k : ℕ) (g : Gen) → map entry_of (with_generation_at slots k g) ≡ slice_set (map entry_of slots) k (regenerated g (slice_index_or (map entry_of slots) k None))
  map-with_generation_at [] k g = refl
  map-with_generation_at (s ∷ slots) zero g = ap (λ o. o ∷ map entry_of slots) (entry_of-regenerated s g)
  map-with_generation_at (s ∷ slots) (suc k) g = ap (λ es. entry_of s ∷ es) (map-with_generation_at slots k g)

  pub length-with_generation_at : (slots : List (ArenaSlot P T Inx Gen Word)) (k : ℕ) (g : Gen) → length (with_generation_at slots k g) ≡ length slots
  length-with_generation_at [] k g = refl
  length-with_generation_at (s ∷ slots) zero g = refl
  length-with_generation_at (s ∷ slots) (suc k) g = ap suc (length-with_generation_at slots k g)

  index-map : (slots : List (ArenaSlot P T Inx Gen Word)) (k : ℕ) (d : ArenaSlot P T Inx Gen Word) → k < length slots → entry_of (slice_index_or slots k d) ≡ slice_index_or (map entry_of slots) k None
  index-map [] k d below = absurd (omega (arith, below))
  index-map (s ∷ slots) zero d below = refl
  index-map (s ∷ slots) (suc k) d below = index-map slots k d (omega (arith, below))

  map-swap : (slots : List (ArenaSlot P T Inx Gen Word)) (i j : ℕ) → i < length slots → j < length slots
      → map entry_of (swap slots i j) ≡ slice_set (slice_set (map entry_of slots) i (slice_index_or (map entry_of slots) j None)) j (slice_index_or (map entry_of slots) i None)
  map-swap [] i j first second = absurd (omega (arith, first))
  map-swap (d ∷ rest) i j first second =
      let slots : List (ArenaSlot P T Inx Gen Word) = d ∷ rest in
      map-set entry_of (slice_set slots i (slice_index_or slots j d)) j (slice_index_or slots i d)
      ∙ (ap (λ es. slice_set es j (entry_of (slice_index_or slots i d))) (map-set entry_of slots i (slice_index_or slots j d))
      ∙ (ap (λ o. slice_set (slice_set (map entry_of slots) i o) j (entry_of (slice_index_or slots i d))) (index-map slots j d second)
      ∙ ap (λ o. slice_set (slice_set (map entry_of slots) i (slice_index_or (map entry_of slots) j None)) j o) (index-map slots i d first)))

  pub length-swap : (slots : List (ArenaSlot P T Inx Gen Word)) (i j : ℕ) → length (swap slots i j) ≡ length slots
  length-swap [] i j = refl
  length-swap (d ∷ rest) i j =
      let slots : List (ArenaSlot P T Inx Gen Word) = d ∷ rest in
      length-set (slice_set slots i (slice_index_or slots j d)) j (slice_index_or slots i d) ∙ length-set slots i (slice_index_or slots j d)

  detached_moved_to : (slots items : List (ArenaSlot P T Inx Gen Word)) (capacity : ℕ) (maximum : Option ℕ) (i j from to : ℕ) (g : Gen) → i + 1 ≡ from → j + 1 ≡ to
      → map entry_of items ≡ slice_set (slice_set (map entry_of slots) i (slice_index_or (map entry_of slots) j None)) j (regenerated g (slice_index_or (map entry_of slots) i None))
      → detached_view items capacity maximum ≡ with_placed_entry (detached_view slots capacity maximum) from to g
  detached_moved_to slots items capacity maximum i j from to g at_from at_to moved =
      let es = map entry_of slots in
      let a : Option (Gen × T) = slice_index_or es i None in
      let all : map entry_of items ≡ with_slot (with_slot es from (slot_at es to)) to (regenerated g (slot_at es from)) =
      moved
      ∙ (ap (λ o. slice_set (slice_set es i o) j (regenerated g a)) (slot_at-position es j to at_to)
      ∙ (ap (λ o. slice_set (slice_set es i (slot_at es to)) j (regenerated g o)) (slot_at-position es i from at_from)
      ∙ (ap (λ fs. slice_set fs j (regenerated g (slot_at es from))) (sym (with_slot-position es i from (slot_at es to) at_from))
      ∙ sym (with_slot-position (with_slot es from (slot_at es to)) j to (regenerated g (slot_at es from)) at_to)))) in
      ap (λ fs. let h : DetachedView Gen T = record { slots = fs; stack_capacity = capacity; maximum = maximum } in h) all

  pub detached_placed : (slots : List (ArenaSlot P T Inx Gen Word)) (capacity : ℕ) (maximum : Option ℕ) (i j from to : ℕ) (g : Gen) → i + 1 ≡ from → j + 1 ≡ to → i < length slots → j < length slots
      → detached_view (swap (with_generation_at slots i g) i j) capacity maximum ≡ with_placed_entry (detached_view slots capacity maximum) from to g
  detached_placed slots capacity maximum i j from to g at_from at_to first second = detached_moved_to slots (swap (with_generation_at slots i g) i j) capacity maximum i j from to g at_from at_to (all ∙ by (ℕ_discrete j i))
    where
      inside : i < length (map entry_of slots)
      inside = omega (arith, first, length-map slots entry_of)

      long : length (with_generation_at slots i g) ≡ length slots
      long = length-with_generation_at slots i g

      with_generation : map entry_of (with_generation_at slots i g) ≡ slice_set (map entry_of slots) i (regenerated g (slice_index_or (map entry_of slots) i None))
      with_generation = map-with_generation_at slots i g

      all : map entry_of (swap (with_generation_at slots i g) i j) ≡ slice_set (slice_set (map entry_of slots) i (slice_index_or (slice_set (map entry_of slots) i (regenerated g (slice_index_or (map entry_of slots) i None))) j None)) j (regenerated g (slice_index_or (map entry_of slots) i None))
      all =
          map-swap (with_generation_at slots i g) i j (omega (arith, first, long)) (omega (arith, second, long))
          ∙ (ap (λ fs. slice_set (slice_set fs i (slice_index_or fs j None)) j (slice_index_or fs i None)) with_generation
          ∙ (ap (λ o. slice_set (slice_set (slice_set (map entry_of slots) i (regenerated g (slice_index_or (map entry_of slots) i None))) i (slice_index_or (slice_set (map entry_of slots) i (regenerated g (slice_index_or (map entry_of slots) i None))) j None)) j o) (get_or-set_same (map entry_of slots) i (regenerated g (slice_index_or (map entry_of slots) i None)) None inside)
          ∙ ap (λ fs. slice_set fs j (regenerated g (slice_index_or (map entry_of slots) i None))) (set-set (map entry_of slots) i (regenerated g (slice_index_or (map entry_of slots) i None)) (slice_index_or (slice_set (map entry_of slots) i (regenerated g (slice_index_or (map entry_of slots) i None))) j None))))

      by : Dec (j ≡ i) → slice_set (slice_set (map entry_of slots) i (slice_index_or (slice_set (map entry_of slots) i (regenerated g (slice_index_or (map entry_of slots) i None))) j None)) j (regenerated g (slice_index_or (map entry_of slots) i None)) ≡ slice_set (slice_set (map entry_of slots) i (slice_index_or (map entry_of slots) j None)) j (regenerated g (slice_index_or (map entry_of slots) i None))
      by (yes s) = at_one (map entry_of slots) i j s (slice_index_or (slice_set (map entry_of slots) i (regenerated g (slice_index_or (map entry_of slots) i None))) j None) (slice_index_or (map entry_of slots) j None) (regenerated g (slice_index_or (map entry_of slots) i None))
      by (no differs) = ap (λ o. slice_set (slice_set (map entry_of slots) i o) j (regenerated g (slice_index_or (map entry_of slots) i None))) (get_or-set_other (map entry_of slots) i j (regenerated g (slice_index_or (map entry_of slots) i None)) None differs)

  pub detached_moved : (slots : List (ArenaSlot P T Inx Gen Word)) (capacity : ℕ) (maximum : Option ℕ) (i j from to : ℕ) (g h : Gen) (t : T) (next : PackedOption Inx Word) → i + 1 ≡ from → j + 1 ≡ to
      → Some (h, t) ≡ slice_index_or (map entry_of slots) i None → (j ≢ i → slice_index_or (map entry_of slots) j None ≡ None)
      → detached_view (slice_set (slice_set slots i (free_slot next)) j (allocated_slot g t)) capacity maximum ≡ with_placed_entry (detached_view slots capacity maximum) from to g
  detached_moved slots capacity maximum i j from to g h t next at_from at_to stored free =
      detached_moved_to slots (slice_set (slice_set slots i (free_slot next)) j (allocated_slot g t)) capacity maximum i j from to g at_from at_to (all ∙ (by (ℕ_discrete j i) ∙ ap (λ o. slice_set (slice_set (map entry_of slots) i (slice_index_or (map entry_of slots) j None)) j (regenerated g o)) stored))
    where
      all : map entry_of (slice_set (slice_set slots i (free_slot next)) j (allocated_slot g t)) ≡ slice_set (slice_set (map entry_of slots) i None) j (Some (g, t))
      all = map-set entry_of (slice_set slots i (free_slot next)) j (allocated_slot g t) ∙ ap (λ (fs : List (Option (Gen × T))). slice_set fs j (Some (g, t))) (map-set entry_of slots i (free_slot next))

      by : Dec (j ≡ i) → slice_set (slice_set (map entry_of slots) i None) j (Some (g, t)) ≡ slice_set (slice_set (map entry_of slots) i (slice_index_or (map entry_of slots) j None)) j (Some (g, t))
      by (yes s) = at_one (map entry_of slots) i j s None (slice_index_or (map entry_of slots) j None) (Some (g, t))
      by (no differs) = ap (λ o. slice_set (slice_set (map entry_of slots) i o) j (Some (g, t))) (sym (free differs))

  module _ (slots : List (ArenaSlot P T Inx Gen Word)) (es : List (Option (Gen × T))) (same : map entry_of slots ≡ es) (i from : ℕ) (at_from : i + 1 ≡ from) where
    pub brought_there : None ≡ entry_in (slice_get slots i) → IsSome (slot_at es from) → ⊥
    brought_there none some =
        let free : slot_at es from ≡ None = sym (ap (λ fs. slot_at fs from) same) ∙ (entry_at-position slots i from at_from ∙ sym none) in
        let both : false ≡ true = subst IsSome free some in
        cc

    pub brought_free : (j to : ℕ) → j + 1 ≡ to → (to ≢ from → slot_at es to ≡ None) → j ≢ i → slice_index_or (map entry_of slots) j None ≡ None
    brought_free j to at_to free differs =
        slot_at-position (map entry_of slots) j to at_to ∙ (ap (λ fs. slot_at fs to) same ∙ free (λ s. differs (omega (arith, s, at_to, at_from))))

  pub detached_lent : (slots items : List (ArenaSlot P T Inx Gen Word)) (capacity new_capacity : ℕ) (maximum most : Option ℕ) (k n : ℕ) (slot : ArenaSlot P T Inx Gen Word) (w : T) → k + 1 ≡ n → slice_get slots k ≡ Some slot
      → items ≡ slice_set slots k (with_value_in slot w) → new_capacity ≡ capacity → most ≡ maximum
      → detached_view items new_capacity most ≡ detached_with_value (detached_view slots capacity maximum) n w
  detached_lent slots items capacity new_capacity maximum most k n slot w at is written equal_capacity same_most =
      let rewrite : Option (Gen × T) → Option (Gen × T) = option_map (λ (e : Gen × T). (e.0, w)) in
      let all = ap (map entry_of) written ∙ (map-set entry_of slots k (with_value_in slot w) ∙ (sym (with_slot-position (map entry_of slots) k n (entry_of (with_value_in slot w)) at)
      ∙ ap (λ (o : Option (Gen × T)). with_slot (map entry_of slots) n o) (entry_of-written slot w ∙ ap rewrite (sym (entry_at-position slots k n at ∙ ap entry_in is))))) in
      λ i. record { slots = all i; stack_capacity = equal_capacity i; maximum = same_most i }
