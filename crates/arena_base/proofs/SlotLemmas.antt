-- Reads and writes of slots.
use Rattle.std.proofs.Common.{◌≡◌, ℕ, zero, suc, ◌+◌, ◌<◌, List, [], ◌∷◌, ◌++◌, length, map, Option, None, Some, refl, ap, sym, ◌∙◌, subst, arith, inl, inr, ◌⊎◌}
use Rattle.std.specs.Prelude.{IsSome, true, false, count_by, is_some, cond, slice_index_or, slice_get, slice_set}
use Rattle.std.proofs.lemmas.List.Sums.{sum_by-cons}
use Rattle.arena_core.specs.declared.packed_option.PackedOption.{PackedOption}
use Rattle.arena_traits.specs.Arena.{slot_at, with_slot}
use Rattle.arena_base.specs.Slots.{item_at, entry_of, entry_in, allocated_slot, free_slot, with_generation_in, with_generation_at, freed_slot}
use Rattle.arena_base.specs.declared.slot.ArenaSlot.{ArenaSlot}
use Rattle.arena_base.specs.declared.slot.ArenaSlot.TheVariants.{Allocated, Free}

module _ {X : Type 0} where
  pub slice_get-set-other : (xs : List X) (k m : ℕ) (x : X) → (k ≡ m → ⊥) → slice_get (slice_set xs k x) m ≡ slice_get xs m
  slice_get-set-other [] k m x other = refl
  slice_get-set-other (y ∷ xs) zero zero x other = absurd (other refl)
  slice_get-set-other (y ∷ xs) zero (suc m) x other = refl
  slice_get-set-other (y ∷ xs) (suc k) zero x other = refl
  slice_get-set-other (y ∷ xs) (suc k) (suc m) x other = slice_get-set-other xs k m x (λ e. other (ap suc e))

  pub slice_get-set-same : (xs : List X) (k : ℕ) (x y : X) → slice_get xs k ≡ Some y → slice_get (slice_set xs k x) k ≡ Some x
  slice_get-set-same [] k x y is = cc
  slice_get-set-same (z ∷ xs) zero x y is = refl
  slice_get-set-same (z ∷ xs) (suc k) x y is = slice_get-set-same xs k x y is

  pub slice_set-itself : (xs : List X) (k : ℕ) (x : X) → slice_get xs k ≡ Some x → slice_set xs k x ≡ xs
  slice_set-itself [] k x is = refl
  slice_set-itself (y ∷ xs) zero x is = let e : y ≡ x = cc in ap (λ z. z ∷ xs) (sym e)
  slice_set-itself (y ∷ xs) (suc k) x is = ap (λ zs. y ∷ zs) (slice_set-itself xs k x is)

  pub slice_get-push : (xs : List X) (x y : X) (k : ℕ) → slice_get (xs ++ x ∷ []) k ≡ Some y → (slice_get xs k ≡ Some y) ⊎ (x ≡ y)
  slice_get-push [] x y zero is = inr cc
  slice_get-push [] x y (suc k) is = inr cc
  slice_get-push (z ∷ xs) x y zero is = inl is
  slice_get-push (z ∷ xs) x y (suc k) is = slice_get-push xs x y k is

  pub slice_get-below : (xs : List X) (k : ℕ) (x : X) → slice_get xs k ≡ Some x → k < length xs
  slice_get-below [] k x is = cc
  slice_get-below (z ∷ xs) zero x is = omega arith
  slice_get-below (z ∷ xs) (suc k) x is = let below = slice_get-below xs k x is in omega (arith, below)

  pub item_at-set-other : (xs : List X) (k n : ℕ) (x : X) → (suc k ≡ n → ⊥) → item_at (slice_set xs k x) n ≡ item_at xs n
  item_at-set-other xs k zero x other = refl
  item_at-set-other xs k (suc m) x other = slice_get-set-other xs k m x (λ e. other (ap suc e))

  pub item_at-push : (xs : List X) (x y : X) (n : ℕ) → item_at (xs ++ x ∷ []) n ≡ Some y → (item_at xs n ≡ Some y) ⊎ (x ≡ y)
  item_at-push xs x y zero is = inl is
  item_at-push xs x y (suc k) is = slice_get-push xs x y k is

  pub at_position : (xs : List X) (k n : ℕ) → k + 1 ≡ n → item_at xs n ≡ slice_get xs k
  at_position xs k n is = let at : suc k ≡ n = omega (arith, is) in subst (λ i. item_at xs i ≡ slice_get xs k) at refl

  pub with_slot-position : (xs : List X) (k n : ℕ) (x : X) → k + 1 ≡ n → with_slot xs n x ≡ slice_set xs k x
  with_slot-position xs k n x is = let at : suc k ≡ n = omega (arith, is) in subst (λ i. with_slot xs i x ≡ slice_set xs k x) at refl

module _ {P T Inx Gen Word : Type 0} where
  pub map-push : (slots : List (ArenaSlot P T Inx Gen Word)) (slot : ArenaSlot P T Inx Gen Word) → map entry_of (slots ++ slot ∷ []) ≡ map entry_of slots ++ entry_of slot ∷ []
  map-push [] slot = refl
  map-push (s ∷ slots) slot = ap (λ es. entry_of s ∷ es) (map-push slots slot)

  pub slice_index_or-map : (slots : List (ArenaSlot P T Inx Gen Word)) (k : ℕ) → slice_index_or (map entry_of slots) k None ≡ entry_in (slice_get slots k)
  slice_index_or-map [] k = refl
  slice_index_or-map (s ∷ slots) zero = refl
  slice_index_or-map (s ∷ slots) (suc k) = slice_index_or-map slots k

  pub entry_at-position : (slots : List (ArenaSlot P T Inx Gen Word)) (k n : ℕ) → k + 1 ≡ n → slot_at (map entry_of slots) n ≡ entry_in (slice_get slots k)
  entry_at-position slots k n is =
      let at : suc k ≡ n = omega (arith, is) in
      subst (λ i. slot_at (map entry_of slots) i ≡ entry_in (slice_get slots k)) at (slice_index_or-map slots k)

  abbrev pub taken : ArenaSlot P T Inx Gen Word → ℕ
  taken slot = cond (is_some (entry_of slot)) 1 0

  abbrev pub taken_count : List (ArenaSlot P T Inx Gen Word) → ℕ
  taken_count slots = count_by is_some (map entry_of slots)

  pub taken_count-set : (slots : List (ArenaSlot P T Inx Gen Word)) (k : ℕ) (old new : ArenaSlot P T Inx Gen Word) → slice_get slots k ≡ Some old
      → taken_count (slice_set slots k new) + taken old ≡ taken_count slots + taken new
  taken_count-set [] k old new is = cc
  taken_count-set (s ∷ slots) zero old new is =
      let same : s ≡ old = cc in
      let before = sum_by-cons (λ (o : Option (Gen × T)). cond (is_some o) 1 0) (entry_of s) (map entry_of slots) in
      let after = sum_by-cons (λ (o : Option (Gen × T)). cond (is_some o) 1 0) (entry_of new) (map entry_of slots) in
      omega (arith, before, after, ap taken same)
  taken_count-set (s ∷ slots) (suc k) old new is =
      let before = sum_by-cons (λ (o : Option (Gen × T)). cond (is_some o) 1 0) (entry_of s) (map entry_of slots) in
      let after = sum_by-cons (λ (o : Option (Gen × T)). cond (is_some o) 1 0) (entry_of s) (map entry_of (slice_set slots k new)) in
      omega (arith, before, after, taken_count-set slots k old new is)

  pub taken_count-push : (slots : List (ArenaSlot P T Inx Gen Word)) (slot : ArenaSlot P T Inx Gen Word) → taken_count (slots ++ slot ∷ []) ≡ taken_count slots + taken slot
  taken_count-push [] slot = sum_by-cons (λ (o : Option (Gen × T)). cond (is_some o) 1 0) (entry_of slot) [] ∙ omega arith
  taken_count-push (s ∷ slots) slot =
      let before = sum_by-cons (λ (o : Option (Gen × T)). cond (is_some o) 1 0) (entry_of s) (map entry_of slots) in
      let after = sum_by-cons (λ (o : Option (Gen × T)). cond (is_some o) 1 0) (entry_of s) (map entry_of (slots ++ slot ∷ [])) in
      omega (arith, before, after, taken_count-push slots slot)

  pub with_generation_at-set : (slots : List (ArenaSlot P T Inx Gen Word)) (k : ℕ) (slot : ArenaSlot P T Inx Gen Word) (g : Gen) → slice_get slots k ≡ Some slot
      → slice_set slots k (with_generation_in slot g) ≡ with_generation_at slots k g
  with_generation_at-set [] k slot g is = refl
  with_generation_at-set (s ∷ slots) zero slot g is = let same : s ≡ slot = cc in ap (λ z. with_generation_in z g ∷ slots) (sym same)
  with_generation_at-set (s ∷ slots) (suc k) slot g is = ap (λ zs. s ∷ zs) (with_generation_at-set slots k slot g is)

  pub with_generation_at-none : (slots : List (ArenaSlot P T Inx Gen Word)) (k : ℕ) (g : Gen) → None ≡ slice_get slots k → slots ≡ with_generation_at slots k g
  with_generation_at-none [] k g is = refl
  with_generation_at-none (s ∷ slots) zero g is = cc
  with_generation_at-none (s ∷ slots) (suc k) g is = ap (λ zs. s ∷ zs) (with_generation_at-none slots k g is)

  pub freed_slot-free : (slot : ArenaSlot P T Inx Gen Word) (next : PackedOption Inx Word) → entry_of slot ≡ None → freed_slot slot next ≡ slot
  freed_slot-free (Allocated g t) next is = cc
  freed_slot-free (Free other) next is = refl

  pub freed_slot-taken : (slot : ArenaSlot P T Inx Gen Word) (next : PackedOption Inx Word) (e : Gen × T) → entry_of slot ≡ Some e → freed_slot slot next ≡ free_slot next
  freed_slot-taken (Allocated g t) next e is = refl
  freed_slot-taken (Free other) next e is = cc

  pub allocated-entry : (slot : ArenaSlot P T Inx Gen Word) (e : Gen × T) → entry_of slot ≡ Some e → slot ≡ allocated_slot e.0 e.1
  allocated-entry (Allocated g t) e is = ap (λ (o : Option (Gen × T)). slot_with o) is
    where
      slot_with : Option (Gen × T) → ArenaSlot P T Inx Gen Word
      slot_with None = allocated_slot g t
      slot_with (Some f) = allocated_slot f.0 f.1
  allocated-entry (Free next) e is = cc

  pub allocated-at : (o : Option (ArenaSlot P T Inx Gen Word)) (e : Gen × T) → Some e ≡ entry_in o → o ≡ Some (allocated_slot e.0 e.1)
  allocated-at None e is = cc
  allocated-at (Some slot) e is = ap (λ s. Some s) (allocated-entry slot e (sym is))

pub the_value : {X : Type 0} (o : Option X) → IsSome o → (x : X) × (Some x ≡ o)
the_value None some = let both : false ≡ true = some in cc
the_value (Some x) some = (x, refl)
