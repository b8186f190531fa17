-- An arena with a function applied to each value: its entries, and calls on it.
use Rattle.std.proofs.Common.{◌≡◌, ◌↔◌, ℕ, zero, suc, ◌+◌, ◌≤◌, List, [], ◌∷◌, length, map, Option, None, Some, refl, ap, ap₂, sym, ◌∙◌, subst}
use Rattle.std.specs.Prelude.{count_by, is_some, slice_index_or, if◌then◌else◌}
use Rattle.std.specs.Option.{option_map}
use Rattle.std.proofs.lemmas.List.{length-map, map-append, map-set}
use Rattle.std.proofs.lemmas.List.Sums.{sum_by-cons}
use Rattle.arena_traits.specs.Arena.{Arena, slot_at, with_slot, slots_after_insertion, entry_at, entry_count, insert_next, remove_at, invalidate_at, with_value, arena_after_clear, counter_after_clear, IsListed, IsValid}
use Rattle.chain_links.specs.ChainArena.{on_value, with_each}

pub is_some-map : {X Y : Type 0} (f : X → Y) (o : Option X) → is_some (option_map f o) ≡ is_some o
is_some-map f None = refl
is_some-map f (Some x) = refl

pub map-with_slot : {X Y : Type 0} (f : X → Y) (xs : List X) (n : ℕ) (x : X) → map f (with_slot xs n x) ≡ with_slot (map f xs) n (f x)
map-with_slot f xs zero x = refl
map-with_slot f xs (suc k) x = map-set f xs k x

pub slot_at-map : {X Y : Type 0} (f : X → Y) (slots : List (Option X)) (i : ℕ) → slot_at (map (option_map f) slots) i ≡ option_map f (slot_at slots i)
slot_at-map f slots zero = refl
slot_at-map {X} {Y} f slots (suc k) = by slots k where
  by : (xs : List (Option X)) (j : ℕ) → slice_index_or (map (option_map f) xs) j None ≡ option_map f (slice_index_or xs j None)
  by [] j = refl
  by (x ∷ xs) zero = refl
  by (x ∷ xs) (suc j) = by xs j

pub generation_is : {Gen X : Type 0} (g h : Gen) (x y : X) → ◌≡◌ {A = Option (Gen × X)} (Some (g, x)) (Some (h, y)) → g ≡ h
generation_is g h x y same = ap (generation_or g) same where
  generation_or : {Gen X : Type 0} → Gen → Option (Gen × X) → Gen
  generation_or other None = other
  generation_or other (Some e) = e.0

-- A pointer is valid in an arena.
abbrev pub IsValidPtr : {Gen X : Type 0} → Arena Gen X → ℕ × Gen → Type 0
IsValidPtr a p = IsValid (entry_at a) p

module _ {Gen X Y : Type 0} (f : X → Y) where
  pub entry_at-with_each : (a : Arena Gen X) (i : ℕ) → entry_at (with_each f a) i ≡ option_map (on_value f) (entry_at a i)
  entry_at-with_each a i = slot_at-map (on_value f) a.slots i

  pub length-with_each : (a : Arena Gen X) → length (with_each f a).slots ≡ length a.slots
  length-with_each a = length-map a.slots (option_map (on_value f))

  pub none-with_each : (a : Arena Gen X) (i : ℕ) → (entry_at a i ≡ None) ↔ (entry_at (with_each f a) i ≡ None)
  none-with_each a i = (
    λ none. entry_at-with_each a i ∙ ap (option_map (on_value f)) none,
    λ none. of_map (entry_at a i) (sym (entry_at-with_each a i) ∙ none),
  ) where
    of_map : (o : Option (Gen × X)) → option_map (on_value f) o ≡ None → o ≡ None
    of_map None none = refl
    of_map (Some e) none = cc

  pub listed-with_each : (a : Arena Gen X) → IsListed a → IsListed (with_each f a)
  listed-with_each a listed = record {
    apart = listed.apart;
    free = λ i has. let here = listed.free i has in ((none-with_each a i).0 here.0, here.1, subst (λ n. i ≤ n) (sym (length-with_each a)) here.2);
    listed = λ i some within none. listed.listed i some (subst (λ n. i ≤ n) (length-with_each a) within) ((none-with_each a i).1 none);
  }

  set_neighbor : (o : Option (Gen × X)) → is_some (option_map (on_value f) o) ≡ is_some o
  set_neighbor None = refl
  set_neighbor (Some e) = refl

  count : (slots : List (Option (Gen × X))) → count_by is_some (map (option_map (on_value f)) slots) ≡ count_by is_some slots
  count [] = refl
  count (e ∷ slots) = sum_by-cons _ (option_map (on_value f) e) (map (option_map (on_value f)) slots)
      ∙ (ap₂ (λ b n. (if b then 1 else 0) + n) (set_neighbor e) (count slots) ∙ sym (sum_by-cons _ e slots))

  pub entry_count-with_each : (a : Arena Gen X) → entry_count (with_each f a) ≡ entry_count a
  entry_count-with_each a = count a.slots

  abbrev over : Arena Gen X → List (Option (Gen × Y)) → Arena Gen Y
  over a slots = record (with_each f a) { slots = slots }

  map-filled : (freed : List ℕ) (slots : List (Option (Gen × X))) (e : Gen × X)
      → map (option_map (on_value f)) (slots_after_insertion freed slots e) ≡ slots_after_insertion freed (map (option_map (on_value f)) slots) (on_value f e)
  map-filled [] slots e = map-append (option_map (on_value f)) slots (Some e ∷ [])
  map-filled (i ∷ freed) slots e = map-with_slot (option_map (on_value f)) slots i (Some e)

  pub with_each-insert_next : (a : Arena Gen X) (x : X) → with_each f (insert_next a x) ≡ insert_next (with_each f a) (f x)
  with_each-insert_next a x = ap (over (insert_next a x)) (map-filled a.freed a.slots (a.counter, x))

  pub with_each-remove_at : (following : Gen → Gen) (a : Arena Gen X) (i : ℕ) → with_each f (remove_at following a i) ≡ remove_at following (with_each f a) i
  with_each-remove_at following a i = ap (over (remove_at following a i)) (map-with_slot (option_map (on_value f)) a.slots i None)

  pub with_each-with_value : (a : Arena Gen X) (i : ℕ) (x : X) → with_each f (with_value a i x) ≡ with_value (with_each f a) i (f x)
  with_each-with_value a i x = ap (over a) (map-with_slot (option_map (on_value f)) a.slots i (option_map (λ e. (e.0, x)) (entry_at a i))
      ∙ ap (with_slot (map (option_map (on_value f)) a.slots) i) (written (entry_at a i) ∙ ap (option_map (λ (e : Gen × Y). (e.0, f x))) (sym (entry_at-with_each a i))))
    where
      written : (o : Option (Gen × X)) → option_map (on_value f) (option_map (λ (e : Gen × X). (e.0, x)) o) ≡ option_map (λ (e : Gen × Y). (e.0, f x)) (option_map (on_value f) o)
      written None = refl
      written (Some e) = refl

  pub with_each-invalidate_at : (following : Gen → Gen) (a : Arena Gen X) (i : ℕ) → with_each f (invalidate_at following a i) ≡ invalidate_at following (with_each f a) i
  with_each-invalidate_at following a i = ap (over (invalidate_at following a i)) (map-with_slot (option_map (on_value f)) a.slots i (option_map (λ e. (following a.counter, e.1)) (entry_at a i))
      ∙ ap (with_slot (map (option_map (on_value f)) a.slots) i) (renewed (entry_at a i) ∙ ap (option_map (λ (e : Gen × Y). (following a.counter, e.1))) (sym (entry_at-with_each a i))))
    where
      renewed : (o : Option (Gen × X)) → option_map (on_value f) (option_map (λ (e : Gen × X). (following a.counter, e.1)) o) ≡ option_map (λ (e : Gen × Y). (following a.counter, e.1)) (option_map (on_value f) o)
      renewed None = refl
      renewed (Some e) = refl

  pub with_each-cleared : (following : Gen → Gen) (a : Arena Gen X) → with_each f (arena_after_clear following a) ≡ arena_after_clear following (with_each f a)
  with_each-cleared following a = ap (λ n. let b : Arena Gen Y = record (with_each f a) { slots = []; counter = counter_after_clear following n a.counter; freed = [] } in b) (sym (entry_count-with_each a))

  pub IsValidPtr-with_each : (a : Arena Gen X) (p : ℕ × Gen) → IsValidPtr a p ↔ IsValidPtr (with_each f a) p
  IsValidPtr-with_each a p = (
    (λ valid. record { value = f valid.value; stored = entry_at-with_each a p.0 ∙ ap (option_map (on_value f)) valid.stored }),
    (λ valid. of_entry (entry_at a p.0) valid.value refl (sym (entry_at-with_each a p.0) ∙ valid.stored)),
  ) where
    of_entry : (o : Option (Gen × X)) (y : Y) → entry_at a p.0 ≡ o → option_map (on_value f) o ≡ Some (p.1, y) → IsValidPtr a p
    of_entry None y stored view_after = absurd (nothing view_after) where
      nothing : ◌≡◌ {A = Option (Gen × Y)} None (Some (p.1, y)) → ⊥
      nothing h = cc
    of_entry (Some e) y stored view_after = record { value = e.1; stored = stored ∙ ap (λ (g : Gen). let o : Option (Gen × X) = Some (g, e.1) in o) (generation_is e.0 p.1 _ y view_after) }
