-- The view after each call.
use Rattle.std.proofs.Common.{◌≡◌, ℕ, zero, suc, ◌+◌, ◌<◌, ◌≤◌, Bool, true, false, cond, List, [], ◌∷◌, ◌++◌, length, Option, None, Some, inl, refl, ap, sym, ◌∙◌, arith}
use Rattle.std.specs.Prelude.{is_some, count_by, slice_index_or, slice_set}
use Rattle.std.specs.Option.{option_map}
use Rattle.std.proofs.lemmas.Bool.{eq-eqb, ne_eqb}
use Rattle.std.proofs.lemmas.List.{length-set}
use Rattle.std.proofs.lemmas.List.Sums.{sum_by-cons, sum_by-set}
use Rattle.arena_core.specs.Invalidation.{value_within, invalidation_result}
use Rattle.arena_traits.specs.Arena.{Arena, IsMember, slots_after_insertion, entry_count, slot_at, with_slot, remove_at, invalidate_at, with_value, arena_after_clear, counter_after_clear}
use Rattle.arena_traits.specs.Entries.{ArenaView, entries_from, entries, view_of, without_index, with_replacement, view_after_removal, view_after_invalidation, view_with_value, view_after_clear}

module _ {X : Type 0} where
  pub length-with_slot : (xs : List X) (n : ℕ) (x : X) → length (with_slot xs n x) ≡ length xs
  length-with_slot xs zero x = refl
  length-with_slot xs (suc k) x = length-set xs k x

module _ {Gen T : Type 0} where
  pub length-entries_from : (i : ℕ) (slots : List (Option (Gen × T))) → length (entries_from i slots) ≡ count_by is_some slots
  length-entries_from i [] = refl
  length-entries_from i (None ∷ slots) = length-entries_from (suc i) slots ∙ omega (arith, sum_by-cons (λ (o : Option (Gen × T)). cond (is_some o) 1 0) None slots)
  length-entries_from i (Some e ∷ slots) =
      ap suc (length-entries_from (suc i) slots) ∙ omega (arith, sum_by-cons (λ (o : Option (Gen × T)). cond (is_some o) 1 0) (Some e) slots)

  count-push : (slots : List (Option (Gen × T))) (e : Gen × T) → count_by is_some (slots ++ Some e ∷ []) ≡ count_by is_some slots + 1
  count-push [] e = omega (arith, sum_by-cons (λ (o : Option (Gen × T)). cond (is_some o) 1 0) (Some e) [])
  count-push (s ∷ slots) e = omega (arith, sum_by-cons (λ (o : Option (Gen × T)). cond (is_some o) 1 0) s slots, sum_by-cons (λ (o : Option (Gen × T)). cond (is_some o) 1 0) s (slots ++ Some e ∷ []), count-push slots e)

  pub count-filled : (freed : List ℕ) (slots : List (Option (Gen × T))) (e : Gen × T) → ((i : ℕ) → IsMember freed i → (slot_at slots i ≡ None) × (1 ≤ i) × (i ≤ length slots))
      → count_by is_some (slots_after_insertion freed slots e) ≡ count_by is_some slots + 1
  count-filled [] slots e free = count-push slots e
  count-filled (zero ∷ freed) slots e free = absurd (omega (arith, (free zero (inl refl)).1))
  count-filled (suc k ∷ freed) slots e free =
      let at = free (suc k) (inl refl) in
      omega (arith, sum_by-set (λ (o : Option (Gen × T)). cond (is_some o) 1 0) slots k (Some e) None (omega (arith, at.2)), ap {B = ℕ} (λ (o : Option (Gen × T)). cond (is_some o) 1 0) at.0)

  pub length-entries : (a : Arena Gen T) → length (entries a) ≡ entry_count a
  length-entries a = length-entries_from 1 a.slots

  pub no_entries : (a : Arena Gen T) → entry_count a ≡ 0 → entries a ≡ []
  no_entries a none = empty (entries a) (length-entries a ∙ none)
    where
      empty : (es : List ((ℕ × Gen) × T)) → length es ≡ 0 → es ≡ []
      empty [] is = refl
      empty (e ∷ es) is = absurd (omega (arith, is))

  without-below : (i j : ℕ) (slots : List (Option (Gen × T))) → i < j → without_index i (entries_from j slots) ≡ entries_from j slots
  without-below i j [] less = refl
  without-below i j (None ∷ slots) less = without-below i (suc j) slots (omega (arith, less))
  without-below i j (Some e ∷ slots) less =
      let rest = entries_from (suc j) slots in
      ap (λ b. cond b rest (((j, e.0), e.1) ∷ without_index i rest)) (ne_eqb j i (λ is. omega (arith, less, is))) ∙ ap (λ es. ((j, e.0), e.1) ∷ es) (without-below i (suc j) slots (omega (arith, less)))

  entries_from-freed : (i j k : ℕ) (slots : List (Option (Gen × T))) → j + k ≡ i → entries_from j (slice_set slots k None) ≡ without_index i (entries_from j slots)
  entries_from-freed i j k [] at = refl
  entries_from-freed i j zero (None ∷ slots) at = sym (without-below i (suc j) slots (omega (arith, at)))
  entries_from-freed i j zero (Some e ∷ slots) at =
      let rest = entries_from (suc j) slots in
      sym (ap (λ b. cond b rest (((j, e.0), e.1) ∷ without_index i rest)) (eq-eqb j i (omega (arith, at))))
  entries_from-freed i j (suc k) (None ∷ slots) at = entries_from-freed i (suc j) k slots (omega (arith, at))
  entries_from-freed i j (suc k) (Some e ∷ slots) at =
      let rest = entries_from (suc j) slots in
      ap (λ es. ((j, e.0), e.1) ∷ es) (entries_from-freed i (suc j) k slots (omega (arith, at)))
      ∙ sym (ap (λ b. cond b rest (((j, e.0), e.1) ∷ without_index i rest)) (ne_eqb j i (λ is. omega (arith, at, is))))

  replaced-below : (f : Gen × T → Gen × T) (i j : ℕ) (slots : List (Option (Gen × T))) → i < j → with_replacement i f (entries_from j slots) ≡ entries_from j slots
  replaced-below f i j [] less = refl
  replaced-below f i j (None ∷ slots) less = replaced-below f i (suc j) slots (omega (arith, less))
  replaced-below f i j (Some e ∷ slots) less =
      let rest = entries_from (suc j) slots in
      ap (λ b. cond b (((i, (f (e.0, e.1)).0), (f (e.0, e.1)).1) ∷ rest) (((j, e.0), e.1) ∷ with_replacement i f rest)) (ne_eqb j i (λ is. omega (arith, less, is)))
      ∙ ap (λ es. ((j, e.0), e.1) ∷ es) (replaced-below f i (suc j) slots (omega (arith, less)))

  entries_from-replaced : (f : Gen × T → Gen × T) (i j k : ℕ) (slots : List (Option (Gen × T))) → j + k ≡ i
      → entries_from j (slice_set slots k (option_map f (slice_index_or slots k None))) ≡ with_replacement i f (entries_from j slots)
  entries_from-replaced f i j k [] at = refl
  entries_from-replaced f i j zero (None ∷ slots) at = sym (replaced-below f i (suc j) slots (omega (arith, at)))
  entries_from-replaced f i j zero (Some e ∷ slots) at =
      let rest = entries_from (suc j) slots in
      let same : j ≡ i = omega (arith, at) in
      ap (λ n. ((n, (f (e.0, e.1)).0), (f (e.0, e.1)).1) ∷ rest) same
      ∙ sym (ap (λ b. cond b (((i, (f (e.0, e.1)).0), (f (e.0, e.1)).1) ∷ rest) (((j, e.0), e.1) ∷ with_replacement i f rest)) (eq-eqb j i same))
  entries_from-replaced f i j (suc k) (None ∷ slots) at = entries_from-replaced f i (suc j) k slots (omega (arith, at))
  entries_from-replaced f i j (suc k) (Some e ∷ slots) at =
      let rest = entries_from (suc j) slots in
      ap (λ es. ((j, e.0), e.1) ∷ es) (entries_from-replaced f i (suc j) k slots (omega (arith, at)))
      ∙ sym (ap (λ b. cond b (((i, (f (e.0, e.1)).0), (f (e.0, e.1)).1) ∷ rest) (((j, e.0), e.1) ∷ with_replacement i f rest)) (ne_eqb j i (λ is. omega (arith, at, is))))

  entries-freed : (slots : List (Option (Gen × T))) (n : ℕ) → entries_from 1 (with_slot slots n None) ≡ without_index n (entries_from 1 slots)
  entries-freed slots zero = sym (without-below 0 1 slots (omega arith))
  entries-freed slots (suc k) = entries_from-freed (suc k) 1 k slots (omega arith)

  entries-replaced : (f : Gen × T → Gen × T) (slots : List (Option (Gen × T))) (n : ℕ) → entries_from 1 (with_slot slots n (option_map f (slot_at slots n))) ≡ with_replacement n f (entries_from 1 slots)
  entries-replaced f slots zero = sym (replaced-below f 0 1 slots (omega arith))
  entries-replaced f slots (suc k) = entries_from-replaced f (suc k) 1 k slots (omega arith)

  abbrev shape : Arena Gen T → List ((ℕ × Gen) × T) → ℕ → List ℕ → Gen → ℕ → ArenaView Gen T
  shape a es count freed counter placed = record (view_of a) {
    entries = es;
    counter = Some counter;
    slots = Some (record { count = count; freed = freed; placed = placed; touched = a.touched });
  }

  pub viewed_removed : (following : Gen → Gen) (a : Arena Gen T) (n : ℕ) → view_of (remove_at following a n) ≡ view_after_removal following (view_of a) n
  viewed_removed following a n = λ i. shape a (entries-freed a.slots n i) (length-with_slot a.slots n None i) (n ∷ a.freed) (following a.counter) (a.placed + 1)

  pub viewed_written : (a : Arena Gen T) (n : ℕ) (t : T) → view_of (with_value a n t) ≡ view_with_value (view_of a) n t
  viewed_written a n t =
      let f : Gen × T → Gen × T = λ e. (e.0, t) in
      λ i. shape a (entries-replaced f a.slots n i) (length-with_slot a.slots n (option_map f (slot_at a.slots n)) i) a.freed a.counter a.placed

  pub viewed_renewed : (following : Gen → Gen) (a : Arena Gen T) (n : ℕ) → view_of (invalidate_at following a n) ≡ view_after_invalidation (view_of a) (n, following a.counter)
  viewed_renewed following a n =
      let f : Gen × T → Gen × T = λ e. (following a.counter, e.1) in
      λ i. shape a (entries-replaced f a.slots n i) (length-with_slot a.slots n (option_map f (slot_at a.slots n)) i) a.freed (following a.counter) a.placed

  pub viewed_cleared : (following : Gen → Gen) (a : Arena Gen T) → view_of (arena_after_clear following a) ≡ view_after_clear following (view_of a)
  viewed_cleared following a = ap (λ count. shape a [] 0 [] (counter_after_clear following count a.counter) a.placed) (sym (length-entries a))

pub value_within-made : {X : Type 0} (overflow : Bool) (o : Option X) → value_within (invalidation_result overflow o) ≡ o
value_within-made overflow None = refl
value_within-made false (Some x) = refl
value_within-made true (Some x) = refl

module _ {Gen T : Type 0} where
  pub renewed_key : (following : Gen → Gen) (a b : Arena Gen T) (key : ℕ × Gen) (m made n : ℕ) (g : Gen)
      → key ≡ (made, g) → made ≡ n → m ≡ n → g ≡ following a.counter → b ≡ invalidate_at following a m → (key.0 ≡ n) × (key.1 ≡ following a.counter) × (view_of b ≡ view_after_invalidation (view_of a) key)
  renewed_key following a b key m made n g is at index next after =
      let same : key ≡ (m, following a.counter) = is ∙ (ap (λ i. let k : ℕ × Gen = (i, g) in k) (at ∙ sym index) ∙ ap (λ (h : Gen). let k : ℕ × Gen = (m, h) in k) next) in
      (ap (λ (k : ℕ × Gen). k.0) is ∙ at, ap (λ (k : ℕ × Gen). k.1) same, ap view_of after ∙ (viewed_renewed following a m ∙ ap (view_after_invalidation (view_of a)) (sym same)))
