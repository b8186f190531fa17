-- Slots after an insertion.
use Rattle.std.proofs.Common.{◌≡◌, ◌≢◌, ℕ, zero, suc, ◌+◌, ◌<◌, ◌≤◌, List, [], ◌∷◌, ◌++◌, length, length-append, Option, None, Some, refl, ap, sym, ◌∙◌, subst, arith, inl}
use Rattle.std.specs.Prelude.{◌==◌, if◌then◌else◌, slice_index_or, slice_set}
use Rattle.std.proofs.Math.Dec.{eqb-suc-suc}
use Rattle.std.proofs.lemmas.Bool.{eq-eqb, ne_eqb}
use Rattle.std.proofs.lemmas.List.{get_or_past}
use Rattle.arena_traits.specs.Arena.{Arena, slot_at, with_slot, slots_after_insertion, first_or_next, IsMember, IsInserted, entry_at, next_index, insert_next, with_capacity_of}
use Rattle.arena_traits.specs.Entries.{count_with_next}
use Rattle.arena_traits.proofs.ArenaViewLemmas.{length-with_slot}

if_same : {X : Type 0} (i j : ℕ) (x y : X) → i ≡ j → (if i == j then x else y) ≡ x
if_same i j x y is = ap (λ b. if b then x else y) (eq-eqb i j is)

if_other : {X : Type 0} (i j : ℕ) (x y : X) → i ≢ j → (if i == j then x else y) ≡ y
if_other i j x y other = ap (λ b. if b then x else y) (ne_eqb i j other)

pub if_suc : {X : Type 0} (j k : ℕ) (x y : X) → (if j == k then x else y) ≡ (if suc j == suc k then x else y)
if_suc j k x y = ap (λ b. if b then x else y) (sym (eqb-suc-suc j k))

slice_index_or-append : {X : Type 0} (xs : List (Option X)) (x : Option X) (k : ℕ) → slice_index_or (xs ++ x ∷ []) k None ≡ (if k == length xs then x else slice_index_or xs k None)
slice_index_or-append [] x zero = refl
slice_index_or-append [] x (suc k) = sym (if_other (suc k) 0 _ _ (λ is. absurd (omega (arith, is))))
slice_index_or-append (y ∷ xs) x zero = sym (if_other 0 (suc (length xs)) _ _ (λ is. absurd (omega (arith, is))))
slice_index_or-append (y ∷ xs) x (suc k) = slice_index_or-append xs x k ∙ if_suc k (length xs) _ _

slice_index_or-written : {X : Type 0} (xs : List (Option X)) (k j : ℕ) (x : Option X) → k < length xs
    → slice_index_or (slice_set xs k x) j None ≡ (if j == k then x else slice_index_or xs j None)
slice_index_or-written [] k j x inside = absurd (omega (arith, inside))
slice_index_or-written (y ∷ xs) zero zero x inside = refl
slice_index_or-written (y ∷ xs) zero (suc j) x inside = sym (if_other (suc j) 0 _ _ (λ is. absurd (omega (arith, is))))
slice_index_or-written (y ∷ xs) (suc k) zero x inside = sym (if_other 0 (suc k) _ _ (λ is. absurd (omega (arith, is))))
slice_index_or-written (y ∷ xs) (suc k) (suc j) x inside = slice_index_or-written xs k j x (omega (arith, inside)) ∙ if_suc j k _ _

pub slot_at-written : {X : Type 0} (slots : List (Option X)) (n j : ℕ) (x : Option X) → 1 ≤ n → n ≤ length slots
    → slot_at (with_slot slots n x) j ≡ (if j == n then x else slot_at slots j)
slot_at-written slots zero j x some inside = absurd (omega (arith, some))
slot_at-written slots (suc k) zero x some inside = sym (if_other 0 (suc k) _ _ (λ is. absurd (omega (arith, is))))
slot_at-written slots (suc k) (suc j) x some inside = slice_index_or-written slots k j x (omega (arith, inside)) ∙ if_suc j k _ _

-- Freed indexes are those of free slots.
abbrev pub AreFree : {X : Type 0} → List (Option X) → List ℕ → Type 0
AreFree slots freed = (i : ℕ) → IsMember freed i → (slot_at slots i ≡ None) × (1 ≤ i) × (i ≤ length slots)

pub slot_at-filled : {X : Type 0} (freed : List ℕ) (slots : List (Option X)) (x : X) (j : ℕ) → AreFree slots freed
    → slot_at (slots_after_insertion freed slots x) j ≡ (if j == first_or_next freed (length slots) then Some x else slot_at slots j)
slot_at-filled [] slots x zero free = sym (if_other 0 (length slots + 1) _ _ (λ is. absurd (omega (arith, is))))
slot_at-filled [] slots x (suc k) free = slice_index_or-append slots (Some x) k
    ∙ (if_suc k (length slots) _ _ ∙ ap (λ q. if suc k == q then Some x else slice_index_or slots k None) (let same : suc (length slots) ≡ length slots + 1 = omega arith in same))
slot_at-filled (i ∷ freed) slots x j free = let here = free i (inl refl) in slot_at-written slots i j (Some x) here.1 here.2

pub length-filled : {X : Type 0} (freed : List ℕ) (slots : List (Option X)) (x : X) → length (slots_after_insertion freed slots x) ≡ count_with_next freed (length slots)
length-filled [] slots x = length-append slots (Some x ∷ [])
length-filled (i ∷ freed) slots x = length-with_slot slots i (Some x)

pub slot_at-next : {X : Type 0} (freed : List ℕ) (slots : List (Option X)) → AreFree slots freed → slot_at slots (first_or_next freed (length slots)) ≡ None
slot_at-next [] slots free = ap (slot_at slots) (let same : length slots + 1 ≡ suc (length slots) = omega arith in same) ∙ get_or_past slots (length slots) None (omega arith)
slot_at-next (i ∷ freed) slots free = (free i (inl refl)).0

module _ {Gen T : Type 0} where
  pub inserted_at : (a b : Arena Gen T) (t : T) (p : ℕ × Gen) → AreFree a.slots a.freed → b ≡ with_capacity_of (insert_next a t) b → p ≡ (next_index a, a.counter)
      → IsInserted (entry_at a) (entry_at b) p t
  inserted_at a b t p free inserted at =
      let entries : (i : ℕ) → entry_at b i ≡ (if i == next_index a then Some (a.counter, t) else entry_at a i) =
      (λ i. ap (λ (x : Arena Gen T). entry_at x i) inserted ∙ slot_at-filled a.freed a.slots (a.counter, t) i free) in
      subst (λ (q : ℕ × Gen). IsInserted (entry_at a) (entry_at b) q t) (sym at) (record {
        free = slot_at-next a.freed a.slots free;
        stored = entries (next_index a) ∙ if_same (next_index a) (next_index a) _ _ refl;
        rest = λ i other. entries i ∙ if_other i (next_index a) _ _ other;
      })
