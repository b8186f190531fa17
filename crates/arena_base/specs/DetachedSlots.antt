use Rattle.std.specs.Prelude.{◌≡◌, ℕ, suc, ◌+◌, ◌-◌, ◌^◌, ◌≤◌, ◌<◌, min, List, [], ◌∷◌, Option, None, Some, IsSome}
use Rattle.std.specs.Option.{option_map}
use Rattle.std.specs.Borrow.{Bor}
use Rattle.arena_traits.specs.Arena.{Arena, slot_at, with_slot}

-- The slots that a compactor holds, with their stack's capacity and maximum.
pub record DetachedView (Gen T : Type 0) : Type 0 where
  pub slots : List (Option (Gen × T))
  pub stack_capacity : ℕ
  pub maximum : Option ℕ

abbrev pub saturating_increment : ℕ → ℕ
saturating_increment n = min (n + 1) (2 ^ 128 - 1)

module _ {X : Type 0} where
  abbrev pub before_cut : Option X → List (Option X) → List (Option X)
  before_cut None [] = []
  before_cut None (slot ∷ slots) = None ∷ slot ∷ slots
  before_cut (Some x) slots = Some x ∷ slots

  -- The slots without the free ones at the end.
  abbrev pub without_free_end : List (Option X) → List (Option X)
  without_free_end [] = []
  without_free_end (slot ∷ slots) = before_cut slot (without_free_end slots)

  -- The ascending indexes of the free slots, from first index `i`.
  abbrev pub free_from : ℕ → List (Option X) → List ℕ
  free_from i [] = []
  free_from i (None ∷ slots) = i ∷ free_from (suc i) slots
  free_from i (Some x ∷ slots) = free_from (suc i) slots

-- Exactly the indexes from 1 to `n` have entries.
pub record IsPacked {X : Type 0} (slots : List (Option X)) (n : ℕ) : Type 0 where
  pub taken : (i : ℕ) → 1 ≤ i → i ≤ n → IsSome (slot_at slots i)
  pub free : (i : ℕ) → n < i → slot_at slots i ≡ None

module _ {Gen T : Type 0} where
  -- An entry read through borrows of both parts.
  abbrev pub borrowed_parts : Bor Gen × Bor T → Gen × T
  borrowed_parts e = (e.0.now, e.1.now)

  abbrev pub detached_of : Arena Gen T → DetachedView Gen T
  detached_of a = record { slots = a.slots; stack_capacity = a.stack_capacity; maximum = a.maximum }

  -- The arena without its slots, over a new stack.
  abbrev pub arena_without_slots : Option ℕ → Arena Gen T → Arena Gen T
  arena_without_slots maximum a = record a { slots = []; freed = []; capacity = 0; stack_capacity = 0; maximum = maximum }

  -- Slots are returned without free ones at the end; the others are listed by ascending index.
  abbrev pub arena_after_return : ℕ → Arena Gen T → DetachedView Gen T → Arena Gen T
  arena_after_return greatest a detached = record a {
    slots = without_free_end detached.slots;
    freed = free_from 1 (without_free_end detached.slots);
    capacity = min detached.stack_capacity greatest;
    stack_capacity = detached.stack_capacity;
    maximum = detached.maximum;
  }

  abbrev pub with_touch : Arena Gen T → Arena Gen T
  with_touch a = record a { touched = a.touched + 1 }

  abbrev pub with_placement : Arena Gen T → Arena Gen T
  with_placement a = record a { placed = a.placed + 1 }

  -- Two slots are swapped, and the first's entry gets a generation.
  abbrev pub with_placed_entry : DetachedView Gen T → ℕ → ℕ → Gen → DetachedView Gen T
  with_placed_entry detached from to g = record detached {
    slots = with_slot (with_slot detached.slots from (slot_at detached.slots to)) to (option_map (λ e. (g, e.1)) (slot_at detached.slots from));
  }

  -- The slots with a value replaced, if there is an entry.
  abbrev pub detached_with_value : DetachedView Gen T → ℕ → T → DetachedView Gen T
  detached_with_value detached i t = record detached { slots = with_slot detached.slots i (option_map (λ e. (e.0, t)) (slot_at detached.slots i)) }

  module _ {C : Type 0} (detached : C → DetachedView Gen T) (touches : C → C → Type 0) (old : C) where
    abbrev pub IsTouched : C → Type 0
    IsTouched new = (detached new ≡ detached old) × touches old new

    abbrev pub IsWrittenAt : ℕ → C → T → Type 0
    IsWrittenAt i new t = (detached new ≡ detached_with_value (detached old) i t) × touches old new
