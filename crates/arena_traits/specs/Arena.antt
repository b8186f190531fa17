use Rattle.std.specs.Prelude.{◌≡◌, ◌≢◌, ℕ, zero, suc, ◌+◌, ◌≤◌, ◌⊎◌, ⊤, min, Bool, false, List, [], ◌∷◌, ◌++◌, length, count_by, is_some, slice_index_or, slice_set}
use Rattle.std.specs.Prelude.{Option, None, Some}
use Rattle.std.specs.Option.{option_map}
use Rattle.std.specs.Borrow.{Bor}
use Rattle.arena_core.specs.SlotStack.{IsWithinMaximum}

-- The state of an arena: slot `k`, with index `k + 1`, holds an entry (generation and value) or
-- none. An insertion takes the counter and the first freed index.
pub record Arena (Gen T : Type 0) : Type 0 where
  pub slots : List (Option (Gen × T))
  pub counter : Gen
  pub freed : List ℕ
  pub capacity : ℕ
  pub stack_capacity : ℕ
  pub maximum : Option ℕ
  pub placed : ℕ
  pub touched : ℕ

module _ {X : Type 0} where
  -- The item at an index; none at 0.
  abbrev pub slot_at : List (Option X) → ℕ → Option X
  slot_at slots zero = None
  slot_at slots (suc k) = slice_index_or slots k None

  abbrev pub with_slot : List X → ℕ → X → List X
  with_slot slots zero slot = slots
  with_slot slots (suc k) slot = slice_set slots k slot

abbrev pub slots_after_insertion : {X : Type 0} → List ℕ → List (Option X) → X → List (Option X)
slots_after_insertion [] slots entry = slots ++ Some entry ∷ []
slots_after_insertion (i ∷ freed) slots entry = with_slot slots i (Some entry)

-- The next insertion's index, given the freed list and the number of slots.
abbrev pub first_or_next : List ℕ → ℕ → ℕ
first_or_next [] count = count + 1
first_or_next (i ∷ freed) count = i

abbrev pub without_first : List ℕ → List ℕ
without_first [] = []
without_first (i ∷ freed) = freed

abbrev pub IsMember : List ℕ → ℕ → Type 0
IsMember [] n = ⊥
IsMember (m ∷ ms) n = (m ≡ n) ⊎ IsMember ms n

-- No number occurs twice.
abbrev pub AreDistinct : List ℕ → Type 0
AreDistinct [] = ⊤
AreDistinct (m ∷ ms) = (IsMember ms m → ⊥) × AreDistinct ms

-- A capacity is at least `n`, and within the greatest index and the maximum.
pub record IsCapacityFor (greatest : ℕ) (maximum : Option ℕ) (n capacity : ℕ) : Type 0 where
  pub fits : n ≤ capacity
  pub at_most_greatest : capacity ≤ greatest
  pub within_maximum : IsWithinMaximum maximum capacity

-- The counter after `count` entries were cleared; without entries it stays.
abbrev pub counter_after_clear : {Gen : Type 0} → (Gen → Gen) → ℕ → Gen → Gen
counter_after_clear following zero g = g
counter_after_clear following (suc count) g = following g

abbrev pub overflows_after_clear : {Gen : Type 0} → (Gen → Bool) → ℕ → Gen → Bool
overflows_after_clear wraps zero g = false
overflows_after_clear wraps (suc count) g = wraps g

-- An arena without entries and slots, of capacity 0.
abbrev pub new_arena : {Gen T : Type 0} → Gen → Option ℕ → Arena Gen T
new_arena first maximum = record {
  slots = [];
  counter = first;
  freed = [];
  capacity = 0;
  stack_capacity = 0;
  maximum = maximum;
  placed = 0;
  touched = 0;
}

module _ {Gen T : Type 0} where
  -- The entry at the index of `p` has its generation.
  pub record IsValid (entry : ℕ → Option (Gen × T)) (p : ℕ × Gen) : Type 0 where
    pub value : T
    pub stored : entry p.0 ≡ Some (p.1, value)

  -- The free index of p gets its generation and the value t; nothing else changes.
  pub record IsInserted (entry after : ℕ → Option (Gen × T)) (p : ℕ × Gen) (t : T) : Type 0 where
    pub free : entry p.0 ≡ None
    pub stored : after p.0 ≡ Some (p.1, t)
    pub rest : (i : ℕ) → i ≢ p.0 → after i ≡ entry i

  -- An entry read through a borrow.
  abbrev pub borrowed_entry : Gen × Bor T → Gen × T
  borrowed_entry e = (e.0, e.1.now)

  abbrev pub entry_at : Arena Gen T → ℕ → Option (Gen × T)
  entry_at a i = slot_at a.slots i

  abbrev pub entry_count : Arena Gen T → ℕ
  entry_count a = count_by is_some a.slots

  -- The next insertion's index: the first freed one, or else a new one.
  abbrev pub next_index : Arena Gen T → ℕ
  next_index a = first_or_next a.freed (length a.slots)

  abbrev pub insert_next : Arena Gen T → T → Arena Gen T
  insert_next a t = record a { slots = slots_after_insertion a.freed a.slots (a.counter, t); freed = without_first a.freed; placed = a.placed + 1 }

  abbrev pub remove_at : (Gen → Gen) → Arena Gen T → ℕ → Arena Gen T
  remove_at following a i = record a { slots = with_slot a.slots i None; counter = following a.counter; freed = i ∷ a.freed; placed = a.placed + 1 }

  -- The arena after the entry at an index got the next generation.
  abbrev pub invalidate_at : (Gen → Gen) → Arena Gen T → ℕ → Arena Gen T
  invalidate_at following a i = record a {
    slots = with_slot a.slots i (option_map (λ e. (following a.counter, e.1)) (entry_at a i));
    counter = following a.counter;
  }

  -- The arena with the value at an index replaced, if any.
  abbrev pub with_value : Arena Gen T → ℕ → T → Arena Gen T
  with_value a i t = record a { slots = with_slot a.slots i (option_map (λ e. (e.0, t)) (entry_at a i)) }

  -- The arena after a clear; without entries the counter stays.
  abbrev pub arena_after_clear : (Gen → Gen) → Arena Gen T → Arena Gen T
  arena_after_clear following a = record a { slots = []; counter = counter_after_clear following (entry_count a) a.counter; freed = [] }

  abbrev pub with_counter : Arena Gen T → Gen → Arena Gen T
  with_counter a g = record a { counter = g }

  abbrev pub with_maximum : Arena Gen T → ℕ → Arena Gen T
  with_maximum a n = record a { maximum = Some n }

  -- `a` with the capacities of `b`.
  abbrev pub with_capacity_of : Arena Gen T → Arena Gen T → Arena Gen T
  with_capacity_of a b = record a { capacity = b.capacity; stack_capacity = b.stack_capacity }

  -- The capacity is the lesser of the stack's and the greatest index, and enough for `n` entries.
  abbrev pub HasCapacityFor : ℕ → ℕ → Arena Gen T → Type 0
  HasCapacityFor greatest n a = IsCapacityFor greatest a.maximum n a.capacity × (a.capacity ≡ min a.stack_capacity greatest) × IsWithinMaximum a.maximum a.stack_capacity

  -- The stack's capacity stays, or is reached by growth for `n` entries.
  abbrev pub IsWithinReach : (ℕ → Option ℕ → ℕ → ℕ → Type 0) → ℕ → Arena Gen T → Arena Gen T → Type 0
  IsWithinReach may_reach n old new = (new.stack_capacity ≡ old.stack_capacity) ⊎ may_reach old.stack_capacity old.maximum n new.stack_capacity

  -- A new arena, with a capacity that growth for `n` entries may reach.
  pub record IsNewWithCapacity (may_reach : ℕ → Option ℕ → ℕ → ℕ → Type 0) (first : Gen) (maximum : Option ℕ) (n : ℕ) (a : Arena Gen T) : Type 0 where
    pub state : a ≡ with_capacity_of (new_arena first maximum) a
    pub none : n ≡ 0 → a ≡ new_arena first maximum
    pub reached : IsWithinReach may_reach n (new_arena first maximum) a

  -- The capacity suffices for `n` entries, within reach of the old one.
  pub record ReachesCapacity (may_reach : ℕ → Option ℕ → ℕ → ℕ → Type 0) (greatest n : ℕ) (old new : Arena Gen T) : Type 0 where
    pub capacity : HasCapacityFor greatest n new
    pub reached : IsWithinReach may_reach n old new

  -- The freed list holds exactly the free slots, each once.
  pub record IsListed (a : Arena Gen T) : Type 0 where
    pub apart : AreDistinct a.freed
    pub free : (i : ℕ) → IsMember a.freed i → (entry_at a i ≡ None) × (1 ≤ i) × (i ≤ length a.slots)
    pub listed : (i : ℕ) → 1 ≤ i → i ≤ length a.slots → entry_at a i ≡ None → IsMember a.freed i
