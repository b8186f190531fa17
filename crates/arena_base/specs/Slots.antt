use Rattle.std.specs.Prelude.{◌≡◌, ℕ, zero, suc, ◌+◌, ◌≤◌, ⊤, List, [], ◌∷◌, map, min, length, count_by, is_some, slice_get, Option, None, Some}
use Rattle.arena_core.specs.declared.packed_option.PackedOption.{PackedOption}
use Rattle.arena_base.specs.DetachedSlots.{DetachedView}
use Rattle.arena_traits.specs.Arena.{Arena, IsMember, AreDistinct}
use Rattle.arena_base.specs.declared.slot.ArenaSlot.{ArenaSlot}
use Rattle.arena_base.specs.declared.slot.ArenaSlot.TheVariants.{Allocated, Free}

abbrev pub item_at : {X : Type 0} → List X → ℕ → Option X
item_at items zero = None
item_at items (suc k) = slice_get items k

-- A stack keeps its capacity and its maximum.
abbrev pub KeepsBounds : {S : Type 0} → (S → ℕ) → (S → Option ℕ) → S → S → Type 0
KeepsBounds capacity maximum old new = (capacity new ≡ capacity old) × (maximum new ≡ maximum old)

module _ {P T Inx Gen Word : Type 0} where
  -- The entry of a slot.
  abbrev pub entry_of : ArenaSlot P T Inx Gen Word → Option (Gen × T)
  entry_of (Allocated generation t) = Some (generation, t)
  entry_of (Free next) = None

  -- The slot with its value, if any, replaced.
  abbrev pub with_value_in : ArenaSlot P T Inx Gen Word → T → ArenaSlot P T Inx Gen Word
  with_value_in (Allocated generation t) w = Allocated generation w
  with_value_in (Free next) w = Free next

  abbrev pub with_generation_in : ArenaSlot P T Inx Gen Word → Gen → ArenaSlot P T Inx Gen Word
  with_generation_in (Allocated generation t) g = Allocated g t
  with_generation_in (Free next) g = Free next

  abbrev pub allocated_slot : Gen → T → ArenaSlot P T Inx Gen Word
  allocated_slot generation t = Allocated generation t

  abbrev pub free_slot : PackedOption Inx Word → ArenaSlot P T Inx Gen Word
  free_slot next = Free next

  abbrev pub freed_slot : ArenaSlot P T Inx Gen Word → PackedOption Inx Word → ArenaSlot P T Inx Gen Word
  freed_slot (Allocated generation t) next = Free next
  freed_slot (Free other) next = Free other

  abbrev pub entry_in : Option (ArenaSlot P T Inx Gen Word) → Option (Gen × T)
  entry_in None = None
  entry_in (Some slot) = entry_of slot

  -- There is a slot, and it is free.
  abbrev pub IsFree : Option (ArenaSlot P T Inx Gen Word) → Type 0
  IsFree None = ⊥
  IsFree (Some (Allocated generation t)) = ⊥
  IsFree (Some (Free next)) = ⊤

  abbrev pub with_generation_at : List (ArenaSlot P T Inx Gen Word) → ℕ → Gen → List (ArenaSlot P T Inx Gen Word)
  with_generation_at [] k g = []
  with_generation_at (slot ∷ slots) zero g = with_generation_in slot g ∷ slots
  with_generation_at (slot ∷ slots) (suc k) g = slot ∷ with_generation_at slots k g

  -- The next free index that a slot names.
  abbrev pub next_free : (PackedOption Inx Word → Option ℕ) → Option (ArenaSlot P T Inx Gen Word) → Option ℕ
  next_free number None = None
  next_free number (Some (Allocated generation t)) = None
  next_free number (Some (Free next)) = number next

abbrev pub without_value : {P T Inx Gen Word : Type 0} → ArenaSlot P T Inx Gen Word → ArenaSlot P (Unit {0}) Inx Gen Word
without_value (Allocated generation t) = Allocated generation tt
without_value (Free next) = Free next

abbrev pub without_values : {P T Inx Gen Word : Type 0} → List (ArenaSlot P T Inx Gen Word) → List (ArenaSlot P (Unit {0}) Inx Gen Word)
without_values slots = map without_value slots

module _ {P T Inx Gen Word : Type 0} (number : PackedOption Inx Word → Option ℕ) (slots : List (ArenaSlot P T Inx Gen Word)) where
  -- The freed indexes from a first one, at most so many.
  abbrev pub freed_from : ℕ → Option ℕ → List ℕ
  freed_from zero first = []
  freed_from (suc most) None = []
  freed_from (suc most) (Some n) = n ∷ freed_from most (next_free number (item_at slots n))

  -- The freed indexes from `head`, each naming the next.
  abbrev pub IsFreeList : List ℕ → PackedOption Inx Word → Type 0
  IsFreeList [] head = number head ≡ None
  IsFreeList (n ∷ ns) head = (next : PackedOption Inx Word) × (number head ≡ Some n) × (item_at slots n ≡ Some (Free next)) × IsFreeList ns next

  -- Each free slot in the list names the next.
  abbrev pub ThreadsFreeList : List ℕ → Type 0
  ThreadsFreeList freed = (head : PackedOption Inx Word) × IsFreeList freed head

  -- `len` counts the entries, and the freed list from `head` holds every free slot once.
  pub record IsSound (greatest len : ℕ) (head : PackedOption Inx Word) (freed : List ℕ) : Type 0 where
    pub linked : IsFreeList freed head
    pub apart : AreDistinct freed
    pub covers : (n : ℕ) (next : PackedOption Inx Word) → item_at slots n ≡ Some (Free next) → IsMember freed n
    pub counted : len ≡ count_by is_some (map entry_of slots)
    pub total : len + length freed ≡ length slots
    pub fits : length slots ≤ greatest

  abbrev pub freed_of : PackedOption Inx Word → List ℕ
  freed_of head = freed_from (length slots) (number head)

-- An arena of slots, with its freed list.
abbrev pub arena_of : {P T Inx Gen Word : Type 0} → List (ArenaSlot P T Inx Gen Word) → List ℕ → Gen → ℕ → ℕ → Option ℕ → ℕ → ℕ → Arena Gen T
arena_of slots freed counter greatest capacity maximum placed touched = record {
  slots = map entry_of slots;
  counter = counter;
  freed = freed;
  capacity = min capacity greatest;
  stack_capacity = capacity;
  maximum = maximum;
  placed = placed;
  touched = touched;
}

abbrev pub detached_view : {P T Inx Gen Word : Type 0} → List (ArenaSlot P T Inx Gen Word) → ℕ → Option ℕ → DetachedView Gen T
detached_view slots capacity maximum = record { slots = map entry_of slots; stack_capacity = capacity; maximum = maximum }
