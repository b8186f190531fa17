use Rattle.std.specs.Prelude.{◌≡◌, ◌↔◌, ℕ, suc, ◌+◌, ◌^◌, ◌<◌, ◌≤◌, ◌==◌, ⊤, cond, List, [], ◌∷◌, ◌++◌, map, reverse, length, drop, All, Option, None, Some, IfSome}
use Rattle.std.specs.Option.{option_map}
use Rattle.arena_core.specs.Numbers.{IsWithin}
use Rattle.arena_core.specs.SlotStack.{IsBeyond}
use Rattle.arena_traits.specs.Arena.{Arena, slot_at, IsMember, AreDistinct, first_or_next, without_first, counter_after_clear}

-- The number of slots, the freed list in order of use, and the totals.
pub record Slots : Type 0 where
  pub count : ℕ
  pub freed : List ℕ
  pub placed : ℕ
  pub touched : ℕ

-- Entries by ascending index, counter and slots if known, capacity, and maximum.
pub record ArenaView (Gen T : Type 0) : Type 0 where
  pub entries : List ((ℕ × Gen) × T)
  pub counter : Option Gen
  pub slots : Option Slots
  pub capacity : ℕ
  pub maximum : Option ℕ

-- Slot `i` becomes first in the freed list.
abbrev pub with_freed : ℕ → Slots → Slots
with_freed i slots = record slots { freed = i ∷ slots.freed; placed = slots.placed + 1 }

abbrev pub next_slot : Slots → ℕ
next_slot slots = first_or_next slots.freed slots.count

-- The number of slots after an insertion, given the freed list and the number before.
abbrev pub count_with_next : List ℕ → ℕ → ℕ
count_with_next [] n = n + 1
count_with_next (i ∷ freed) n = n

-- An insertion fills the first freed slot, or else a new one.
abbrev pub with_next_filled : Slots → Slots
with_next_filled slots = record slots { count = count_with_next slots.freed slots.count; freed = without_first slots.freed; placed = slots.placed + 1 }

abbrev pub with_totals_zero : Slots → Slots
with_totals_zero slots = record slots { placed = 0; touched = 0 }

abbrev pub without_slots : Slots → Slots
without_slots slots = record slots { count = 0; freed = [] }

module _ {Gen T : Type 0} where
  abbrev pub key_at : ℕ → Gen × T → ℕ × Gen
  key_at i e = (i, e.0)

  -- The entries of slots, with first index `i`.
  abbrev pub entries_from : ℕ → List (Option (Gen × T)) → List ((ℕ × Gen) × T)
  entries_from i [] = []
  entries_from i (None ∷ slots) = entries_from (suc i) slots
  entries_from i (Some e ∷ slots) = ((i, e.0), e.1) ∷ entries_from (suc i) slots

  -- The first entry at position `from` or later, just before position `next`.
  pub record IsNextEntry (slots : List (Option (Gen × T))) (from next : ℕ) (key : ℕ × Gen) (t : T) : Type 0 where
    pub index : key.0 ≡ next
    pub stored : slot_at slots next ≡ Some (key.1, t)
    pub first : entries_from (from + 1) (drop from slots) ≡ (key, t) ∷ entries_from (next + 1) (drop next slots)

  abbrev pub entries : Arena Gen T → List ((ℕ × Gen) × T)
  entries a = entries_from 1 a.slots

  abbrev pub index_of : (ℕ × Gen) × T → ℕ
  index_of e = e.0.0

  -- The entries and the freed list have each slot's index once.
  pub record CoverSlots (es : List ((ℕ × Gen) × T)) (slots : Slots) : Type 0 where
    pub apart : AreDistinct (map index_of es ++ slots.freed)
    pub all : (i : ℕ) → IsMember (map index_of es ++ slots.freed) i ↔ IsWithin slots.count i

  abbrev pub view_of : Arena Gen T → ArenaView Gen T
  view_of a = record {
    entries = entries a;
    counter = Some a.counter;
    slots = Some (record { count = length a.slots; freed = a.freed; placed = a.placed; touched = a.touched });
    capacity = a.capacity;
    maximum = a.maximum;
  }

  -- The generation and the value at an index.
  abbrev pub found : ℕ → List ((ℕ × Gen) × T) → Option (Gen × T)
  found i [] = None
  found i (e ∷ es) = cond (e.0.0 == i) (Some (e.0.1, e.1)) (found i es)

  abbrev pub without_index : ℕ → List ((ℕ × Gen) × T) → List ((ℕ × Gen) × T)
  without_index i [] = []
  without_index i (e ∷ es) = cond (e.0.0 == i) es (e ∷ without_index i es)

  abbrev pub with_replacement : ℕ → (Gen × T → Gen × T) → List ((ℕ × Gen) × T) → List ((ℕ × Gen) × T)
  with_replacement i f [] = []
  with_replacement i f (e ∷ es) = cond (e.0.0 == i) (((i, (f (e.0.1, e.1)).0), (f (e.0.1, e.1)).1) ∷ es) (e ∷ with_replacement i f es)

  -- The indexes of the entries rise from at least `i`.
  abbrev pub AscendsFrom : ℕ → List ((ℕ × Gen) × T) → Type 0
  AscendsFrom i [] = ⊤
  AscendsFrom i (e ∷ es) = (i ≤ e.0.0) × AscendsFrom (suc e.0.0) es

  abbrev pub first_key : List ((ℕ × Gen) × T) → Option (ℕ × Gen)
  first_key [] = None
  first_key (e ∷ es) = Some e.0

  abbrev pub last_key : List ((ℕ × Gen) × T) → Option (ℕ × Gen)
  last_key es = first_key (reverse es)

  abbrev pub view_after_removal : (Gen → Gen) → ArenaView Gen T → ℕ → ArenaView Gen T
  view_after_removal following s i = record s {
    entries = without_index i s.entries;
    counter = option_map following s.counter;
    slots = option_map (with_freed i) s.slots;
  }

  -- The view after an entry and the counter got a generation.
  abbrev pub view_after_invalidation : ArenaView Gen T → ℕ × Gen → ArenaView Gen T
  view_after_invalidation s p = record s { entries = with_replacement p.0 (λ e. (p.1, e.1)) s.entries; counter = option_map (λ _. p.1) s.counter }

  abbrev pub view_with_value : ArenaView Gen T → ℕ → T → ArenaView Gen T
  view_with_value s i t = record s { entries = with_replacement i (λ e. (e.0, t)) s.entries }

  -- The view after a clear; without entries the counter stays.
  abbrev pub view_after_clear : (Gen → Gen) → ArenaView Gen T → ArenaView Gen T
  view_after_clear following s = record s {
    entries = [];
    counter = option_map (counter_after_clear following (length s.entries)) s.counter;
    slots = option_map without_slots s.slots;
  }

  abbrev pub with_capacity : ArenaView Gen T → ℕ → ArenaView Gen T
  with_capacity s n = record s { capacity = n }

  abbrev pub count : ArenaView Gen T → ℕ
  count s = length s.entries

  abbrev pub HasFreeCapacity : ArenaView Gen T → Type 0
  HasFreeCapacity s = count s < s.capacity

  -- One more entry needs growth beyond the maximum.
  abbrev pub NeedsBeyondMaximum : ArenaView Gen T → Type 0
  NeedsBeyondMaximum s = (count s ≡ s.capacity) × IsBeyond s.maximum (count s + 1)

  -- A new arena: nothing in it or counted, and the counter, if known, at the first generation.
  pub record IsNew (first : Gen) (s : ArenaView Gen T) : Type 0 where
    pub entries : s.entries ≡ []
    pub counter : IfSome s.counter (λ g. g ≡ first)
    pub slots : IfSome s.slots (λ slots. slots ≡ record { count = 0; freed = []; placed = 0; touched = 0 })

  -- What holds of every arena's view.
  abbrev pub IsSoundView : ℕ → ArenaView Gen T → Type 0
  IsSoundView greatest s = record {
    fits : count s ≤ s.capacity;
    one_more : count s + 1 < 2 ^ 64;
    indexes : All (λ e. IsWithin greatest (index_of e)) s.entries;
    filled : IfSome s.slots (CoverSlots s.entries);
  }

  -- A view that agrees with the entry at each index.
  pub record ArenaState (view : ArenaView Gen T) (entry : ℕ → Option (Gen × T)) : Type 0 where
    pub ascends : AscendsFrom 1 view.entries
    pub finds : (i : ℕ) → found i view.entries ≡ entry i
