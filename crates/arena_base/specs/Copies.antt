use Rattle.std.specs.Prelude.{◌≡◌, ℕ, ◌≤◌, List, [], ◌∷◌, ◌++◌, map, length, Option}
use Rattle.std.specs.Option.{option_map}
use Rattle.std.specs.Borrow.{Bor}
use Rattle.std.specs.List.{FoldsTo}
use Rattle.std.specs.Fn.{Mut, Called}
use Rattle.arena_traits.specs.Arena.{Arena, with_capacity_of}
use Rattle.arena_traits.specs.Entries.{ArenaView, Slots, entries, without_slots}

-- A value made: the entry's pointer, the value passed, and the value returned.
pub record Copied (P U T : Type 0) : Type 0 where
  pub pointer : P
  pub value : U
  pub returned : T

module _ {F P U T : Type 0} (makes : F → P → U → T → F → Type 0) where
  abbrev pub Makes : F → Copied P U T → F → Type 0
  Makes f made next = makes f made.pointer made.value made.returned next

  -- The maker is called for each entry, in order, and returns the copy's values.
  pub record CopiesBy {Gen : Type 0} (key : P → ℕ × Gen) (f : F) (source : List ((ℕ × Gen) × U)) (copy : List ((ℕ × Gen) × T)) (last : F) : Type 0 where
    pub made : List (Copied P U T)
    pub in_turn : FoldsTo Makes f made last
    pub before : map (λ c. (key c.pointer, c.value)) made ≡ source
    pub after : map (λ c. (key c.pointer, c.returned)) made ≡ copy

-- A value may be refused for some entry.
pub record HasRefusable {P U Gen : Type 0} (may_refuse : P → U → Type 0) (key : P → ℕ × Gen) (source : List ((ℕ × Gen) × U)) : Type 0 where
  pub pointer : P
  pub value : U
  pub before : List ((ℕ × Gen) × U)
  pub after : List ((ℕ × Gen) × U)
  pub stored : source ≡ before ++ (key pointer, value) ∷ after
  pub refusable : may_refuse pointer value

-- A call of a closure that gets a value by reference.
pub record IsCopyCall {F P U T : Type 0} (g : Mut F (P × (Bor U × Unit {0})) T) (f : F) (p : P) (u : U) (t : T) (next : F) : Type 0 where
  pub lent : Bor U
  pub lends : lent.now ≡ u
  pub called : Called g f (p, (lent, tt)) t next

-- Slots with the number and the freed list of an arena's.
abbrev pub with_slots_of : {Gen U : Type 0} → Arena Gen U → Slots → Slots
with_slots_of source slots = record slots { count = length source.slots; freed = source.freed }

-- A copy with values by a maker.
pub record IsCopyBy {F P U T Gen : Type 0} (makes : F → P → U → T → F → Type 0) (key : P → ℕ × Gen) (f : F) (source : Arena Gen U) (old new : ArenaView Gen T) (last : F) : Type 0 where
  pub entries : CopiesBy makes key f (entries source) new.entries last
  pub counter : new.counter ≡ option_map (λ _. source.counter) old.counter
  pub slots : new.slots ≡ option_map (with_slots_of source) old.slots
  pub maximum : new.maximum ≡ old.maximum

-- A copy with values by a closure.
abbrev pub IsCopy : {F P U T Gen : Type 0} → Mut F (P × (Bor U × Unit {0})) T → (P → ℕ × Gen) → F → Arena Gen U → ArenaView Gen T → ArenaView Gen T → Type 0
IsCopy {F = F} g key f source old new = (last : F) × IsCopyBy (IsCopyCall g) key f source old new last

abbrev pub generations : {Gen T : Type 0} → List (Option (Gen × T)) → List (Option Gen)
generations slots = map (option_map (λ e. e.0)) slots

-- The source's slots (apart from values), counter and freed list; a sufficient capacity stays.
pub record HasSlotsOf {Gen U T : Type 0} (source : Arena Gen U) (old new : Arena Gen T) : Type 0 where
  pub state : new ≡ record (with_capacity_of old new) { slots = new.slots; counter = source.counter; freed = source.freed }
  pub generations : generations new.slots ≡ generations source.slots
  pub within_capacity : length source.slots ≤ old.capacity → new.stack_capacity ≡ old.stack_capacity

-- After a copy failed for a value, counter, totals, maximum and capacity are left.
abbrev pub IsAbandonedCopy : {Gen T : Type 0} → Arena Gen T → Arena Gen T → Type 0
IsAbandonedCopy old new = new ≡ record (with_capacity_of old new) { slots = []; freed = [] }

-- The view of an `IsAbandonedCopy`.
abbrev pub IsAbandonedView : {Gen T : Type 0} → ArenaView Gen T → ArenaView Gen T → Type 0
IsAbandonedView old new = new ≡ record old { entries = []; slots = option_map without_slots old.slots; capacity = new.capacity }
