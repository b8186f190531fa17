use Rattle.std.specs.Prelude.{◌≡◌, ℕ, ◌+◌, ◌<◌, ◌≤◌, Result, Ok, Err}
use Rattle.arena_core.specs.SlotStack.{IsBeyond}
use Rattle.arena_core.specs.declared.errors.ReallocationError.{ReallocationError}
use Rattle.arena_core.specs.declared.errors.ReallocationError.TheVariants as refused
use Rattle.arena_traits.specs.Arena.{IsCapacityFor}
use Rattle.arena_traits.specs.Entries.{ArenaView, count, with_capacity}

-- `done`, or an error that `refuses` states.
abbrev pub IsGrowthResult : {X : Type 0} → (ReallocationError → Type 0) → (X → Type 0) → Result X ReallocationError → Type 0
IsGrowthResult refuses done (Ok x) = done x
IsGrowthResult refuses done (Err why) = refuses why

module _ {Gen T : Type 0} where
  abbrev pub IsFull : ArenaView Gen T → Type 0
  IsFull s = count s ≡ s.capacity

  -- The capacity suffices for n entries, and stays if it did before.
  abbrev pub GrowsToFit : ℕ → ℕ → ArenaView Gen T → ArenaView Gen T → Type 0
  GrowsToFit greatest n old new = IsCapacityFor greatest new.maximum n new.capacity × (n ≤ old.capacity → new.capacity ≡ old.capacity)

  -- n exceeds the maximum, or the greatest index, or an allocation fails.
  abbrev pub RefusesToFit : ℕ → ArenaView Gen T → ReallocationError → Type 0
  RefusesToFit n old refused.BeyondMaxCapacity = (old.capacity < n) × IsBeyond old.maximum n
  RefusesToFit n old refused.AllocError = (old.capacity < n) × (IsBeyond old.maximum n → ⊥)

  -- The outcome of a reservation for n entries.
  abbrev pub Reserves : ℕ → ℕ → ArenaView Gen T → Result Unit ReallocationError → ArenaView Gen T → Type 0
  Reserves greatest n old result new =
      IsGrowthResult (RefusesToFit n old) (λ done. (new ≡ with_capacity old new.capacity) × GrowsToFit greatest n old new × (old.capacity ≤ new.capacity)) result

  -- The arena is full, and one more entry is refused.
  abbrev pub RefusesOneMore : ArenaView Gen T → ReallocationError → Type 0
  RefusesOneMore old refused.BeyondMaxCapacity = IsFull old × IsBeyond old.maximum (count old + 1)
  RefusesOneMore old refused.AllocError = IsFull old × (IsBeyond old.maximum (count old + 1) → ⊥)

  -- There is capacity for one more entry.
  abbrev pub GrowsForOneMore : ℕ → ArenaView Gen T → ArenaView Gen T → Type 0
  GrowsForOneMore greatest old new = GrowsToFit greatest (count old + 1) old new
