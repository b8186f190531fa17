use Rattle.std.specs.Prelude.{◌≡◌, ℕ, ◌+◌, ◌≤◌, ◌<◌, Option, Result, Ok, Err}
use Rattle.arena_core.specs.declared.errors.ReallocationError.{ReallocationError}
use Rattle.arena_traits.specs.Arena.{Arena, entry_count, next_index, insert_next, with_capacity_of, ReachesCapacity}
use Rattle.arena_traits.specs.Entries.{view_of, HasFreeCapacity}
use Rattle.arena_traits.specs.Growth.{IsGrowthResult, IsFull, RefusesToFit, RefusesOneMore}

module _ {Gen T : Type 0} where
  -- A value is inserted at the next pointer `p`, within the capacity.
  pub record InsertsWithin (old : Arena Gen T) (t : T) (p : ℕ × Gen) (new : Arena Gen T) : Type 0 where
    pub free : HasFreeCapacity (view_of old)
    pub key : p ≡ (next_index old, old.counter)
    pub state : new ≡ insert_next old t

  -- A value is inserted without growth, or the arena is full.
  abbrev pub InsertsIfFree : {P E : Type 0} → (P → ℕ × Gen) → Arena Gen T → T → Result P E → Arena Gen T → Type 0
  InsertsIfFree key old t (Ok p) new = InsertsWithin old t (key p) new
  InsertsIfFree key old t (Err why) new = IsFull (view_of old)

module _ {Gen T : Type 0} (may_reach : ℕ → Option ℕ → ℕ → ℕ → Type 0) (greatest : ℕ) where
  -- The arena has capacity for n entries; only its capacities change, if they must.
  pub record HasGrownFor (n : ℕ) (old new : Arena Gen T) : Type 0 where
    pub state : new ≡ with_capacity_of old new
    pub capacity : ReachesCapacity may_reach greatest n old new
    pub within : n ≤ old.capacity → new ≡ old

  -- A value is inserted at the next pointer `p`, after the growth needed.
  pub record InsertsAfterGrowth (old : Arena Gen T) (t : T) (p : ℕ × Gen) (new : Arena Gen T) : Type 0 where
    pub key : p ≡ (next_index old, old.counter)
    pub state : new ≡ with_capacity_of (insert_next old t) new
    pub capacity : ReachesCapacity may_reach greatest (entry_count old + 1) old new
    pub within : entry_count old < old.capacity → new ≡ insert_next old t

  -- A growth for n entries, or its refusal.
  abbrev pub GrowsArenaFor : ℕ → Arena Gen T → Result Unit ReallocationError → Arena Gen T → Type 0
  GrowsArenaFor n old result new = IsGrowthResult (RefusesToFit n (view_of old)) (λ done. HasGrownFor n old new) result

  -- A growth for one more entry, or its refusal.
  abbrev pub GrowsArenaForOneMore : Arena Gen T → Result Unit ReallocationError → Arena Gen T → Type 0
  GrowsArenaForOneMore old result new = IsGrowthResult (RefusesOneMore (view_of old)) (λ done. HasGrownFor (entry_count old + 1) old new) result

  -- An insertion, or its refusal.
  abbrev pub InsertsGrowing : {P : Type 0} → (P → ℕ × Gen) → Arena Gen T → T → Result P ReallocationError → Arena Gen T → Type 0
  InsertsGrowing key old t result new = IsGrowthResult (RefusesOneMore (view_of old)) (λ p. InsertsAfterGrowth old t (key p) new) result
