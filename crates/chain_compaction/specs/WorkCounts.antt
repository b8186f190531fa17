-- What a compactor counts and keeps.
use Rattle.std.specs.Prelude.{◌≡◌, ℕ, ◌-◌, ◌^◌, min}
use Rattle.arena_traits.specs.Arena.{Arena}
use Rattle.arena_base.specs.GatheredSlots.{with_totals}
use Rattle.arena_base.specs.declared.compactor.Compactor.{Compactor}

abbrev pub saturating_count : ℕ → ℕ
saturating_count n = min n (2 ^ 128 - 1)

module _ {Gen T : Type 0} where
  -- All work since `first` is counted.
  pub record HasCounted (first now : Arena Gen T) (placed touched : ℕ) : Type 0 where
    pub placements : ℕ
    pub touches : ℕ
    pub arena : now ≡ with_totals first placements touches
    pub placements_counted : placed ≡ saturating_count placements
    pub touches_counted : touched ≡ saturating_count touches

-- The same arena; all work stays counted.
pub record CountsWork {V T S Inx Gen Word : Type 0} (old new : Compactor V T S Inx Gen Word) : Type 0 where
  pub same_reference : new.arena.ghost_name ≡ old.arena.ghost_name
  pub on : (first : Arena Gen T) → HasCounted first old.arena.now old.placed old.touched → HasCounted first new.arena.now new.placed new.touched

-- Only slots and counts changed; all work stays counted.
pub record ChangesOnlySlots {V T S Inx Gen Word : Type 0} (old new : Compactor V T S Inx Gen Word) : Type 0 where
  pub capacity : new.detached.stack_capacity ≡ old.detached.stack_capacity
  pub maximum : new.detached.maximum ≡ old.detached.maximum
  pub counts : CountsWork old new
