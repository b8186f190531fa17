use Rattle.std.specs.Prelude.{◌≡◌, ℕ, Bool, None, Some}
use Rattle.arena_core.specs.declared.invalidation.InvalidationResult.{InvalidationResult}
use Rattle.arena_traits.specs.Arena.{Arena, entry_at, remove_at}
use Rattle.arena_traits.specs.CallOutcomes.{ReportsOverflow}

-- The entry at an index is removed, or nothing changes.
abbrev pub TakesEntryAt : {Gen T : Type 0} → (Gen → Gen) → (Gen → Bool) → Arena Gen T → ℕ → InvalidationResult (Gen × T) → Arena Gen T → Type 0
TakesEntryAt following wraps old i result new =
    ReportsOverflow wraps (Some old.counter) ((entry_at old i ≡ None) × (new ≡ old)) (λ e. (entry_at old i ≡ Some e) × (new ≡ remove_at following old i)) result
