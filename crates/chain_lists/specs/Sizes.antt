-- Calls on the size of an arena.
use Rattle.std.specs.Prelude.{◌≡◌, ℕ, ◌+◌, ◌≤◌, [], OnErr, Option, Result}
use Rattle.arena_core.specs.SlotStack.{IsWithinMaximum}
use Rattle.arena_core.specs.declared.errors.ReallocationError.{ReallocationError}
use Rattle.chain_laws.specs.Chains.{LinkMap}
use Rattle.arena_traits.specs.Entries.{ArenaView, ArenaState, count}
use Rattle.arena_traits.specs.Growth.{Reserves}

module _ {Gen T : Type 0} (s : ArenaView Gen T) where
  abbrev pub StartsEmpty : Type 0
  StartsEmpty = record { entries : s.entries ≡ []; capacity : s.capacity ≡ 0 }

  -- `len`: the number of entries, within the capacity.
  abbrev pub CountsEntries : ℕ → Type 0
  CountsEntries result = record { count : result ≡ count s; fits : result ≤ s.capacity }

  -- `capacity`: within the greatest index and the maximum.
  abbrev pub ReportsCapacity : ℕ → ℕ → Type 0
  ReportsCapacity greatest result = record { value : result ≡ s.capacity; limits : (result ≤ greatest) × IsWithinMaximum s.maximum result }

module _ {A Gen T : Type 0} {view : A → ArenaView Gen T} {entry : A → ℕ → Option (Gen × T)} (state : (a : A) → ArenaState (view a) (entry a)) (interlinks : A → LinkMap) where
  -- `reserve`: capacity for so many more entries; entries and links stay.
  abbrev pub ReservesMore : ℕ → ℕ → A → Result Unit ReallocationError → A → Type 0
  ReservesMore greatest additional old result new = record {
    outcome : Reserves greatest (count (view old) + additional) (view old) result (view new);
    within : count (view old) + additional ≤ (view old).capacity → new ≡ old;
    kept : (entry new ≡ entry old) × (interlinks new ≡ interlinks old);
    err : OnErr result (new ≡ old);
  }
