use Rattle.std.specs.Prelude.{◌≡◌, ℕ, ◌+◌, ◌^◌, ◌<◌, ◌≤◌, ◌↔◌, min, Bool, IsTrue, List, [], ◌∷◌, map, drop, length, Option, None, Some, slice_index_or, IfSome, IfNone}
use Rattle.std.specs.Borrow.{Bor}
use Rattle.std.specs.Option.{option_map}
use Rattle.arena_core.specs.Invalidation.{invalidation_option}
use Rattle.arena_core.specs.declared.invalidation.InvalidationOption.{InvalidationOption}
use Rattle.arena_core.specs.declared.packed_option.PackedOption.{PackedOption}
use Rattle.arena_traits.specs.Arena.{Arena, entry_at, entry_count, invalidate_at, with_counter, with_value, HasCapacityFor}
use Rattle.arena_traits.specs.Compressions.{counter_after_compression, overflows_after_compression}
use Rattle.arena_traits.specs.Entries.{entries, entries_from, key_at, IsNextEntry}
use Rattle.arena_base.specs.DetachedSlots.{DetachedView, detached_of, arena_without_slots}
use Rattle.arena_base.specs.Slots.{entry_of, ThreadsFreeList}
use Rattle.arena_base.specs.declared.slot.ArenaSlot.{ArenaSlot}

-- A pointer with this key is returned, if there is one.
abbrev pub ReturnsPointer : {P Gen : Type 0} → (P → ℕ × Gen) → Option (ℕ × Gen) → Option P → Type 0
ReturnsPointer key_of expected result = record {
  key : option_map key_of result ≡ expected;
  fits : IfSome result (λ p. (key_of p).0 + 1 < 2 ^ 64);
}

-- This counter is returned, with its overflow.
abbrev pub ReturnsCounter : {Gen : Type 0} → Gen → Bool → Gen × Bool → Type 0
ReturnsCounter counter overflows result = record {
  next : result.0 ≡ counter;
  overflow : result.1 ≡ overflows;
}

module _ {P Gen T : Type 0} (key : P → ℕ × Gen) (slots : List (Option (Gen × T))) where
  -- The pointer and the value at position k are returned.
  abbrev pub ReturnsPairAt : ℕ → Option (P × Bor T) → Type 0
  ReturnsPairAt k result = record {
    key : option_map (λ e. key e.0) result ≡ option_map (key_at (k + 1)) (slice_index_or slots k None);
    value : option_map (λ e. e.1.now) result ≡ option_map (λ e. e.1) (slice_index_or slots k None);
  }

  -- The first entry from position `from` on is returned, with the position after it.
  abbrev pub ReturnsNext : ℕ → Option (ℕ × P × Bor T) → Type 0
  ReturnsNext from result = record {
    none : IfNone result (entries_from (from + 1) (drop from slots) ≡ []);
    some : IfSome result (λ e. IsNextEntry slots from e.0 (key e.1) e.2.now);
    fits : IfSome result (λ e. e.0 + 1 < 2 ^ 64);
  }

-- The first entry from position `from` on is removed, and returned with the position after it.
abbrev pub TakesNext : {P Gen T : Type 0} → (P → ℕ × Gen) → ℕ → Arena Gen T → Option (ℕ × P × T) → Arena Gen T → Type 0
TakesNext key from old result new = record {
  none : IfNone result ((entries_from (from + 1) (drop from old.slots) ≡ []) × (new ≡ old));
  some : IfSome result (λ e. entries_from (from + 1) (drop from old.slots) ≡ (key e.1, e.2) ∷ entries_from (e.0 + 1) (drop e.0 new.slots));
}

module _ {Gen T : Type 0} where
  -- The entries at two indexes have each other's value.
  abbrev pub IsExchanged : Arena Gen T → ℕ → ℕ → Arena Gen T → Type 0
  IsExchanged old i j new = (g h : Gen) (t u : T) → entry_at old i ≡ Some (g, t) → entry_at old j ≡ Some (h, u) → new ≡ with_value (with_value old i u) j t

  -- Whether the entries use up the capacity.
  abbrev pub ReportsFull : ℕ → Arena Gen T → Bool → Type 0
  ReportsFull greatest a result = record {
    full : IsTrue result ↔ (entry_count a ≡ a.capacity);
    capacity : HasCapacityFor greatest (entry_count a) a;
  }

  -- The counter is incremented, with its overflow.
  abbrev pub IncrementsCounter : (Gen → Gen) → (Gen → Bool) → Arena Gen T → InvalidationOption Unit → Arena Gen T → Type 0
  IncrementsCounter following wraps old result new = record {
    overflow : result ≡ invalidation_option (wraps old.counter) tt;
    after : new ≡ with_counter old (following old.counter);
  }

  -- The counter is set for a compression, with its overflow.
  abbrev pub BeginsGeneration : Gen → (Gen → Gen) → (Gen → Bool) → Bool → Arena Gen T → InvalidationOption Unit → Arena Gen T → Type 0
  BeginsGeneration first following wraps reset old result new = record {
    after : new ≡ with_counter old (counter_after_compression first following reset (length (entries old)) old.counter);
    overflow : result ≡ invalidation_option (overflows_after_compression wraps reset (length (entries old)) old.counter) tt;
  }

  -- The entry at an index gets the generation after the counter.
  abbrev pub RenewsEntry : (Gen → Gen) → (Gen → Bool) → ℕ → Arena Gen T → Gen × Bool → Arena Gen T → Type 0
  RenewsEntry following wraps i old result new = record {
    next : result.0 ≡ following old.counter;
    overflow : result.1 ≡ wraps old.counter;
    after : new ≡ invalidate_at following old i;
  }

  -- The slots are taken, and an empty stack is left.
  abbrev pub DetachesSlots : Option ℕ → ℕ → Arena Gen T → DetachedView Gen T → Arena Gen T → Type 0
  DetachesSlots maximum greatest old result new = record {
    detached : result ≡ detached_of old;
    after : new ≡ arena_without_slots maximum old;
    fits : length old.slots ≤ greatest;
  }

  -- A stack has the slots of an arena.
  abbrev pub IsBacking : {S P Inx Word : Type 0} → (S → List (ArenaSlot P T Inx Gen Word)) → (S → ℕ) → (S → Option ℕ) → (PackedOption Inx Word → Option ℕ) → ℕ → Arena Gen T → S → Type 0
  IsBacking items capacity maximum packed greatest a stack = record {
    slots : map entry_of (items stack) ≡ a.slots;
    freed : ThreadsFreeList packed (items stack) a.freed;
    capacity : capacity stack ≡ a.stack_capacity;
    arena_capacity : a.capacity ≡ min a.stack_capacity greatest;
    maximum : maximum stack ≡ a.maximum;
  }
