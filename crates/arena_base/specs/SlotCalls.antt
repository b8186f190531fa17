use Rattle.std.specs.Prelude.{◌≡◌, ℕ, ◌+◌, map, List, slice_get, slice_set, Option, Some, OnSome, IfNone}
use Rattle.arena_core.specs.declared.packed_option.PackedOption.{PackedOption}
use Rattle.arena_base.specs.DetachedSlots.{free_from}
use Rattle.arena_base.specs.Slots.{entry_of, entry_in, with_generation_at, allocated_slot, free_slot, freed_slot, IsSound, KeepsBounds}
use Rattle.arena_base.specs.declared.slot.ArenaSlot.{ArenaSlot}

-- The entry of a slot, if any, is removed; the slot names the freed slot `next`.
abbrev pub VacatesSlot : {P T Inx Gen Word : Type 0} → PackedOption Inx Word → ArenaSlot P T Inx Gen Word → Option (Gen × T) → ArenaSlot P T Inx Gen Word → Type 0
VacatesSlot next old result new = record {
  entry : result ≡ entry_of old;
  after : new ≡ freed_slot old next;
}

module _ {S P T Inx Gen Word : Type 0} (items : S → List (ArenaSlot P T Inx Gen Word)) (capacity : S → ℕ) (maximum : S → Option ℕ) where
  abbrev pub WritesSlot : ℕ → ArenaSlot P T Inx Gen Word → S → S → Type 0
  WritesSlot k slot old new = record {
    items : items new ≡ slice_set (items old) k slot;
    bounds : KeepsBounds capacity maximum old new;
  }

  -- The entry at position k, if any, gets a generation.
  abbrev pub RegeneratesSlot : ℕ → Gen → S → S → Type 0
  RegeneratesSlot k generation old new = record {
    items : items new ≡ with_generation_at (items old) k generation;
    bounds : KeepsBounds capacity maximum old new;
  }

  -- The entry at position k gets the value t, and its former value is returned.
  abbrev pub ReplacesValueAt : ℕ → T → S → T → S → Type 0
  ReplacesValueAt k t old result new = record {
    items : (g : Gen) (u : T) → slice_get (items old) k ≡ Some (allocated_slot g u) → (result ≡ u) × (items new ≡ slice_set (items old) k (allocated_slot g t));
    bounds : KeepsBounds capacity maximum old new;
  }

  -- The entries at positions k and m have each other's value.
  abbrev pub ExchangesValuesAt : ℕ → ℕ → S → S → Type 0
  ExchangesValuesAt k m old new = record {
    items : (g h : Gen) (t u : T) → slice_get (items old) k ≡ Some (allocated_slot g t) → slice_get (items old) m ≡ Some (allocated_slot h u)
        → items new ≡ slice_set (slice_set (items old) k (allocated_slot g u)) m (allocated_slot h t);
    bounds : KeepsBounds capacity maximum old new;
  }

  -- The free slot at position k gets an entry, and the freed index in it is returned.
  abbrev pub FillsSlot : ℕ → Gen → T → S → PackedOption Inx Word → S → Type 0
  FillsSlot k generation t old result new = record {
    was : slice_get (items old) k ≡ Some (free_slot result);
    items : items new ≡ slice_set (items old) k (allocated_slot generation t);
    bounds : KeepsBounds capacity maximum old new;
  }

  -- The entry at position k, if any, is removed and returned, and its slot is free.
  abbrev pub VacatesSlotAt : ℕ → PackedOption Inx Word → S → Option (Gen × T) → S → Type 0
  VacatesSlotAt k next old result new = record {
    entry : result ≡ entry_in (slice_get (items old) k);
    some : OnSome result (items new ≡ slice_set (items old) k (free_slot next));
    none : IfNone result (items new ≡ items old);
    bounds : KeepsBounds capacity maximum old new;
  }

  module _ (packed : PackedOption Inx Word → Option ℕ) where
    -- The slot at position k is free, before the freed slot `next`, and its index is returned.
    abbrev pub ListsSlot : ℕ → PackedOption Inx Word → S → PackedOption Inx Word → S → Type 0
    ListsSlot k next old result new = record {
      index : packed result ≡ Some (k + 1);
      items : items new ≡ slice_set (items old) k (free_slot next);
      bounds : KeepsBounds capacity maximum old new;
    }

    -- The free slots are listed by ascending index, and the entries counted.
    abbrev pub ListsFreeSlots : ℕ → S → ℕ × PackedOption Inx Word → S → Type 0
    ListsFreeSlots greatest old result new = record {
      entries : map entry_of (items new) ≡ map entry_of (items old);
      sound : IsSound packed (items new) greatest result.0 result.1 (free_from 1 (map entry_of (items old)));
      bounds : KeepsBounds capacity maximum old new;
    }
