use Rattle.std.specs.Prelude.{◌≡◌, ℕ, ◌≤◌, ◌↔◌, ◌⊎◌, map, List, length, Option, Result, Err, IsOk, IfOk, OnOk, OnErr}
use Rattle.std.specs.Borrow.{Bor}
use Rattle.std.specs.Fn.{Mut}
use Rattle.arena_core.specs.SlotStack.{IsBeyond}
use Rattle.arena_core.specs.declared.errors.AllocError.{AllocError}
use Rattle.arena_core.specs.declared.errors.ReallocationError.{ReallocationError}
use Rattle.arena_core.specs.declared.errors.ReallocationError.TheVariants as refused
use Rattle.arena_traits.specs.Arena.{Arena, IsCapacityFor, HasCapacityFor, IsWithinReach}
use Rattle.arena_traits.specs.Entries.{ArenaView, entries, entries_from}
use Rattle.arena_base.specs.Copies.{CopiesBy, HasRefusable, HasSlotsOf, IsAbandonedCopy, IsAbandonedView, IsCopy, IsCopyBy}
use Rattle.arena_base.specs.Slots.{entry_of, without_values, KeepsBounds}
use Rattle.arena_base.specs.declared.slot.ArenaSlot.{ArenaSlot}

module _ {F P U T : Type 0} (is_ready : F → Type 0) (makes : F → P → U → T → F → Type 0) (may_refuse : P → U → Type 0) where
  -- A maker's call makes a value, or refuses it.
  abbrev pub MakesOrRefuses : F → P → U → Result T AllocError → F → Type 0
  MakesOrRefuses old p u result new = record {
    made : IfOk result (λ t. makes old p u t new);
    ready : OnOk result (is_ready new);
    refused : OnErr result (may_refuse p u);
  }

  -- Slots are copied into an empty stack, or a value is refused.
  abbrev pub CopiesSlots : {S Q Inx Gen Word : Type 0} → (S → List (ArenaSlot Q T Inx Gen Word)) → (S → ℕ) → (S → Option ℕ) → (P → ℕ × Gen) → F → List (ArenaSlot Q U Inx Gen Word) → S → Result Unit AllocError × F → S → Type 0
  CopiesSlots items capacity maximum key values source old result new = record {
    alike : OnOk result.0 (without_values (items new) ≡ without_values source);
    copies : OnOk result.0 (CopiesBy makes key values (entries_from 1 (map entry_of source)) (entries_from 1 (map entry_of (items new))) result.1);
    ready : OnOk result.0 (is_ready result.1);
    bounds : KeepsBounds capacity maximum old new;
    refused : OnErr result.0 (HasRefusable may_refuse key (entries_from 1 (map entry_of source)));
  }

  module _ {Gen : Type 0} (key : P → ℕ × Gen) (greatest : ℕ) (values : F) (source : Arena Gen U) where
    -- The source is copied into an arena, or refused.
    abbrev pub CopiesArena : (ℕ → Option ℕ → ℕ → ℕ → Type 0) → Arena Gen T → Result Unit ReallocationError × F → Arena Gen T → Type 0
    CopiesArena may_reach old result new = record {
      within : length source.slots ≤ old.capacity → (IsOk result.0 ⊎ HasRefusable may_refuse key (entries source)) × (new.capacity ≡ old.capacity);
      beyond : (result.0 ≡ Err refused.BeyondMaxCapacity) ↔ IsBeyond old.maximum (length source.slots);
      unchanged : result.0 ≡ Err refused.BeyondMaxCapacity → (new ≡ old) × (result.1 ≡ values);
      ok : OnOk result.0 (HasCapacityFor greatest (length source.slots) new);
      copied : OnOk result.0 (CopiesBy makes key values (entries source) (entries new) result.1);
      ready : OnOk result.0 (is_ready result.1);
      slots : OnOk result.0 (HasSlotsOf source old new);
      never_less : old.capacity ≤ new.capacity;
      reached : IsWithinReach may_reach (length source.slots) old new;
      err : OnErr result.0 (((new ≡ old) × (result.1 ≡ values)) ⊎ (HasRefusable may_refuse key (entries source) × IsAbandonedCopy old new));
    }

    -- The source is copied into an arena with a view, or refused.
    abbrev pub CopiesView : {A : Type 0} → (A → ArenaView Gen T) → (Arena Gen U → A → A → Type 0) → A → Result Unit ReallocationError × F → A → Type 0
    CopiesView view copies old result new = record {
      within : length source.slots ≤ (view old).capacity → (IsOk result.0 ⊎ HasRefusable may_refuse key (entries source)) × ((view new).capacity ≡ (view old).capacity);
      beyond : (result.0 ≡ Err refused.BeyondMaxCapacity) ↔ IsBeyond (view old).maximum (length source.slots);
      unchanged : result.0 ≡ Err refused.BeyondMaxCapacity → (new ≡ old) × (result.1 ≡ values);
      ok : OnOk result.0 (IsCapacityFor greatest (view new).maximum (length source.slots) (view new).capacity);
      copied : OnOk result.0 (IsCopyBy makes key values source (view old) (view new) result.1);
      ready : OnOk result.0 (is_ready result.1);
      never_less : (view old).capacity ≤ (view new).capacity;
      err : OnErr result.0 (((new ≡ old) × (result.1 ≡ values)) ⊎ (HasRefusable may_refuse key (entries source) × IsAbandonedView (view old) (view new)));
      implementation : OnOk result.0 (copies source old new);
    }

-- A source is copied with a closure's values, or refused.
abbrev pub CopiesViewWith : {F P U T Gen A : Type 0} → Mut F (P × (Bor U × Unit {0})) T → (P → ℕ × Gen) → ℕ → F → Arena Gen U → (A → ArenaView Gen T) → (Arena Gen U → A → A → Type 0) → A → Result Unit ReallocationError → A → Type 0
CopiesViewWith g key greatest f source view copies old result new = record {
  within : length source.slots ≤ (view old).capacity → IsOk result × ((view new).capacity ≡ (view old).capacity);
  beyond : (result ≡ Err refused.BeyondMaxCapacity) ↔ IsBeyond (view old).maximum (length source.slots);
  ok : OnOk result (IsCapacityFor greatest (view new).maximum (length source.slots) (view new).capacity);
  copied : OnOk result (IsCopy g key f source (view old) (view new));
  never_less : (view old).capacity ≤ (view new).capacity;
  err : OnErr result (new ≡ old);
  implementation : OnOk result (copies source old new);
}
