use Rattle.std.specs.Prelude.{◌≡◌, ℕ, ◌+◌, ◌≤◌, length, Option, OnSome, IfNone}
use Rattle.std.specs.Option.{option_map}
use Rattle.std.specs.Fn.{Mut}
use denote.Ref.{MutBor}
use Rattle.arena_traits.specs.Arena.{Arena, slot_at}
use Rattle.arena_traits.specs.Compressions.{VisitsAll}
use Rattle.arena_traits.specs.Entries.{entries_from}
use Rattle.arena_base.specs.DetachedSlots.{detached_of, arena_without_slots, arena_after_return, with_touch, with_placement, with_placed_entry, saturating_increment, IsPacked}
use Rattle.arena_base.specs.GatheredSlots.{AreClosed, with_totals}
use Rattle.arena_base.specs.declared.compactor.Compactor.{Compactor}
use Rattle.arena_base.specs.declared.compactor.Work.{Work}

module _ {P T S Inx Gen Word : Type 0} where
  -- The slots are taken into a compactor, which has counted nothing.
  abbrev pub TakesSlots : Option ℕ → ℕ → MutBor (Arena Gen T) → Compactor P T S Inx Gen Word → Type 0
  TakesSlots maximum greatest old result = record {
    same_reference : result.arena.ghost_name ≡ old.ghost_name;
    arena : result.arena.now ≡ arena_without_slots maximum old.now;
    detached : result.detached ≡ detached_of old.now;
    placed : result.placed ≡ 0;
    touched : result.touched ≡ 0;
    fits : length old.now.slots ≤ greatest;
  }

  -- Two slots are swapped, the first's entry gets a generation, and a placement is counted.
  abbrev pub PlacesEntry : ℕ → ℕ → Gen → (old new : Compactor P T S Inx Gen Word) → Type 0
  PlacesEntry from to generation old new = record {
    same_reference : new.arena.ghost_name ≡ old.arena.ghost_name;
    arena : new.arena.now ≡ with_placement old.arena.now;
    detached : new.detached ≡ with_placed_entry old.detached from to generation;
    placed : new.placed ≡ saturating_increment old.placed;
    touched : new.touched ≡ old.touched;
  }

  -- The slots are returned to the arena, and the counts reported.
  abbrev pub ReturnsSlots : ℕ → Compactor P T S Inx Gen Word → Work → Arena Gen T → Type 0
  ReturnsSlots greatest old result new = record {
    arena : new ≡ arena_after_return greatest old.arena.now old.detached;
    placed : result.placed ≡ old.placed;
    touched : result.touched ≡ old.touched;
  }

  -- The entry at an index, if any, is moved and gets a generation; its old one is returned.
  abbrev pub MovesEntry : ℕ → ℕ → Gen → Compactor P T S Inx Gen Word → Option Gen → Compactor P T S Inx Gen Word → Type 0
  MovesEntry from to generation old result new = record {
    same_reference : new.arena.ghost_name ≡ old.arena.ghost_name;
    returned : result ≡ option_map (λ e. e.0) (slot_at old.detached.slots from);
    some : OnSome result ((new.detached ≡ with_placed_entry old.detached from to generation) × (new.arena.now ≡ with_placement (with_touch old.arena.now)));
    none : IfNone result ((new.detached ≡ old.detached) × (new.arena.now ≡ with_touch old.arena.now));
  }

-- The entries are moved to the first slots, and visited.
abbrev pub CompactsEntries : {F Q P T S Inx Gen Word : Type 0} → Mut F (Q × (MutBor T × (Q × Unit {0}))) (Unit {0} × (MutBor T × Unit {0})) → (Q → ℕ × Gen) → Gen → F → Compactor P T S Inx Gen Word → ℕ → Compactor P T S Inx Gen Word → Type 0
CompactsEntries g key generation f old result new = record {
  same_reference : new.arena.ghost_name ≡ old.arena.ghost_name;
  closed : AreClosed generation old.detached new.detached;
  packed : IsPacked new.detached.slots result;
  visits : VisitsAll g key f (entries_from 1 old.detached.slots) (entries_from 1 new.detached.slots);
  totals : new.arena.now ≡ with_totals old.arena.now (length (entries_from 1 old.detached.slots)) (length old.detached.slots + length (entries_from 1 old.detached.slots));
}
