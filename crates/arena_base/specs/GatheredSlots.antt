use Rattle.std.specs.Prelude.{◌≡◌, ℕ, ◌+◌, List, [], ◌++◌, map, replicate, length, Option, None, Some}
use Rattle.std.specs.Fn.{Mut}
use denote.Ref.{MutBor}
use Rattle.arena_traits.specs.Arena.{Arena}
use Rattle.arena_traits.specs.Entries.{entries}
use Rattle.arena_base.specs.DetachedSlots.{DetachedView}
use Rattle.arena_traits.specs.Compressions.{VisitsAll}

module _ {Gen T : Type 0} where
  -- Entries of one generation with these values, then `slots`.
  abbrev pub with_front : Gen → List T → List (Option (Gen × T)) → List (Option (Gen × T))
  with_front g values slots = map (λ t. Some (g, t)) values ++ slots

  -- Entries of generation `g`, then free slots, as many as before.
  pub record AreClosed (g : Gen) (old new : DetachedView Gen T) : Type 0 where
    pub values : List T
    pub free : ℕ
    pub detached : new ≡ record old { slots = with_front g values (replicate free None) }
    pub same_length : length values + free ≡ length old.slots

  abbrev pub with_totals : Arena Gen T → ℕ → ℕ → Arena Gen T
  with_totals a placements touches = record a { placed = a.placed + placements; touched = a.touched + touches }

  -- The slots are `values`, each placed, read and lent once.
  abbrev pub arena_of_values : Arena Gen T → List T → Arena Gen T
  arena_of_values a values = record a {
    slots = with_front a.counter values [];
    freed = [];
    placed = a.placed + length values;
    touched = a.touched + (length a.slots + length values);
  }

-- The entries are compacted, as the closure left them.
pub record IsGathered {F P T Gen : Type 0} (g : Mut F (P × (MutBor T × (P × Unit {0}))) (Unit {0} × (MutBor T × Unit {0}))) (key : P → ℕ × Gen) (f : F) (old new : Arena Gen T) : Type 0 where
  pub values : List T
  pub arena : new ≡ arena_of_values old values
  pub visits : VisitsAll g key f (entries old) (entries new)
