use Rattle.std.specs.Prelude.{◌≡◌, ◌↔◌, ℕ, ◌<◌, ◌≤◌, List, Option, Some, None, Result, Ok, Err, OnOk, OnErr, ⊤, min}
use Rattle.std.specs.Coded.{le_prop, Unit-prop}
use Rattle.arena_core.specs.declared.errors.ReallocationError.{ReallocationError}
use Rattle.arena_core.specs.declared.errors.ReallocationError.TheVariants as errors

-- There is a maximum, and `n` is above it.
abbrev pub IsBeyond : Option ℕ → ℕ → Type 0
IsBeyond None n = ⊥
IsBeyond (Some most) n = most < n

-- `n` is at most the maximum, if there is one.
abbrev pub IsWithinMaximum : Option ℕ → ℕ → Type 0
IsWithinMaximum None n = ⊤
IsWithinMaximum (Some most) n = n ≤ most

pub IsWithinMaximum-prop : (maximum : Option ℕ) (n : ℕ) → IsProp (IsWithinMaximum maximum n)
IsWithinMaximum-prop None n = Unit-prop
IsWithinMaximum-prop (Some most) n = le_prop

-- The lesser of `n` and the maximum.
abbrev pub min_with_maximum : Option ℕ → ℕ → ℕ
min_with_maximum None n = n
min_with_maximum (Some most) n = min n most

module _ {S X : Type 0} (items_of : S → List X) (capacity_of : S → ℕ) (maximum_of : S → Option ℕ) where
  -- The stack has these items, this capacity and this maximum.
  abbrev pub IsStackWith : S → List X → ℕ → Option ℕ → Type 0
  IsStackWith s all n most = record {
    items : items_of s ≡ all;
    capacity : capacity_of s ≡ n;
    maximum : maximum_of s ≡ most;
  }

  -- The items become these, and nothing else changes.
  abbrev pub ChangesItems : S → List X → S → Type 0
  ChangesItems old all new = IsStackWith new all (capacity_of old) (maximum_of old)

  -- The outcome of a growth to a capacity of at least n.
  abbrev pub ReservesTo : (ℕ → Option ℕ → ℕ → ℕ → Type 0) → ℕ → S → Result Unit ReallocationError → S → Type 0
  ReservesTo may_reach n old result new = record {
    items : items_of new ≡ items_of old;
    maximum : maximum_of new ≡ maximum_of old;
    within : n ≤ capacity_of old → (result ≡ Ok tt) × (capacity_of new ≡ capacity_of old);
    beyond : (result ≡ Err errors.BeyondMaxCapacity) ↔ IsBeyond (maximum_of old) n;
    grown : OnOk result (n ≤ capacity_of new);
    reached : OnOk result (capacity_of old < n → may_reach (capacity_of old) (maximum_of old) n (capacity_of new));
    never_less : capacity_of old ≤ capacity_of new;
    refused : OnErr result (capacity_of new ≡ capacity_of old);
  }
