use Rattle.std.specs.Prelude.{◌≡◌, ℕ, ◌+◌, ◌<◌, ◌≤◌, Bool, true, false, List, [], ◌∷◌, ⊤, Option, Err}
use Rattle.std.specs.List.{AllZip}
use Rattle.arena_core.specs.declared.errors.ChainInsertionError.TheVariants as failed
use Rattle.arena_core.specs.declared.errors.ReallocationError.TheVariants as refused
use Rattle.arena_core.specs.declared.invalidation.InvalidationResult.{InvalidationResult}
use Rattle.arena_core.specs.declared.invalidation.InvalidationResult.TheVariants.{Success, GenerationOverflow, InvalidPtr}
use Rattle.arena_core.specs.declared.packed_option.PackedOption.{PackedOption}
use Rattle.arena_traits.specs.Arena.{entry_count, with_capacity_of}
use Rattle.chain_links.specs.Links.{link_view, pair_view}
use Rattle.chain_arena.specs.Effects.{Links, HaveSameCapacity}
use Rattle.arena_core.specs.PointerKinds.{PointerKind}
use Rattle.chain_arena.specs.Steps.{Step, Run}
use Rattle.chain_arena.specs.declared.calls.Call.{Call}
use Rattle.chain_arena.specs.declared.calls.Call.TheVariants as call
use Rattle.chain_arena.specs.declared.calls.Reply.{Reply}
use Rattle.chain_arena.specs.declared.calls.Reply.TheVariants as reply

module _ {Gen T : Type 0} where
  -- Arenas equal but for touches.
  abbrev pub AreSameButTouched : Links Gen T → Links Gen T → Type 0
  AreSameButTouched a b = a ≡ record b { touched = a.touched }

  -- Arenas equal but for touches and capacity.
  abbrev pub AreSameButCapacityAndTouched : Links Gen T → Links Gen T → Type 0
  AreSameButCapacityAndTouched a b = AreSameButTouched a (with_capacity_of b a)

-- Equal results, as `see` shows them.
abbrev pub AreSameResults : {X Y : Type 0} → (X → Y) → InvalidationResult X → InvalidationResult X → Type 0
AreSameResults see InvalidPtr InvalidPtr = ⊤
AreSameResults see (Success x) (Success y) = see x ≡ see y
AreSameResults see (GenerationOverflow x) (GenerationOverflow y) = see x ≡ see y
AreSameResults see returned other = ⊥

module _ {P I Gen W T : Type 0} where
  -- Equal replies, with links as contracts see them.
  abbrev pub AreSameReplies : (PackedOption I W → Option ℕ) → Reply P T I Gen W → Reply P T I Gen W → Type 0
  AreSameReplies packed (reply.Removed returned) (reply.Removed other) = AreSameResults (link_view packed) returned other
  AreSameReplies packed (reply.RemovedInx returned) (reply.RemovedInx other) = AreSameResults (pair_view packed) returned other
  AreSameReplies packed r s = r ≡ s

  -- Whether memory, or an index above the greatest, was refused.
  abbrev pub refused_memory : Reply P T I Gen W → Bool
  refused_memory (reply.Inserted (Err failed.AllocError)) = true
  refused_memory (reply.Reserved (Err refused.AllocError)) = true
  refused_memory r = false

  -- The number of links for which a call needs capacity.
  abbrev pub capacity_needed : Links Gen T → Call P T I Gen W → ℕ
  capacity_needed old (call.Insert kind t) = entry_count old + 1
  capacity_needed old (call.Reserve n) = n
  capacity_needed old call = 0

  abbrev pub HasCapacityAlready : Links Gen T → Call P T I Gen W → Type 0
  HasCapacityAlready old (call.Insert kind t) = entry_count old < old.capacity
  HasCapacityAlready old (call.Reserve n) = n ≤ old.capacity
  HasCapacityAlready old call = ⊤

module _ {P I Gen W : Type 0} (pointers : PointerKind P I Gen W) where
  module _ {T : Type 0} where
    -- A run of calls that need no growth.
    abbrev pub RunWithinCapacity : Links Gen T → List (Call P T I Gen W) → List (Reply P T I Gen W) → Links Gen T → Type 0
    RunWithinCapacity old [] [] new = new ≡ old
    RunWithinCapacity old (call ∷ calls) (reply ∷ replies) new = (between : Links Gen T) × HasCapacityAlready old call × Step pointers old call reply between × RunWithinCapacity between calls replies new
    RunWithinCapacity old calls replies new = ⊥

    -- Two runs of the same calls, with the same capacity after each step.
    abbrev pub RunWithSameCapacity : Links Gen T → Links Gen T → List (Call P T I Gen W) → List (Reply P T I Gen W) → List (Reply P T I Gen W) → Links Gen T → Links Gen T → Type 0
    RunWithSameCapacity old before [] [] [] new other = (new ≡ old) × (other ≡ before)
    RunWithSameCapacity old before (c ∷ calls) (r ∷ replies) (s ∷ others) new other = (between : Links Gen T) × (beside : Links Gen T)
        × Step pointers old c r between × Step pointers before c s beside × HaveSameCapacity between beside × RunWithSameCapacity between beside calls replies others new other
    RunWithSameCapacity old before calls replies others new other = ⊥

    -- Equal replies, and arenas equal but for touches.
    abbrev pub EndSame : List (Reply P T I Gen W) → List (Reply P T I Gen W) → Links Gen T → Links Gen T → Type 0
    EndSame replies others new other = AllZip (AreSameReplies pointers.packed) replies others × AreSameButTouched new other

  -- Without growth, a state and calls determine the replies and, but for touches, the state after
  -- them.
  abbrev pub RunIsDetermined : Type 0 → Type 0
  RunIsDetermined T = (old : Links Gen T) (calls : List (Call P T I Gen W)) (replies others : List (Reply P T I Gen W)) (new other : Links Gen T)
      → RunWithinCapacity old calls replies new → Run pointers old calls others other → EndSame replies others new other

  -- A state and a call determine the reply and, but for capacity and touches, the state, unless an
  -- allocation fails to one run alone and the links fit the greatest index.
  abbrev pub StepIsDetermined : Type 0 → Type 0
  StepIsDetermined T = (old : Links Gen T) (c : Call P T I Gen W) (r s : Reply P T I Gen W) (new other : Links Gen T)
      → Step pointers old c r new → Step pointers old c s other
      → (capacity_needed old c ≤ pointers.greatest → refused_memory r ≡ refused_memory s) → AreSameReplies pointers.packed r s × AreSameButCapacityAndTouched new other

  -- Runs from one state with the same capacities end the same.
  abbrev pub RunIsDeterminedByCapacity : Type 0 → Type 0
  RunIsDeterminedByCapacity T = (old : Links Gen T) (calls : List (Call P T I Gen W)) (replies others : List (Reply P T I Gen W)) (new other : Links Gen T)
      → RunWithSameCapacity old old calls replies others new other → EndSame replies others new other
