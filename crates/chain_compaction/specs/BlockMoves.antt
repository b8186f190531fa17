-- Moves of links to their destinations.
use Rattle.std.specs.Prelude.{◌≡◌, ℕ, ◌+◌, ◌*◌, ◌-◌, ◌≤◌, Bool, List, length, Option, count_by, is_some, if◌then◌else◌}
use Rattle.std.specs.Bool.{OnTrue, OnFalse}
use Rattle.arena_traits.specs.Arena.{slot_at}
use Rattle.arena_base.specs.declared.compactor.Compactor.{Compactor}
use Rattle.chain_links.specs.declared.links.RawLink.{RawLink}
use Rattle.chain_links.specs.Links.{destination_of}
use Rattle.chain_compaction.specs.DetachedLinks.{IsWork}
use Rattle.chain_compaction.specs.Permutations.{HasDestination, WaitsWithin, IsInBlock, IsSettling, ListsWaiting, HaveMoved, CanMoveAll, waiting_count, Settles, IsWorkOn, IsWorkInRounds}
use Rattle.chain_compaction.specs.WorkCounts.{ChangesOnlySlots}

module _ {V S I W Gen K T : Type 0} (number : K → Option ℕ) where
  -- The number of links that wait to be moved.
  abbrev pub unplaced_count : Compactor V (RawLink K T) S I Gen W → ℕ
  unplaced_count now = waiting_count (destination_of number) now.detached.slots

  -- `unplaced` links wait, each for an existing slot.
  abbrev pub CanSettle : Compactor V (RawLink K T) S I Gen W → ℕ → Type 0
  CanSettle now unplaced = record {
    within : WaitsWithin (destination_of number) now.detached.slots;
    unplaced : unplaced ≡ unplaced_count now;
  }

  -- `unplaced` links wait; `count` slots after `start`, at most 64, are a block, of at most
  -- `greatest`.
  abbrev pub CanSettleBlock : ℕ → ℕ → ℕ → Compactor V (RawLink K T) S I Gen W → ℕ → Type 0
  CanSettleBlock greatest start count now unplaced = record {
    few : count ≤ 64;
    block : start + count ≤ length now.detached.slots;
    fits : length now.detached.slots ≤ greatest;
    within : WaitsWithin (destination_of number) now.detached.slots;
    unplaced : unplaced ≡ unplaced_count now;
  }

  -- All `links` links may be moved, in at most `greatest` slots.
  abbrev pub CanMoveLinks : ℕ → Compactor V (RawLink K T) S I Gen W → ℕ → Type 0
  CanMoveLinks greatest now links = record {
    fits : length now.detached.slots ≤ greatest;
    links : links ≡ count_by is_some now.detached.slots;
    can : CanMoveAll (destination_of number) now.detached.slots;
  }

  module _ (generation : Gen) where
    -- The link at i was moved, if it had a destination; none waits at i unless `may_wait`.
    abbrev pub SettlesAt : ℕ → (old new : Compactor V (RawLink K T) S I Gen W) → ℕ → Bool → Type 0
    SettlesAt i old new unplaced may_wait = record {
      settles : IsSettling (destination_of number) (Settles number generation) (λ (j : ℕ). j ≡ i) old.detached.slots new.detached.slots;
      none : OnFalse may_wait ((d : ℕ) (e : Gen × RawLink K T) → HasDestination (destination_of number) (slot_at new.detached.slots) i e d → ⊥);
      fewer : OnTrue may_wait (unplaced_count new + 1 ≡ unplaced_count old);
      kept : ChangesOnlySlots old new;
      work : IsWorkOn old.arena.now new.arena.now (unplaced_count old) (unplaced_count new) (if may_wait then 0 else 1);
      unplaced : unplaced ≡ unplaced_count new;
    }

    -- The links at `before` slots moved once; in the block, links wait only at the first `left`
    -- positions.
    abbrev pub SettlesListed : ℕ → ℕ → (old new : Compactor V (RawLink K T) S I Gen W) → ℕ → ℕ → List ℕ → ℕ → Type 0
    SettlesListed start count old new unplaced before positions left = record {
      settles : IsSettling (destination_of number) (Settles number generation) (IsInBlock start count) old.detached.slots new.detached.slots;
      lists : ListsWaiting (destination_of number) start count positions left (slot_at new.detached.slots);
      fewer : left ≤ before;
      moved : left + unplaced_count new ≤ unplaced_count old;
      kept : ChangesOnlySlots old new;
      work : IsWorkOn old.arena.now new.arena.now (unplaced_count old) (unplaced_count new) (before - left);
      unplaced : unplaced ≡ unplaced_count new;
    }

    -- Links were moved until none waits in the block.
    abbrev pub SettlesBlock : ℕ → ℕ → (old new : Compactor V (RawLink K T) S I Gen W) → ℕ → Type 0
    SettlesBlock start count old new unplaced = record {
      settles : IsSettling (destination_of number) (Settles number generation) (IsInBlock start count) old.detached.slots new.detached.slots;
      none : (j d : ℕ) (e : Gen × RawLink K T) → IsInBlock start count j → HasDestination (destination_of number) (slot_at new.detached.slots) j e d → ⊥;
      kept : ChangesOnlySlots old new;
      work : IsWorkInRounds old.arena.now new.arena.now (unplaced_count old) (unplaced_count new) count 0;
      unplaced : unplaced ≡ unplaced_count new;
    }

    -- All links were moved, each with one placement.
    abbrev pub MovesLinks : (old new : Compactor V (RawLink K T) S I Gen W) → Type 0
    MovesLinks old new = record {
      moved : HaveMoved (destination_of number) (Settles number generation) (slot_at old.detached.slots) (slot_at new.detached.slots);
      kept : ChangesOnlySlots old new;
      work : IsWork old.arena.now new.arena.now (count_by is_some old.detached.slots) (4 * count_by is_some old.detached.slots + length old.detached.slots);
      length : length new.detached.slots ≡ length old.detached.slots;
    }
