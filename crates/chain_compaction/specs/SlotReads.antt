-- Reads and other touches of slots.
use Rattle.std.specs.Prelude.{◌≡◌, ℕ, ◌≤◌, ◌<◌, List, slice_index, Option, Some}
use Rattle.std.specs.Option.{option_map}
use Rattle.chain_laws.specs.Chains.{prev_of, next_of}
use Rattle.arena_traits.specs.Arena.{slot_at}
use Rattle.arena_base.specs.DetachedSlots.{with_touch}
use Rattle.arena_base.specs.declared.compactor.Compactor.{Compactor}
use Rattle.chain_links.specs.declared.links.RawLink.{RawLink}
use Rattle.chain_links.specs.Links.{destination_at}
use Rattle.chain_compaction.specs.DetachedLinks.{link_map_in, IsWork}
use Rattle.chain_compaction.specs.WorkCounts.{CountsWork}

abbrev pub AreBelow : ℕ → List ℕ → ℕ → Type 0
AreBelow limit positions count = (p : ℕ) → p < count → slice_index positions p < limit

module _ {P T S Inx Gen Word : Type 0} where
  -- One touch was counted.
  pub record HasTouchedSlot (old new : Compactor P T S Inx Gen Word) : Type 0 where
    pub arena : new.arena.now ≡ with_touch old.arena.now
    pub counts : CountsWork old new

  -- One touch was counted, and nothing else changed.
  pub record HasReadSlot (old new : Compactor P T S Inx Gen Word) : Type 0 where
    pub detached : new.detached ≡ old.detached
    pub arena : new.arena.now ≡ with_touch old.arena.now
    pub counts : CountsWork old new

  -- At most `most` touches were counted, and nothing else changed.
  pub record HasReadSlots (old new : Compactor P T S Inx Gen Word) (most : ℕ) : Type 0 where
    pub detached : new.detached ≡ old.detached
    pub work : IsWork old.arena.now new.arena.now 0 most
    pub counts : CountsWork old new

-- The parts of the link at i were read, or none.
abbrev pub HasReadLink : {P S Inx Gen Word K T : Type 0} → (Inx → ℕ) → (K → Option ℕ) → (old new : Compactor P (RawLink K T) S Inx Gen Word) → Inx → Option Gen → (prev next destination : Option Inx) → Type 0
HasReadLink number packed_number old new i was before after target = record {
  was_read : HasReadSlot old new;
  generation : was ≡ option_map (λ e. e.0) (slot_at old.detached.slots (number i));
  prev : option_map number before ≡ prev_of (link_map_in packed_number old.detached.slots) (number i);
  next : option_map number after ≡ next_of (link_map_in packed_number old.detached.slots) (number i);
  destination : option_map number target ≡ destination_at packed_number old.detached.slots (number i);
}

-- The link at `on` was read, if any and at most `left` reads; `next` is the index after it.
abbrev pub HasPrefetchedNext : {P S Inx Gen Word K T : Type 0} → (K → Option ℕ) → (old new : Compactor P (RawLink K T) S Inx Gen Word) → (on next : Option ℕ) → (left count : ℕ) → Type 0
HasPrefetchedNext packed_number old new on next left count = record {
  few : count ≤ left;
  read : HasReadSlots old new count;
  next : (k : ℕ) → next ≡ Some k → (j : ℕ) × (on ≡ Some j) × (next_of (link_map_in packed_number old.detached.slots) j ≡ Some k);
}
