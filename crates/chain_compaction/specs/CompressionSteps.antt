-- Moves of links to the first free index.
use Rattle.std.specs.Prelude.{◌≡◌, ◌≢◌, ℕ, ◌+◌, ◌*◌, ◌≤◌, Bool, Option, None, Some, OnSome, IfNone, length}
use Rattle.std.specs.Option.{option_map}
use Rattle.std.specs.Fn.{Mut}
use denote.Ref.{MutBor}
use Rattle.chain_laws.specs.Chains.{LinkMap, IsWellLinked}
use Rattle.chain_laws.specs.Renamings.{IsRenaming}
use Rattle.chain_laws.specs.Arrangements.{place_in}
use Rattle.chain_laws.specs.Moves.{with_link_moved, CanMove}
use Rattle.arena_traits.specs.Arena.{Arena, slot_at}
use Rattle.arena_traits.specs.Entries.{entries_from}
use Rattle.arena_traits.specs.Compressions.{VisitsAll}
use Rattle.arena_base.specs.DetachedSlots.{DetachedView, IsPacked, with_placed_entry, with_touch}
use Rattle.arena_base.specs.GatheredSlots.{AreClosed}
use Rattle.arena_base.specs.declared.compactor.Compactor.{Compactor}
use Rattle.chain_links.specs.declared.links.RawLink.{RawLink}
use Rattle.chain_links.specs.Links.{StayAtRest}
use Rattle.chain_compaction.specs.DetachedLinks.{detached_values, link_map_in, with_neighbor, indexes_in, IsWork}
use Rattle.chain_compaction.specs.WorkCounts.{CountsWork}

abbrev pub IsLinkMove : LinkMap → LinkMap → ℕ → ℕ → Type 0
IsLinkMove old new from to = IsWellLinked old → CanMove old from to → new ≡ with_link_moved old from to

module _ {Gen K T : Type 0} where
  abbrev pub link_count : DetachedView Gen (RawLink K T) → ℕ
  link_count detached = length (entries_from 1 (detached_values detached).slots)

  -- One placement per link, at most one touch per slot and three per link.
  abbrev pub IsClosingWork : DetachedView Gen (RawLink K T) → Arena Gen (RawLink K T) → Arena Gen (RawLink K T) → Type 0
  IsClosingWork detached old new = IsWork old new (link_count detached) (length detached.slots + 3 * link_count detached)

abbrev pub CanBring : {P T S Inx Gen Word : Type 0} → (from to : ℕ) → Compactor P T S Inx Gen Word → Type 0
CanBring from to now = record {
  from_within : from ≤ length now.detached.slots;
  to_within : to ≤ length now.detached.slots;
  free : to ≢ from → slot_at now.detached.slots to ≡ None;
}

module _ {P S I W Gen K T : Type 0} (number : K → Option ℕ) where
  -- `prev` (if `before`) or else `next` of the link, if any, is set.
  abbrev pub SetsNeighbor : Bool → Option ℕ → ℕ → (old new : Compactor P (RawLink K T) S I Gen W) → Type 0
  SetsNeighbor before i named old new = record {
    values : detached_values new.detached ≡ detached_values old.detached;
    links : link_map_in number new.detached.slots ≡ with_neighbor before (link_map_in number old.detached.slots) i (Some named);
    at_rest : StayAtRest number old.detached.slots new.detached.slots;
    work : IsWork old.arena.now new.arena.now 0 1;
    counts : CountsWork old new;
  }

  -- The link at `from`, if any, was moved to `to`; `was` is its old generation.
  abbrev pub MovesLink : (from to : ℕ) → Gen → (old new : Compactor P (RawLink K T) S I Gen W) → Option Gen → Type 0
  MovesLink from to generation old new was = record {
    returned : was ≡ option_map (λ e. e.0) (slot_at old.detached.slots from);
    values : OnSome was (detached_values new.detached ≡ with_placed_entry (detached_values old.detached) from to generation);
    moves : OnSome was (IsLinkMove (link_map_in number old.detached.slots) (link_map_in number new.detached.slots) from to);
    at_rest : StayAtRest number old.detached.slots new.detached.slots;
    work : OnSome was (IsWork old.arena.now new.arena.now 1 3);
    none : IfNone was ((new.detached ≡ old.detached) × (new.arena.now ≡ with_touch old.arena.now));
    counts : CountsWork old new;
  }

  -- All `count` links moved to the front, in order, and the closure saw each.
  abbrev pub CompactsLinks : {F : Type 0} → Mut F (P × (MutBor T × (P × Unit {0}))) (Unit {0} × (MutBor T × Unit {0})) → (P → ℕ × Gen) → Gen → F → (old new : Compactor P (RawLink K T) S I Gen W) → ℕ → Type 0
  CompactsLinks g key generation map old new count = record {
    closed : AreClosed generation (detached_values old.detached) (detached_values new.detached);
    packed : IsPacked new.detached.slots count;
    visits : VisitsAll g key map (entries_from 1 (detached_values old.detached).slots) (entries_from 1 (detached_values new.detached).slots);
    renamed : IsRenaming (place_in (indexes_in (detached_values old.detached).slots)) (link_map_in number old.detached.slots) (link_map_in number new.detached.slots);
    at_rest : StayAtRest number old.detached.slots new.detached.slots;
    work : IsClosingWork old.detached old.arena.now new.arena.now;
    counts : CountsWork old new;
  }
