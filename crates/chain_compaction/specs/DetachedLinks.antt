-- Links in the slots that a compactor holds.
use Rattle.std.specs.Prelude.{◌≡◌, ℕ, ◌≤◌, Bool, true, false, List, map, Option}
use Rattle.std.specs.Option.{option_map}
use Rattle.chain_laws.specs.Chains.{LinkMap, Interlinks}
use Rattle.chain_laws.specs.Joins.{with_next_at, with_prev_at}
use Rattle.arena_traits.specs.Arena.{Arena, slot_at}
use Rattle.arena_traits.specs.Entries.{entries_from, index_of}
use Rattle.arena_base.specs.DetachedSlots.{DetachedView}
use Rattle.arena_base.specs.GatheredSlots.{with_totals}
use Rattle.chain_links.specs.declared.links.RawLink.{RawLink}
use Rattle.chain_links.specs.ChainArena.{on_value, interlinks_in}
use Rattle.chain_links.specs.Links.{link_view, held_in}

module _ {Gen K T : Type 0} where
  -- The slots with the values alone.
  abbrev pub slot_values : List (Option (Gen × RawLink K T)) → List (Option (Gen × T))
  slot_values slots = map (option_map (on_value held_in)) slots

  abbrev pub detached_values : DetachedView Gen (RawLink K T) → DetachedView Gen T
  detached_values detached = record { slots = slot_values detached.slots; stack_capacity = detached.stack_capacity; maximum = detached.maximum }

  abbrev pub body_interlinks : (K → Option ℕ) → Gen × RawLink K T → Interlinks
  body_interlinks number e = interlinks_in (link_view number e.1)

  -- The interlinks at each index.
  abbrev pub link_map_in : (K → Option ℕ) → List (Option (Gen × RawLink K T)) → LinkMap
  link_map_in number slots i = option_map (body_interlinks number) (slot_at slots i)

-- The link map with `prev` (`true`) or `next` (`false`) set.
abbrev pub with_neighbor : Bool → LinkMap → Option ℕ → Option ℕ → LinkMap
with_neighbor true link_map i named = with_prev_at link_map i named
with_neighbor false link_map i named = with_next_at link_map i named

abbrev pub indexes_in : {Gen T : Type 0} → List (Option (Gen × T)) → List ℕ
indexes_in slots = map index_of (entries_from 1 slots)

-- Exactly `placements` placements and at most `most` touches.
pub record IsWork {Gen T : Type 0} (old new : Arena Gen T) (placements most : ℕ) : Type 0 where
  pub touches : ℕ
  pub few : touches ≤ most
  pub arena : new ≡ with_totals old placements touches
