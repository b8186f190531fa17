-- Links already in canonical order.
use Rattle.std.specs.Prelude.{◌≡◌, ℕ, ◌+◌, ◌*◌, ◌⊎◌, Bool, if◌then◌else◌, List, length, Option, None, Some}
use Rattle.chain_laws.specs.Arrangements.{place_in, IsLeastIndexOrder}
use Rattle.arena_traits.specs.Arena.{Arena, slot_at}
use Rattle.arena_base.specs.DetachedSlots.{DetachedView, IsPacked}
use Rattle.arena_base.specs.declared.compactor.Compactor.{Compactor}
use Rattle.chain_links.specs.ChainArena.{LinkView, ptr_at}
use Rattle.chain_links.specs.Links.{StayAtRest}
use Rattle.chain_links.specs.declared.links.RawLink.{RawLink}
use Rattle.chain_compaction.specs.DetachedLinks.{link_map_in, IsWork}
use Rattle.chain_compaction.specs.Layouts.{ReportsMoves}
use Rattle.chain_compaction.specs.Destinations.{detached_view, renamed_link}
use Rattle.chain_compaction.specs.WorkCounts.{CountsWork}

-- The link at k names the next, or ends its run; then the next run starts at `after`.
abbrev pub IsStartAfter : ℕ → Bool → ℕ → Option ℕ → ℕ → Type 0
IsStartAfter start is_cyclic k next after =
    ((after ≡ start) × (next ≡ Some (k + 2)))
    ⊎ ((after ≡ k + 1) × (next ≡ (if is_cyclic then Some (start + 1) else None)))

module _ {F P Gen K T : Type 0} (number : K → Option ℕ) (g : F → P → P → F → Type 0) (key : P → ℕ × Gen) where
  -- All `count` links are in the first slots in least-index order, with at most four touches per
  -- slot and `most` per link.
  pub record AreAllPlaced (generation : Gen) (f last : F) (old new : DetachedView Gen (RawLink K T)) (before after : Arena Gen (RawLink K T)) (count most : ℕ) : Type 0 where
    pub indexes : List ℕ
    pub order : IsLeastIndexOrder (link_map_in number old.slots) indexes
    pub counted : count ≡ length indexes
    pub placed : (i d : ℕ) (x : Gen × LinkView T) → place_in indexes i ≡ Some d → slot_at (detached_view number old).slots i ≡ Some x
        → slot_at (detached_view number new).slots d ≡ Some (generation, renamed_link (place_in indexes) x.1)
    pub packed : IsPacked new.slots count
    pub capacity : new.stack_capacity ≡ old.stack_capacity
    pub maximum : new.maximum ≡ old.maximum
    pub reports : ReportsMoves g key (ptr_at (slot_at old.slots)) generation 1 f indexes last
    pub work : IsWork before after (length indexes) (4 * length old.slots + most * length indexes)

  -- All `count` links are placed; if none had a destination, none has.
  abbrev pub PlacesLinks : {S I W : Type 0} → Gen → F → F → (old new : Compactor P (RawLink K T) S I Gen W) → ℕ → ℕ → Type 0
  PlacesLinks generation f last old new count most = record {
    placed : AreAllPlaced generation f last old.detached new.detached old.arena.now new.arena.now count most;
    at_rest : StayAtRest number old.detached.slots new.detached.slots;
    counts : CountsWork old new;
  }
