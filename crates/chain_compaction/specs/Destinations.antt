-- Links whose destinations are their places in a list.
use Rattle.std.specs.Prelude.{◌≡◌, ℕ, ◌+◌, ◌*◌, ◌≤◌, ◌⊎◌, Bool, false, List, ◌∷◌, ◌++◌, map, length, Option, None, Some, is_none}
use Rattle.std.specs.Option.{option_map, option_and_then}
use Rattle.chain_laws.specs.ChainStart.{IsStart}
use Rattle.chain_laws.specs.Chains.{LinkMap, Chain, linear, cyclic, items, IsMember, IsChain, first_or}
use Rattle.chain_laws.specs.Arrangements.{place_from, place_in, IsLeastIndexOrder}
use Rattle.arena_traits.specs.Arena.{Arena, slot_at}
use Rattle.arena_base.specs.DetachedSlots.{DetachedView, detached_with_value}
use Rattle.arena_base.specs.declared.compactor.Compactor.{Compactor}
use Rattle.chain_links.specs.ChainArena.{LinkView, on_value, ptr_at}
use Rattle.chain_links.specs.Links.{link_view, pair_view, destination_of, destination_at}
use Rattle.chain_compaction.specs.DetachedLinks.{link_map_in, IsWork}
use Rattle.chain_compaction.specs.Layouts.{ReportsMoves}
use Rattle.chain_compaction.specs.WorkCounts.{CountsWork}
use Rattle.chain_links.specs.declared.links.RawLink.{RawLink}

abbrev pub HasChainFrom : LinkMap → ℕ → Type 0
HasChainFrom link_map i = (xs : List ℕ) × ((IsChain link_map (linear xs) × IsMember xs i) ⊎ IsChain link_map (cyclic (i ∷ xs)))

abbrev pub renamed_link : {T : Type 0} → (ℕ → Option ℕ) → LinkView T → LinkView T
renamed_link to link = record link { prev = option_and_then to link.prev; next = option_and_then to link.next }

abbrev pub renamed_detached : {Gen T : Type 0} → (ℕ → Option ℕ) → DetachedView Gen (LinkView T) → DetachedView Gen (LinkView T)
renamed_detached to detached = record detached { slots = map (option_map (on_value (renamed_link to))) detached.slots }

-- The destination after the `count`-th link of a chain behind `before` links, or of its first if
-- the last is cyclic.
abbrev pub number_after : Option ℕ → Option ℕ → ℕ → ℕ → Option ℕ
number_after (Some on) next before count = Some (count + 1)
number_after None (Some first) before count = Some (before + 1)
number_after None None before count = None

module _ {Gen K T : Type 0} (number : K → Option ℕ) where
  -- The slots as contracts see them.
  abbrev pub detached_view : DetachedView Gen (RawLink K T) → DetachedView Gen (LinkView T)
  detached_view detached = record { slots = map (option_map (pair_view number)) detached.slots; stack_capacity = detached.stack_capacity; maximum = detached.maximum }

  -- A link without a destination.
  abbrev pub is_fresh : Option (Gen × RawLink K T) → Bool
  is_fresh None = false
  is_fresh (Some e) = is_none (destination_of number e)

  -- `count` links have their places in `done` as destinations.
  pub record AreNumbered (slots : List (Option (Gen × RawLink K T))) (count : ℕ) (done : List ℕ) : Type 0 where
    pub destinations : (j : ℕ) → destination_at number slots j ≡ place_in done j
    pub counts : count ≡ length done

  -- Only the destination at i was set or removed.
  pub record IsDirectedAt (i : ℕ) (destination : Option ℕ) (old new : DetachedView Gen (RawLink K T)) : Type 0 where
    pub there : (l : RawLink K T) → Some l ≡ option_map (λ e. e.1) (slot_at old.slots i)
        → (w : RawLink K T) × (number w.destination ≡ destination) × (w ≡ record l { destination = w.destination }) × (new ≡ detached_with_value old i w)
    pub none : None ≡ option_map (λ e. e.1) (slot_at old.slots i) → new ≡ old

  -- Only the interlinks and destination at i were set.
  pub record IsRelinkedAt (i : ℕ) (prev next destination : Option ℕ) (old new : DetachedView Gen (RawLink K T)) : Type 0 where
    pub there : (l : RawLink K T) → Some l ≡ option_map (λ e. e.1) (slot_at old.slots i)
        → (w : RawLink K T) × (link_view number w ≡ record { prev = prev; next = next; value = l.t }) × (number w.destination ≡ destination) × (new ≡ detached_with_value old i w)
    pub none : None ≡ option_map (λ e. e.1) (slot_at old.slots i) → new ≡ old

  -- Only the link at i changed, to name the last, if that names a first.
  pub record IsRingClosed (i : ℕ) (first last : Option ℕ) (old new : DetachedView Gen (RawLink K T)) : Type 0 where
    pub ring : (k : ℕ) (l : RawLink K T) → first ≡ Some k → Some l ≡ option_map (λ e. e.1) (slot_at old.slots i)
        → (w : RawLink K T) × (number w.prev ≡ last) × (w ≡ record l { prev = w.prev }) × (new ≡ detached_with_value old i w)
    pub linear : first ≡ None → new ≡ old

  -- Only the listed links are seen as what they `become`.
  pub record AreRelinked (becomes : ℕ → LinkView T → LinkView T) (old now : DetachedView Gen (RawLink K T)) (xs : List ℕ) : Type 0 where
    pub there : (j : ℕ) → IsMember xs j → option_map (pair_view number) (slot_at now.slots j) ≡ option_map (on_value (becomes j)) (option_map (pair_view number) (slot_at old.slots j))
    pub stay : (j : ℕ) → (IsMember xs j → ⊥) → slot_at now.slots j ≡ slot_at old.slots j
    pub long : length now.slots ≡ length old.slots
    pub capacity : now.stack_capacity ≡ old.stack_capacity
    pub maximum : now.maximum ≡ old.maximum

  -- The chain from `start` has no destinations yet.
  pub record CanNumber (slots : List (Option (Gen × RawLink K T))) (start count : ℕ) (done : List ℕ) (c : Chain) : Type 0 where
    pub numbered : AreNumbered slots count done
    pub chain : IsChain (link_map_in number slots) c
    pub starts : first_or (items c) None ≡ Some start
    pub apart : (j : ℕ) → IsMember (items c) j → IsMember done j → ⊥
    pub fits : length done + length (items c) ≤ length slots

  -- The chain of i starts at `start`; at most its links and `reads` others were read.
  abbrev pub FindsStart : {V S I W : Type 0} → (old new : Compactor V (RawLink K T) S I Gen W) → (i start limit reads : ℕ) → Type 0
  FindsStart old new i start limit reads = record {
    start : IsStart (link_map_in number old.detached.slots) i start;
    ahead : reads ≤ limit;
    detached : new.detached ≡ old.detached;
    linear : (xs : List ℕ) → IsChain (link_map_in number old.detached.slots) (linear xs) → IsMember xs i → IsWork old.arena.now new.arena.now 0 (length xs + reads);
    cyclic : (xs : List ℕ) → IsChain (link_map_in number old.detached.slots) (cyclic (i ∷ xs)) → IsWork old.arena.now new.arena.now 0 (length xs + 1 + reads);
    counts : CountsWork old new;
  }

  -- A chain may be numbered from `start`, after `before` links, in at most `greatest` slots.
  abbrev pub CanNumberFrom : {V S I W : Type 0} → ℕ → Compactor V (RawLink K T) S I Gen W → (start before : ℕ) → Type 0
  CanNumberFrom greatest now start before = record {
    fits : length now.detached.slots ≤ greatest;
    can : (done : List ℕ) × (c : Chain) × CanNumber now.detached.slots start before done c;
  }

  module _ {F P : Type 0} (g : F → P → P → F → Type 0) (key : P → ℕ × Gen) where
    -- The chain is numbered after `done`, and the visitor has seen it.
    pub record IsChainNumbered (generation : Gen) (f last : F) (old new : DetachedView Gen (RawLink K T)) (before after : Arena Gen (RawLink K T)) (count : ℕ) (done : List ℕ) (c : Chain) : Type 0 where
      pub numbered : AreNumbered new.slots count (done ++ items c)
      pub relinked : AreRelinked (λ _. renamed_link (place_from (length done + 1) (items c))) old new (items c)
      pub reports : ReportsMoves g key (ptr_at (slot_at old.slots)) generation (length done + 1) f (items c) last
      pub work : IsWork before after 0 (3 * length (items c))

    -- The chain from `start`, if it could be, is numbered; `count` links are.
    abbrev pub NumbersChain : {V S I W : Type 0} → Gen → ℕ → F → F → (old new : Compactor V (RawLink K T) S I Gen W) → ℕ → ℕ → Type 0
    NumbersChain generation start f last old new before count = record {
      numbered : (done : List ℕ) (c : Chain) → CanNumber old.detached.slots start before done c
          → IsChainNumbered generation f last old.detached new.detached old.arena.now new.arena.now count done c;
      counts : CountsWork old new;
    }

    -- All `count` links are numbered in least-index order, and the visitor has seen them.
    pub record AreAllNumbered (generation : Gen) (f last : F) (old new : DetachedView Gen (RawLink K T)) (before after : Arena Gen (RawLink K T)) (count : ℕ) : Type 0 where
      pub indexes : List ℕ
      pub order : IsLeastIndexOrder (link_map_in number old.slots) indexes
      pub counted : count ≡ length indexes
      pub destinations : (j : ℕ) → destination_at number new.slots j ≡ place_in indexes j
      pub renamed : detached_view new ≡ renamed_detached (place_in indexes) (detached_view old)
      pub reports : ReportsMoves g key (ptr_at (slot_at old.slots)) generation 1 f indexes last
      pub work : IsWork before after 0 (2 * length old.slots + 5 * length indexes)

    -- All `count` links are numbered, and the work is counted.
    abbrev pub NumbersAll : {V S I W : Type 0} → Gen → F → F → (old new : Compactor V (RawLink K T) S I Gen W) → ℕ → Type 0
    NumbersAll generation f last old new count = record {
      numbered : AreAllNumbered generation f last old.detached new.detached old.arena.now new.arena.now count;
      counts : CountsWork old new;
    }
