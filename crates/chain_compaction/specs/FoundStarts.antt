-- Starts of chains found by walks back.
use Rattle.std.specs.Prelude.{◌≡◌, ◌≢◌, ℕ, ◌+◌, ◌<◌, ◌≤◌, true, List, slice_index, Option}
use Rattle.chain_laws.specs.ChainStart.{IsBack, IsStart}
use Rattle.arena_traits.specs.Arena.{slot_at}
use Rattle.chain_links.specs.declared.links.RawLink.{RawLink}
use Rattle.chain_laws.specs.Chains.{LinkMap}
use Rattle.chain_compaction.specs.DetachedLinks.{link_map_in}
use Rattle.chain_compaction.specs.Destinations.{is_fresh}

-- The number at d, unless 0, starts the chain of the link at `first` + d.
abbrev pub AreStarts : LinkMap → ℕ → List ℕ → Type 0
AreStarts link_map first starts = (d : ℕ) → slice_index starts d ≢ 0 → IsStart link_map (first + d + 1) (slice_index starts d)

module _ {Gen K T : Type 0} (number : K → Option ℕ) where
  -- A link without a destination is at k, one of the 64 positions from `first`.
  pub record IsFreshNear (slots : List (Option (Gen × RawLink K T))) (first k : ℕ) : Type 0 where
    pub from : first ≤ k
    pub near : k < first + 64
    pub fresh : is_fresh number (slot_at slots (k + 1)) ≡ true

  -- So are the links at the first `count` positions.
  abbrev pub AreFreshNear : List (Option (Gen × RawLink K T)) → (first : ℕ) → List ℕ → ℕ → Type 0
  AreFreshNear slots first positions count = (p : ℕ) → p < count → IsFreshNear slots first (slice_index positions p)

  -- A walk back from `start` is at k.
  abbrev pub IsWalkBack : List (Option (Gen × RawLink K T)) → (start k : ℕ) → Type 0
  IsWalkBack slots start k = (steps : ℕ) × IsBack (link_map_in number slots) (start + 1) steps (k + 1)

  -- Walks back from the links at `links` are at `now`.
  abbrev pub AreWalksBack : ℕ → List (Option (Gen × RawLink K T)) → ℕ → (links now : List ℕ) → ℕ → Type 0
  AreWalksBack greatest slots first links now count = (p : ℕ) → p < count
      → IsFreshNear slots first (slice_index links p) × IsWalkBack slots (slice_index links p) (slice_index now p) × (slice_index now p < greatest)

  -- Each start is that of a link without a destination.
  abbrev pub AreStartsOfFresh : List (Option (Gen × RawLink K T)) → ℕ → List ℕ → Type 0
  AreStartsOfFresh slots first starts = AreStarts (link_map_in number slots) first starts
      × ((d : ℕ) → slice_index starts d ≢ 0 → is_fresh number (slot_at slots (first + d + 1)) ≡ true)
