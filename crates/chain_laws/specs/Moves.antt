-- Moves to lower indexes.
use Rattle.std.specs.Prelude.{◌≡◌, ◌↔◌, ℕ, ◌+◌, ◌≤◌, ◌==◌, leb, if◌then◌else◌, ◌⊎◌, List, [], ◌∷◌, ◌++◌, length, Option, None, Some}
use Rattle.std.specs.Option.{option_map, option_and_then}
use Rattle.chain_laws.specs.Chains.{LinkMap, Interlinks, IsMember, AreDistinct, HasLink, HasLinksWithin, IsWellLinked, prev_of, next_of}
use Rattle.chain_laws.specs.Joins.{with_next_at, with_prev_at}
use Rattle.chain_laws.specs.Renamings.{IsRenaming}
use Rattle.chain_laws.specs.Arrangements.{place_in}

abbrev pub moved_index : ℕ → ℕ → ℕ → ℕ
moved_index i k j = if j == i then k else j

abbrev pub with_moved : ℕ → ℕ → Interlinks → Interlinks
with_moved i k link = record { prev = option_map (moved_index i k) link.prev; next = option_map (moved_index i k) link.next }

-- The link at i moves to k, and is named there.
abbrev pub with_link_moved : LinkMap → ℕ → ℕ → LinkMap
with_link_moved link_map i k j = if j == k then option_map (with_moved i k) (link_map i) else if j == i then None else option_map (with_moved i k) (link_map j)

-- The link at i moves to k; no interlink changes.
abbrev pub with_link_placed : LinkMap → ℕ → ℕ → LinkMap
with_link_placed link_map i k j = if j == k then link_map i else if j == i then None else link_map j

-- There is a link at i, and k is i or free.
pub record CanMove (link_map : LinkMap) (i k : ℕ) : Type 0 where
  pub valid : HasLink link_map i
  pub free : (k ≡ i) ⊎ (link_map k ≡ None)

abbrev pub index_after_move : LinkMap → ℕ → ℕ → ℕ → Option ℕ
index_after_move link_map i k j = option_map (λ _. moved_index i k j) (link_map j)

-- A move is a renaming.
abbrev pub MoveRenames : Type 0
MoveRenames = (link_map : LinkMap) (i k : ℕ) → IsWellLinked link_map → CanMove link_map i k → IsRenaming (index_after_move link_map i k) link_map (with_link_moved link_map i k)

-- A move rewrites only the neighbors of the link.
abbrev pub NeighborsDetermineAMove : Type 0
NeighborsDetermineAMove = (link_map : LinkMap) (i k : ℕ) → IsWellLinked link_map → CanMove link_map i k
    → with_prev_at (with_next_at (with_link_placed link_map i k) (option_map (moved_index i k) (prev_of link_map i)) (Some k)) (option_map (moved_index i k) (next_of link_map i)) (Some k) ≡ with_link_moved link_map i k

-- Renamings compose.
abbrev pub RenamingsCompose : Type 0
RenamingsCompose = (first second : ℕ → Option ℕ) (old between new : LinkMap) → IsRenaming first old between → IsRenaming second between new
    → IsRenaming (λ i. option_and_then second (first i)) old new

-- Where each link is once those up to k have moved, in list order, to indexes from 1 on.
abbrev pub gathered_place : LinkMap → List ℕ → ℕ → ℕ → Option ℕ
gathered_place link_map done k i = if leb i k then place_in done i else option_map (λ _. i) (link_map i)

-- The links up to k, by index, have moved to indexes from 1 on.
pub record IsGathering (old now : LinkMap) (done : List ℕ) (k : ℕ) : Type 0 where
  pub renamed : IsRenaming (gathered_place old done k) old now
  pub once : AreDistinct done
  pub holds : (i : ℕ) → IsMember done i ↔ (HasLink old i × (i ≤ k))
  pub below : length done ≤ k

-- At first, no link has moved.
abbrev pub GatheringBegins : Type 0
GatheringBegins = (link_map : LinkMap) (slots : ℕ) → IsWellLinked link_map → HasLinksWithin link_map slots → IsGathering link_map link_map [] 0

-- A free slot is skipped.
abbrev pub GatheringSkips : Type 0
GatheringSkips = (old now : LinkMap) (done : List ℕ) (k : ℕ) → IsGathering old now done k → old (k + 1) ≡ None → IsGathering old now done (k + 1)

-- The next link is still at its index, may move, and moves.
abbrev pub GatheringContinues : Type 0
GatheringContinues = (old now : LinkMap) (done : List ℕ) (k : ℕ) → IsWellLinked old → IsGathering old now done k → HasLink old (k + 1)
    → IsWellLinked now × CanMove now (k + 1) (length done + 1) × IsGathering old (with_link_moved now (k + 1) (length done + 1)) (done ++ (k + 1) ∷ []) (k + 1)

-- In the end, all links are renumbered in order.
abbrev pub GatheringEnds : Type 0
GatheringEnds = (old now : LinkMap) (done : List ℕ) (slots : ℕ) → HasLinksWithin old slots → IsGathering old now done slots → IsRenaming (place_in done) old now

abbrev pub GatheringLaws : Type 0
GatheringLaws = record {
  begins : GatheringBegins;
  skips : GatheringSkips;
  continues : GatheringContinues;
  ends : GatheringEnds;
}
