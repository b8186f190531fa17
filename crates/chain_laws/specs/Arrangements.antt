-- Arrangements of links.
use Rattle.std.specs.Prelude.{◌≡◌, ◌↔◌, ℕ, suc, ◌+◌, ◌≤◌, ◌==◌, if◌then◌else◌, List, [], ◌∷◌, length, Option, None, Some}
use Rattle.std.specs.List.{range_with_len}
use Rattle.chain_laws.specs.Chains.{LinkMap, Chain, linear, cyclic, all_items, IsMember, AreDistinct, HasLink, HasLinksWithin, IsWellLinked, AreChains}
use Rattle.chain_laws.specs.Neighbors.{AreTheChains, HasOneSetOfChains}
use Rattle.chain_laws.specs.Renamings.{IsRenaming, AreImages}

-- Each valid index once, and nothing else.
pub record IsArrangement (link_map : LinkMap) (indexes : List ℕ) : Type 0 where
  pub once : AreDistinct indexes
  pub valid : (i : ℕ) → HasLink link_map i ↔ IsMember indexes i

abbrev pub place_from : ℕ → List ℕ → ℕ → Option ℕ
place_from n [] i = None
place_from n (x ∷ xs) i = if x == i then Some n else place_from (suc n) xs i

-- The k-th item moves to k.
abbrev pub place_in : List ℕ → ℕ → Option ℕ
place_in indexes i = place_from 1 indexes i

-- The chains one after another, cyclic ones from any link.
pub record IsCanonical (link_map : LinkMap) (indexes : List ℕ) : Type 0 where
  pub chains : List Chain
  pub are : AreChains link_map chains
  pub items : indexes ≡ all_items chains

-- The chains by least index, cyclic ones from theirs.
pub record IsLeastIndexOrder (link_map : LinkMap) (indexes : List ℕ) : Type 0 where
  pub chains : List Chain
  pub are : AreTheChains link_map chains
  pub items : indexes ≡ all_items chains

-- The least-index order.
abbrev pub order_of : {link_map : LinkMap} → HasOneSetOfChains link_map → List ℕ
order_of one = all_items one.chains

-- The chains as runs of consecutive indexes from k on.
abbrev pub in_runs : ℕ → List Chain → List Chain
in_runs k [] = []
in_runs k (linear xs ∷ chains) = linear (range_with_len k (length xs)) ∷ in_runs (k + length xs) chains
in_runs k (cyclic xs ∷ chains) = cyclic (range_with_len k (length xs)) ∷ in_runs (k + length xs) chains

-- An arrangement moves the k-th link to k.
abbrev pub ArrangementNumbers : Type 0
ArrangementNumbers = (link_map : LinkMap) (indexes : List ℕ) → IsArrangement link_map indexes → AreImages (place_in indexes) indexes (range_with_len 1 (length indexes))

-- No two items move to one index.
abbrev pub PlacesAreApart : Type 0
PlacesAreApart = (indexes : List ℕ) (i j k : ℕ) → place_in indexes i ≡ Some k → place_in indexes j ≡ Some k → i ≡ j

-- A canonical list is an arrangement.
abbrev pub CanonicalArranges : Type 0
CanonicalArranges = (link_map : LinkMap) (indexes : List ℕ) → IsCanonical link_map indexes → IsArrangement link_map indexes

-- Renumbering by the chains moves each to a run, in order, from 1 on.
abbrev pub PlacesChainsInRuns : Type 0
PlacesChainsInRuns = (old new : LinkMap) (chains : List Chain) → AreChains old chains → IsRenaming (place_in (all_items chains)) old new
    → AreChains new (in_runs 1 chains) × (all_items (in_runs 1 chains) ≡ range_with_len 1 (length (all_items chains)))

-- Only renumbering by the chains gives these runs.
abbrev pub RunsAreRenumbered : Type 0
RunsAreRenumbered = (old new : LinkMap) (chains : List Chain) → AreChains old chains → AreChains new (in_runs 1 chains)
    → IsRenaming (place_in (all_items chains)) old new

-- A well-linked arena has a least-index order.
abbrev pub HasLeastIndexOrder : Type 0
HasLeastIndexOrder = (link_map : LinkMap) (slots : ℕ) → IsWellLinked link_map → HasLinksWithin link_map slots → (indexes : List ℕ) × IsLeastIndexOrder link_map indexes

-- The least-index order is `order_of`.
abbrev pub LeastIndexOrderIsUnique : Type 0
LeastIndexOrderIsUnique = (link_map : LinkMap) (one : HasOneSetOfChains link_map) (indexes : List ℕ) → IsLeastIndexOrder link_map indexes ↔ (indexes ≡ order_of one)

-- The least-index order is canonical.
abbrev pub LeastIndexOrderIsCanonical : Type 0
LeastIndexOrderIsCanonical = (link_map : LinkMap) (indexes : List ℕ) → IsLeastIndexOrder link_map indexes → IsCanonical link_map indexes

-- If 1 to n are canonical, they are the least-index order.
abbrev pub LeastIndexOrderRests : Type 0
LeastIndexOrderRests = (link_map : LinkMap) (n : ℕ) → IsCanonical link_map (range_with_len 1 n) → IsLeastIndexOrder link_map (range_with_len 1 n)

-- Arranging by the least-index order makes it the indexes from 1 on.
abbrev pub LayoutIsIdempotent : Type 0
LayoutIsIdempotent = (old new : LinkMap) (indexes : List ℕ) → IsLeastIndexOrder old indexes → IsRenaming (place_in indexes) old new
    → IsLeastIndexOrder new (range_with_len 1 (length indexes))

-- The list from 1 to n moves no index.
abbrev pub PlacesRest : Type 0
PlacesRest = (n i : ℕ) → 1 ≤ i → i ≤ n → place_in (range_with_len 1 n) i ≡ Some i

abbrev pub LeastIndexOrderLaws : Type 0
LeastIndexOrderLaws = record {
  there_is_one : HasLeastIndexOrder;
  one : LeastIndexOrderIsUnique;
  canonical : LeastIndexOrderIsCanonical;
  rests : LeastIndexOrderRests;
  layout_is_idempotent : LayoutIsIdempotent;
  places_rest : PlacesRest;
}
