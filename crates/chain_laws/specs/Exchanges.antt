-- Exchanges.
use Rattle.std.specs.Prelude.{◌≡◌, ◌≢◌, ◌↔◌, ℕ, ◌+◌, ◌⊎◌, List, [], ◌∷◌, ◌++◌, length, Some}
use Rattle.chain_laws.specs.Chains.{LinkMap, linear, cyclic, IsMember, IsChain, HasLink, HasLinksWithin, IsWellLinked, next_of}
use Rattle.chain_laws.specs.Neighbors.{AreNeighbors, IsRotation}
use Rattle.chain_laws.specs.Joins.{with_neighbors, KeepsChainsWithout, HaveSameChains}

-- p and q trade what follows them, perhaps nothing; p may be q.
abbrev pub with_exchange : LinkMap → ℕ → ℕ → LinkMap
with_exchange link_map p q = with_neighbors (with_neighbors link_map (Some p) (next_of link_map q)) (Some q) (next_of link_map p)

-- By pairs: (p, a) and (q, b) become (p, b) and (q, a).
pub record ExchangesPairs (old new : LinkMap) (p q : ℕ) : Type 0 where
  pub pairs : (i j : ℕ) → AreNeighbors new i j
      ↔ ((AreNeighbors old i j × (i ≢ p) × (i ≢ q)) ⊎ ((i ≡ p) × AreNeighbors old q j) ⊎ ((i ≡ q) × AreNeighbors old p j))
  pub links : (i : ℕ) → HasLink new i ↔ HasLink old i

-- The cases not symmetric in p and q.
pub record ExchangesInOrder (old new : LinkMap) (p q : ℕ) : Type 0 where
  pub taken_out : (x m y : List ℕ) → IsChain old (linear (x ++ p ∷ m ++ q ∷ y))
      → IsChain new (linear (x ++ p ∷ y)) × IsChain new (cyclic (m ++ q ∷ []))
  pub taken_in : (x y z : List ℕ) → IsChain old (linear (x ++ p ∷ y)) → IsChain old (cyclic (z ++ q ∷ []))
      → IsChain new (linear (x ++ p ∷ z ++ q ∷ y))

-- By chains: p and q trade what follows them.
pub record Exchanges (old new : LinkMap) (p q : ℕ) : Type 0 where
  pub in_order : ExchangesInOrder old new p q
  pub in_other_order : ExchangesInOrder old new q p
  pub two_linear : (x y z w : List ℕ) → IsChain old (linear (x ++ p ∷ y)) → IsChain old (linear (z ++ q ∷ w)) → (IsMember (x ++ p ∷ y) q → ⊥)
      → IsChain new (linear (x ++ p ∷ w)) × IsChain new (linear (z ++ q ∷ y))
  pub two_cyclic : (x y : List ℕ) → IsChain old (cyclic (p ∷ x)) → IsChain old (cyclic (q ∷ y)) → (IsMember (p ∷ x) q → ⊥)
      → IsChain new (cyclic (p ∷ y ++ q ∷ x))
  pub one_cyclic : (x y : List ℕ) → IsChain old (cyclic (p ∷ x ++ q ∷ y)) → IsChain new (cyclic (p ∷ y)) × IsChain new (cyclic (q ∷ x))
  pub itself : p ≡ q → HaveSameChains old new
  pub rest : KeepsChainsWithout old new p q

abbrev pub ExchangeAgrees : Type 0
ExchangeAgrees = (link_map : LinkMap) (p q : ℕ) → IsWellLinked link_map → HasLink link_map p → HasLink link_map q → IsWellLinked (with_exchange link_map p q)

abbrev pub ExchangeInPairs : Type 0
ExchangeInPairs = (link_map : LinkMap) (p q : ℕ) → IsWellLinked link_map → HasLink link_map p → HasLink link_map q → ExchangesPairs link_map (with_exchange link_map p q) p q

abbrev pub ExchangeExchanges : Type 0
ExchangeExchanges = (link_map : LinkMap) (p q : ℕ) → IsWellLinked link_map → HasLink link_map p → HasLink link_map q → Exchanges link_map (with_exchange link_map p q) p q

-- `Exchanges` gives exactly the exchange's chains.
abbrev pub ExchangeIsDetermined : Type 0
ExchangeIsDetermined = (old new : LinkMap) (slots p q : ℕ) → IsWellLinked old → HasLinksWithin old slots → HasLink old p → HasLink old q
    → Exchanges old new p q → HaveSameChains new (with_exchange old p q)

-- `ExchangesPairs`, well linked, gives exactly the exchange.
abbrev pub ExchangeIsDeterminedByPairs : Type 0
ExchangeIsDeterminedByPairs = (old new : LinkMap) (p q : ℕ) → IsWellLinked old → IsWellLinked new → HasLink old p → HasLink old q
    → ExchangesPairs old new p q → new ≡ with_exchange old p q

-- An exchange done twice restores the arena.
abbrev pub ExchangeTwiceRestores : Type 0
ExchangeTwiceRestores = (link_map : LinkMap) (p q : ℕ) → IsWellLinked link_map → HasLink link_map p → HasLink link_map q
    → with_exchange (with_exchange link_map p q) p q ≡ link_map

-- An exchange of a link with itself changes nothing.
abbrev pub ExchangeWithItselfKeeps : Type 0
ExchangeWithItselfKeeps = (link_map : LinkMap) (p : ℕ) → IsWellLinked link_map → HasLink link_map p → with_exchange link_map p p ≡ link_map

-- An exchange is symmetric.
abbrev pub ExchangeIsMutual : Type 0
ExchangeIsMutual = (link_map : LinkMap) (p q : ℕ) → IsWellLinked link_map → HasLink link_map p → HasLink link_map q → with_exchange link_map p q ≡ with_exchange link_map q p

-- An exchange within a cyclic chain, from any link, splits it in two.
abbrev pub ExchangeSplitsACycle : Type 0
ExchangeSplitsACycle = (link_map : LinkMap) (p q : ℕ) (xs : List ℕ) → IsWellLinked link_map → p ≢ q → IsChain link_map (cyclic xs) → IsMember xs p → IsMember xs q
    → (x : List ℕ) × (y : List ℕ) × IsRotation (cyclic xs) (cyclic (p ∷ x ++ q ∷ y))
    × IsChain (with_exchange link_map p q) (cyclic (p ∷ y)) × IsChain (with_exchange link_map p q) (cyclic (q ∷ x))

-- An exchange of two cyclic chains merges them.
abbrev pub ExchangeMergesCycles : Type 0
ExchangeMergesCycles = (link_map : LinkMap) (p q : ℕ) (xs ys : List ℕ) → IsWellLinked link_map → IsChain link_map (cyclic xs) → IsChain link_map (cyclic ys)
    → IsMember xs p → IsMember ys q → (IsMember xs q → ⊥)
    → (x : List ℕ) × (y : List ℕ) × IsRotation (cyclic xs) (cyclic (p ∷ x)) × IsRotation (cyclic ys) (cyclic (q ∷ y))
    × IsChain (with_exchange link_map p q) (cyclic (p ∷ y ++ q ∷ x))

-- One cyclic chain has the items of both lists, and is as long as both.
pub record IsMerged (link_map : LinkMap) (xs ys : List ℕ) : Type 0 where
  pub merged : List ℕ
  pub chain : IsChain link_map (cyclic merged)
  pub members : (i : ℕ) → IsMember merged i ↔ (IsMember xs i ⊎ IsMember ys i)
  pub size : length merged ≡ length xs + length ys

abbrev pub MergedCycleHasBoth : Type 0
MergedCycleHasBoth = (old new : LinkMap) (p q : ℕ) (xs ys : List ℕ) → Exchanges old new p q → IsChain old (cyclic xs) → IsChain old (cyclic ys)
    → IsMember xs p → IsMember ys q → (IsMember xs q → ⊥) → IsMerged new xs ys
