-- Removals of a link.
use Rattle.std.specs.Prelude.{◌≡◌, ◌≢◌, ◌↔◌, ℕ, ◌==◌, if◌then◌else◌, ◌⊎◌, List, [], ◌∷◌, ◌++◌, None, Some}
use Rattle.chain_laws.specs.Chains.{LinkMap, Chain, linear, cyclic, items, IsMember, IsChain, HasLink, HasLinksWithin, IsWellLinked, prev_of, next_of}
use Rattle.chain_laws.specs.Neighbors.{AreNeighbors}
use Rattle.chain_laws.specs.Joins.{with_neighbors, with_lone, HaveSameChains}

abbrev pub without_link : LinkMap → ℕ → LinkMap
without_link link_map q j = if j == q then None else link_map j

-- There is no link at q; its neighbors follow one another.
abbrev pub with_removal : LinkMap → ℕ → LinkMap
with_removal link_map q = with_neighbors (without_link link_map q) (prev_of link_map q) (next_of link_map q)

-- By pairs: pairs with i go, and its neighbors become a pair.
pub record RemovesPairs (old new : LinkMap) (i : ℕ) : Type 0 where
  pub pairs : (j k : ℕ) → AreNeighbors new j k
      ↔ ((AreNeighbors old j k × (j ≢ i) × (k ≢ i)) ⊎ ((prev_of old i ≡ Some j) × (next_of old i ≡ Some k) × (j ≢ i) × (k ≢ i)))
  pub links : (j : ℕ) → HasLink new j ↔ (HasLink old j × (j ≢ i))

-- By chains: i leaves its chain, which stays linear or cyclic, or is gone if empty.
pub record Removes (old new : LinkMap) (i : ℕ) : Type 0 where
  pub from_linear : (x y : List ℕ) → IsChain old (linear (x ++ i ∷ y)) → x ++ y ≢ [] → IsChain new (linear (x ++ y))
  pub from_cyclic : (x y : List ℕ) → IsChain old (cyclic (x ++ i ∷ y)) → x ++ y ≢ [] → IsChain new (cyclic (x ++ y))
  pub rest : (c : Chain) → (IsMember (items c) i → ⊥) → IsChain old c → IsChain new c
  pub links : (j : ℕ) → HasLink new j ↔ (HasLink old j × (j ≢ i))
  pub unnamed : (j : ℕ) → (next_of new j ≢ Some i) × (prev_of new j ≢ Some i)

abbrev pub list_without : List ℕ → ℕ → List ℕ
list_without [] i = []
list_without (x ∷ xs) i = if x == i then list_without xs i else x ∷ list_without xs i

abbrev pub chain_without : Chain → ℕ → Chain
chain_without (linear xs) i = linear (list_without xs i)
chain_without (cyclic xs) i = cyclic (list_without xs i)

-- The new chains are the old ones without i, unless empty.
abbrev pub HasChainsWithout : LinkMap → LinkMap → ℕ → Type 0
HasChainsWithout old new i = (c : Chain) → IsChain new c ↔ ((d : Chain) × IsChain old d × (c ≡ chain_without d i) × (items c ≢ []))

abbrev pub RemovalAgrees : Type 0
RemovalAgrees = (link_map : LinkMap) (i : ℕ) → IsWellLinked link_map → IsWellLinked (with_removal link_map i)

abbrev pub RemovalRelinks : Type 0
RemovalRelinks = (link_map : LinkMap) (i : ℕ) → IsWellLinked link_map → Removes link_map (with_removal link_map i) i

abbrev pub RemovalInPairs : Type 0
RemovalInPairs = (link_map : LinkMap) (i : ℕ) → IsWellLinked link_map → RemovesPairs link_map (with_removal link_map i) i

abbrev pub RemovalIsDetermined : Type 0
RemovalIsDetermined = (old new : LinkMap) (slots i : ℕ) → IsWellLinked old → HasLinksWithin old slots → Removes old new i → HaveSameChains new (with_removal old i)

abbrev pub RemovalLeavesEachWithout : Type 0
RemovalLeavesEachWithout = (old new : LinkMap) (slots i : ℕ) → IsWellLinked old → HasLinksWithin old slots → Removes old new i → HasChainsWithout old new i

abbrev pub RemovalIsDeterminedByPairs : Type 0
RemovalIsDeterminedByPairs = (old new : LinkMap) (i : ℕ) → IsWellLinked old → IsWellLinked new → RemovesPairs old new i → new ≡ with_removal old i

abbrev pub RemovalOfLoneRestores : Type 0
RemovalOfLoneRestores = (link_map : LinkMap) (q : ℕ) → link_map q ≡ None → with_removal (with_lone link_map q) q ≡ link_map
