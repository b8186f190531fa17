-- Cuts between two neighbors.
use Rattle.std.specs.Prelude.{◌≡◌, ◌↔◌, ℕ, List, [], ◌∷◌, ◌++◌, None, Some}
use Rattle.chain_laws.specs.Chains.{LinkMap, linear, cyclic, IsChain, HasLink, HasLinksWithin, IsWellLinked, first_or, last_or}
use Rattle.chain_laws.specs.Neighbors.{AreNeighbors}
use Rattle.chain_laws.specs.Joins.{with_neighbors, with_join, KeepsChainsWithout, AreEndAndStart, HaveSameChains}

-- Nothing comes after a, and nothing before b.
abbrev pub without_pair : LinkMap → ℕ → ℕ → LinkMap
without_pair link_map a b = with_neighbors (with_neighbors link_map (Some a) None) None (Some b)

-- Exactly the pair (a, b) is removed.
pub record TakesPair (old new : LinkMap) (a b : ℕ) : Type 0 where
  pub pairs : (i j : ℕ) → AreNeighbors new i j ↔ (AreNeighbors old i j × ((i ≡ a) × (j ≡ b) → ⊥))
  pub links : (i : ℕ) → HasLink new i ↔ HasLink old i

-- By chains: a chain is cut between a and b.
pub record Cuts (old new : LinkMap) (a b : ℕ) : Type 0 where
  pub two : (x y : List ℕ) → IsChain old (linear (x ++ a ∷ b ∷ y)) → IsChain new (linear (x ++ a ∷ [])) × IsChain new (linear (b ∷ y))
  pub one : (xs : List ℕ) → IsChain old (cyclic xs) → first_or xs None ≡ Some b → last_or xs None ≡ Some a → IsChain new (linear xs)
  pub rest : KeepsChainsWithout old new a b

abbrev pub CutAgrees : Type 0
CutAgrees = (link_map : LinkMap) (a b : ℕ) → IsWellLinked link_map → AreNeighbors link_map a b → IsWellLinked (without_pair link_map a b)

abbrev pub CutTakesAPair : Type 0
CutTakesAPair = (link_map : LinkMap) (a b : ℕ) → AreNeighbors link_map a b → TakesPair link_map (without_pair link_map a b) a b

abbrev pub CutPartsChains : Type 0
CutPartsChains = (link_map : LinkMap) (a b : ℕ) → Cuts link_map (without_pair link_map a b) a b

abbrev pub CutIsDetermined : Type 0
CutIsDetermined = (old new : LinkMap) (slots a b : ℕ) → IsWellLinked old → HasLinksWithin old slots → AreNeighbors old a b
    → Cuts old new a b → HaveSameChains new (without_pair old a b)

abbrev pub CutIsDeterminedByPairs : Type 0
CutIsDeterminedByPairs = (old new : LinkMap) (a b : ℕ) → IsWellLinked old → IsWellLinked new → AreNeighbors old a b → TakesPair old new a b → new ≡ without_pair old a b

abbrev pub JoinOfCutRestores : Type 0
JoinOfCutRestores = (link_map : LinkMap) (a b : ℕ) → IsWellLinked link_map → AreNeighbors link_map a b
    → AreEndAndStart (without_pair link_map a b) a b × (with_join (without_pair link_map a b) a b ≡ link_map)

abbrev pub CutOfJoinRestores : Type 0
CutOfJoinRestores = (link_map : LinkMap) (a b : ℕ) → IsWellLinked link_map → AreEndAndStart link_map a b
    → AreNeighbors (with_join link_map a b) a b × (without_pair (with_join link_map a b) a b ≡ link_map)
