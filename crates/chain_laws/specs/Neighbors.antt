-- Chains by neighbor pairs.
use Rattle.std.specs.Prelude.{◌≡◌, ◌≢◌, ◌↔◌, ℕ, ◌⊎◌, List, [], ◌∷◌, ◌++◌, None, Some}
use Rattle.chain_laws.specs.Chains.{LinkMap, Chain, linear, cyclic, items, all_items, HasChain, IsMember, AreDistinct, HasLink}
use Rattle.chain_laws.specs.Chains.{HasLinksWithin, IsWellLinked, IsChain, AreChains, StartsAtLeast, IsInOrder, first_or, last_or, prev_of, next_of}

abbrev pub IsBeside : List ℕ → ℕ → ℕ → Type 0
IsBeside xs a b = (before : List ℕ) × (after : List ℕ) × (xs ≡ before ++ a ∷ b ∷ after)

-- b is directly after a, or first and a last in a cyclic chain.
abbrev pub AreNeighborsIn : Chain → ℕ → ℕ → Type 0
AreNeighborsIn (linear xs) a b = IsBeside xs a b
AreNeighborsIn (cyclic xs) a b = IsBeside xs a b ⊎ ((last_or xs None ≡ Some a) × (first_or xs None ≡ Some b))

abbrev pub AreNeighborsOf : List Chain → ℕ → ℕ → Type 0
AreNeighborsOf chains a b = (c : Chain) × HasChain chains c × AreNeighborsIn c a b

-- (a, b) is a neighbor pair of the arena.
abbrev pub AreNeighbors : LinkMap → ℕ → ℕ → Type 0
AreNeighbors link_map a b = next_of link_map a ≡ Some b

-- Each valid index is in one chain, once, and no other index is.
pub record Partition (link_map : LinkMap) (chains : List Chain) : Type 0 where
  pub filled : (c : Chain) → HasChain chains c → items c ≢ []
  pub once : AreDistinct (all_items chains)
  pub valid : (i : ℕ) → HasLink link_map i ↔ IsMember (all_items chains) i

-- The interlinks are the neighbor pairs of the chains.
pub record HasInterlinks (link_map : LinkMap) (chains : List Chain) : Type 0 where
  pub next : (a b : ℕ) → (next_of link_map a ≡ Some b) ↔ AreNeighborsOf chains a b
  pub prev : (a b : ℕ) → (prev_of link_map b ≡ Some a) ↔ AreNeighborsOf chains a b

-- The chains of the arena, in order.
pub record AreTheChains (link_map : LinkMap) (chains : List Chain) : Type 0 where
  pub partition : Partition link_map chains
  pub interlinks : HasInterlinks link_map chains
  pub order : IsInOrder chains

-- A well-linked arena has chains.
abbrev pub HasChains : Type 0
HasChains = (link_map : LinkMap) (slots : ℕ) → IsWellLinked link_map → HasLinksWithin link_map slots → (chains : List Chain) × AreTheChains link_map chains

-- An arena has at most one set of chains.
abbrev pub HasNoOtherChains : Type 0
HasNoOtherChains = (link_map : LinkMap) (chains others : List Chain) → AreTheChains link_map chains → AreTheChains link_map others → chains ≡ others

abbrev pub AreByNeighbors : Type 0
AreByNeighbors = (link_map : LinkMap) (chains : List Chain) → AreChains link_map chains ↔ (Partition link_map chains × HasInterlinks link_map chains)

-- An arena with the neighbor pairs of chains is well linked.
abbrev pub IsWellLinkedByPairs : Type 0
IsWellLinkedByPairs = (link_map : LinkMap) (chains : List Chain) → HasInterlinks link_map chains → IsWellLinked link_map

-- An arena with chains is well linked.
abbrev pub IsWellLinkedByChains : Type 0
IsWellLinkedByChains = (link_map : LinkMap) (chains : List Chain) → AreChains link_map chains → IsWellLinked link_map

-- A chain of the arena with i, from its least index if cyclic.
pub record IsChainOf (link_map : LinkMap) (i : ℕ) (c : Chain) : Type 0 where
  pub chain : IsChain link_map c
  pub written : StartsAtLeast c
  pub has : IsMember (items c) i

-- Each valid index of a well-linked arena is in a chain.
abbrev pub HasChainOfEach : Type 0
HasChainOfEach = (link_map : LinkMap) (slots i : ℕ) → IsWellLinked link_map → HasLinksWithin link_map slots → HasLink link_map i → (c : Chain) × IsChainOf link_map i c

-- No index is in two chains.
abbrev pub HasNoOtherOfEach : Type 0
HasNoOtherOfEach = (link_map : LinkMap) (i : ℕ) (c other : Chain) → IsChainOf link_map i c → IsChainOf link_map i other → c ≡ other

-- The same chain, a cyclic one from any link.
abbrev pub IsRotation : Chain → Chain → Type 0
IsRotation (linear xs) (linear ys) = xs ≡ ys
IsRotation (linear xs) (cyclic ys) = ⊥
IsRotation (cyclic xs) (linear ys) = ⊥
IsRotation (cyclic xs) (cyclic ys) = (left : List ℕ) × (right : List ℕ) × (xs ≡ left ++ right) × (ys ≡ right ++ left)

-- A rotation of a chain is a chain.
abbrev pub RotationsAreChains : Type 0
RotationsAreChains = (link_map : LinkMap) (c other : Chain) → IsChain link_map c → IsRotation c other → IsChain link_map other

-- Chains with a common index are rotations.
abbrev pub SharesOnlyRotations : Type 0
SharesOnlyRotations = (link_map : LinkMap) (i : ℕ) (c other : Chain) → IsChain link_map c → IsChain link_map other → IsMember (items c) i → IsMember (items other) i → IsRotation c other

abbrev pub AllStartAtLeast : List Chain → Type 0
AllStartAtLeast chains = (c : Chain) → HasChain chains c → StartsAtLeast c

-- All lists of chains from least indexes have the same chains.
abbrev pub AreSameInAnyOrder : Type 0
AreSameInAnyOrder = (link_map : LinkMap) (chains others : List Chain) → AreChains link_map chains → AreChains link_map others → AllStartAtLeast chains → AllStartAtLeast others
    → (c : Chain) → HasChain chains c ↔ HasChain others c

-- All lists of chains have the same chains up to rotation.
abbrev pub AreRotationsInAnyOrder : Type 0
AreRotationsInAnyOrder = (link_map : LinkMap) (chains others : List Chain) → AreChains link_map chains → AreChains link_map others
    → (c : Chain) → HasChain chains c → (other : Chain) × HasChain others other × IsRotation c other

-- The arena has exactly one set of chains.
pub record HasOneSetOfChains (link_map : LinkMap) : Type 0 where
  pub chains : List Chain
  pub are : AreTheChains link_map chains
  pub only : (others : List Chain) → AreTheChains link_map others → others ≡ chains
