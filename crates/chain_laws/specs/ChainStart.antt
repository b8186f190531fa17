-- Walks back to a chain's start.
use Rattle.std.specs.Prelude.{◌≡◌, ◌≢◌, ℕ, ◌+◌, ◌≤◌, ◌<◌, is_some, Bool, if◌then◌else◌, List, ◌∷◌, ◌++◌, length, None, Some}
use Rattle.chain_laws.specs.Chains.{LinkMap, Chain, linear, cyclic, IsMember, IsChain, HasLink, HasLinksWithin, IsInOrder, IsWellLinked, AreChains, first_or, prev_of, next_of}

-- A walker is `here` after these many steps back from i.
pub record IsBack (link_map : LinkMap) (i steps here : ℕ) : Type 0 where
  pub in_linear : (xs : List ℕ) → IsChain link_map (linear xs) → IsMember xs i
      → (before : List ℕ) × (after : List ℕ) × (xs ≡ before ++ here ∷ after) × IsMember (here ∷ after) i × (steps ≤ length after)
  pub in_cyclic : (xs : List ℕ) → IsChain link_map (cyclic (i ∷ xs))
      → (before : List ℕ) × (after : List ℕ) × (xs ≡ before ++ after) × (first_or after (Some i) ≡ Some here) × (steps ≤ length after)

-- `here` is the start of the chain of i, or i if it is cyclic.
pub record IsStart (link_map : LinkMap) (i here : ℕ) : Type 0 where
  pub in_linear : (xs : List ℕ) → IsChain link_map (linear xs) → IsMember xs i → first_or xs None ≡ Some here
  pub in_cyclic : (xs : List ℕ) → IsChain link_map (cyclic (i ∷ xs)) → here ≡ i

abbrev pub WalkBackBegins : Type 0
WalkBackBegins = (link_map : LinkMap) (i : ℕ) → IsBack link_map i 0 i

abbrev pub WalkBackContinues : Type 0
WalkBackContinues = (link_map : LinkMap) (i steps here k : ℕ) → IsBack link_map i steps here → prev_of link_map here ≡ Some k → k ≢ i → IsBack link_map i (steps + 1) k

abbrev pub WalkBackEnds : Type 0
WalkBackEnds = (link_map : LinkMap) (i steps here : ℕ) → IsBack link_map i steps here → prev_of link_map here ≡ None → IsStart link_map i here

abbrev pub WalkBackIsCyclic : Type 0
WalkBackIsCyclic = (link_map : LinkMap) (i steps here : ℕ) → IsBack link_map i steps here → prev_of link_map here ≡ Some i → IsStart link_map i i

-- In a linear chain, `on` is i or behind it.
abbrev pub IsOnward : LinkMap → ℕ → ℕ → Type 0
IsOnward link_map i on = (before after : List ℕ) → IsChain link_map (linear (before ++ i ∷ after)) → IsMember (i ∷ after) on

abbrev pub WalkOnBegins : Type 0
WalkOnBegins = (link_map : LinkMap) (i : ℕ) → IsOnward link_map i i

abbrev pub WalkOnContinues : Type 0
WalkOnContinues = (link_map : LinkMap) (i on k : ℕ) → IsOnward link_map i on → next_of link_map on ≡ Some k → IsOnward link_map i k

abbrev pub WalksMeet : Type 0
WalksMeet = (link_map : LinkMap) (i steps here k : ℕ) → IsBack link_map i steps here → prev_of link_map here ≡ Some k → IsOnward link_map i k → IsStart link_map i i

abbrev pub WalkBackIsShort : Type 0
WalkBackIsShort = (link_map : LinkMap) (slots i steps here : ℕ) (links : List ℕ) → IsWellLinked link_map → HasLinksWithin link_map slots → HasLink link_map i
    → ((j : ℕ) → HasLink link_map j → IsMember links j) → IsBack link_map i steps here → steps < length links

abbrev pub chain_of : Bool → List ℕ → Chain
chain_of ring xs = if ring then cyclic xs else linear xs

abbrev pub LeastIsNext : Type 0
LeastIsNext = (link_map : LinkMap) (chains : List Chain) (i here : ℕ) → AreChains link_map chains → IsInOrder chains
    → HasLink link_map i → ((j : ℕ) → HasLink link_map j → i ≤ j) → IsStart link_map i here
    → (xs : List ℕ) × (rest : List Chain) × (chains ≡ chain_of (is_some (prev_of link_map here)) (here ∷ xs) ∷ rest) × IsMember (here ∷ xs) i
