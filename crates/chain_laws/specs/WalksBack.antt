-- Walks back.
use Rattle.std.specs.Prelude.{◌≡◌, ◌↔◌, ℕ, zero, suc, List, [], ◌∷◌, ◌++◌, reverse, Option, None, Some}
use Rattle.chain_laws.specs.Chains.{LinkMap, Chain, linear, cyclic, items, IsMember, AreDistinct, IsChain, HasLink, HasLinksWithin, IsWellLinked, prev_of, next_of}
use Rattle.chain_laws.specs.Walks.{IsWalk, step_forward}

-- Linear: from i to the start, then from the end to the link after i; cyclic: once around.
pub data IsWalkBack (link_map : LinkMap) (i : ℕ) : List ℕ → Type 0 where
  of_linear : (before after : List ℕ) → IsChain link_map (linear (before ++ i ∷ after)) → IsWalkBack link_map i (i ∷ reverse before ++ reverse after)
  of_cyclic : (after : List ℕ) → IsChain link_map (cyclic (i ∷ after)) → IsWalkBack link_map i (i ∷ reverse after)

-- The end of the chain of `at`, or the link before `start`, within `steps` steps.
abbrev pub end_from : ℕ → LinkMap → ℕ → ℕ → ℕ
end_from zero link_map start at = at
end_from (suc steps) link_map start at = elim (step_forward start (next_of link_map at)) [ None ↦ at | Some k ↦ end_from steps link_map start k ]

-- The last link of a link's chain.
abbrev pub end_of : ℕ → LinkMap → ℕ → ℕ
end_of slots link_map start = end_from slots link_map start start

-- The previous link, or at the start `end`; None if that is `start`.
abbrev pub step_to : ℕ → ℕ → Option ℕ → Option ℕ
step_to start end None = step_forward start (Some end)
step_to start end (Some k) = step_forward start (Some k)

-- What a walker passes by prev from `at` and then from `end`, until `start`.
abbrev pub back_ahead : ℕ → LinkMap → ℕ → ℕ → Option ℕ → List ℕ
back_ahead zero link_map start end at = []
back_ahead (suc left) link_map start end None = []
back_ahead (suc left) link_map start end (Some k) = k ∷ back_ahead left link_map start end (step_to start end (prev_of link_map k))

abbrev pub WalksBackAhead : Type 0
WalksBackAhead = (link_map : LinkMap) (slots i : ℕ) → IsWellLinked link_map → HasLinksWithin link_map slots → HasLink link_map i
    → IsWalkBack link_map i (back_ahead slots link_map i (end_of slots link_map i) (Some i))

abbrev pub HasNoOtherWalkBack : Type 0
HasNoOtherWalkBack = (link_map : LinkMap) (i : ℕ) (walk other : List ℕ) → IsWalkBack link_map i walk → IsWalkBack link_map i other → walk ≡ other

abbrev pub BackPassesEachOnce : Type 0
BackPassesEachOnce = (link_map : LinkMap) (i : ℕ) (walk : List ℕ) → IsWalkBack link_map i walk → AreDistinct walk

abbrev pub BackPassesTheChain : Type 0
BackPassesTheChain = (link_map : LinkMap) (i : ℕ) (walk : List ℕ) (c : Chain) → IsWalkBack link_map i walk → IsChain link_map c → IsMember (items c) i
    → (j : ℕ) → IsMember walk j ↔ IsMember (items c) j

abbrev pub CyclicWalkBackIsReversed : Type 0
CyclicWalkBackIsReversed = (link_map : LinkMap) (i : ℕ) (xs rest : List ℕ) → IsChain link_map (cyclic xs) → IsMember xs i → IsWalk link_map i (i ∷ rest)
    → IsWalkBack link_map i (i ∷ reverse rest)
