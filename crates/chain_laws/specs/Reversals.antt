-- Reversals of a chain.
use Rattle.std.specs.Prelude.{◌≡◌, ◌↔◌, ℕ, ◌==◌, if◌then◌else◌, List, [], ◌∷◌, reverse}
use Rattle.std.specs.Option.{option_map}
use Rattle.chain_laws.specs.Chains.{LinkMap, Interlinks, Chain, linear, cyclic, items, IsMember, IsChain, IsWellLinked}
use Rattle.chain_laws.specs.Walks.{IsWalk}

abbrev pub turned : Interlinks → Interlinks
turned link = record { prev = link.next; next = link.prev }

abbrev pub with_turn : LinkMap → ℕ → LinkMap
with_turn link_map i j = if j == i then option_map turned (link_map j) else link_map j

-- The links at these indexes are turned.
abbrev pub with_turns : LinkMap → List ℕ → LinkMap
with_turns link_map [] = link_map
with_turns link_map (i ∷ rest) = with_turns (with_turn link_map i) rest

abbrev pub reversed : Chain → Chain
reversed (linear xs) = linear (reverse xs)
reversed (cyclic xs) = cyclic (reverse xs)

-- By chains: the chain of i is reversed.
pub record Reverses (old new : LinkMap) (i : ℕ) : Type 0 where
  pub chain : (c : Chain) → IsChain old c → IsMember (items c) i → IsChain new (reversed c)
  pub rest : (c : Chain) → (IsMember (items c) i → ⊥) → IsChain old c ↔ IsChain new c

abbrev pub ReversalAgrees : Type 0
ReversalAgrees = (link_map : LinkMap) (i : ℕ) (walk : List ℕ) → IsWellLinked link_map → IsWalk link_map i walk → IsWellLinked (with_turns link_map walk)

abbrev pub ReversalReverses : Type 0
ReversalReverses = (link_map : LinkMap) (i : ℕ) (walk : List ℕ) → IsWalk link_map i walk → Reverses link_map (with_turns link_map walk) i

abbrev pub ReversalTwiceRestores : Type 0
ReversalTwiceRestores = (link_map : LinkMap) (i j : ℕ) (walk back : List ℕ) → IsWalk link_map i walk → IsMember walk j → IsWalk (with_turns link_map walk) j back
    → with_turns (with_turns link_map walk) back ≡ link_map
