-- Walks and walkers.
use Rattle.std.specs.Prelude.{◌≡◌, ◌↔◌, ℕ, zero, suc, ◌==◌, if◌then◌else◌, List, [], ◌∷◌, ◌++◌, reverse, Option, None, Some, is_some}
use Rattle.std.specs.Option.{option_or}
use Rattle.chain_laws.specs.Chains.{LinkMap, Chain, linear, cyclic, items, IsMember, AreDistinct, IsChain, HasLink, HasLinksWithin, IsWellLinked, first_or, prev_of, next_of}
use Rattle.chain_laws.specs.Removals.{with_removal}

-- Linear: from i to the end, then from the link before i to the start; cyclic: once around.
pub data IsWalk (link_map : LinkMap) (i : ℕ) : List ℕ → Type 0 where
  of_linear : (before after : List ℕ) → IsChain link_map (linear (before ++ i ∷ after)) → IsWalk link_map i (i ∷ after ++ reverse before)
  of_cyclic : (after : List ℕ) → IsChain link_map (cyclic (i ∷ after)) → IsWalk link_map i (i ∷ after)

-- The next link, unless that is `start`.
abbrev pub step_forward : ℕ → Option ℕ → Option ℕ
step_forward start None = None
step_forward start (Some k) = if k == start then None else Some k

abbrev pub step_back : ℕ → Option ℕ → Option ℕ → Option ℕ
step_back start None back = back
step_back start (Some k) back = if k == start then None else back

-- At most `left` more steps; it began at `start`, and goes `forward`, then `back`.
pub record Walker : Type 0 where
  pub left : ℕ
  pub start : ℕ
  pub forward : Option ℕ
  pub back : Option ℕ

-- A walker about to pass the link at i.
abbrev pub walker_at : LinkMap → ℕ → ℕ → Walker
walker_at link_map left i = record { left = left; start = i; forward = Some i; back = prev_of link_map i }

abbrev pub next_step : ℕ → LinkMap → ℕ → Option ℕ → Option ℕ → Option (ℕ × Walker)
next_step zero link_map start forward back = None
next_step (suc left) link_map start (Some j) back =
    Some (j, record { left = left; start = start; forward = step_forward start (next_of link_map j); back = step_back start (next_of link_map j) back })
next_step (suc left) link_map start None (Some k) = Some (k, record { left = left; start = start; forward = None; back = prev_of link_map k })
next_step (suc left) link_map start None None = None

abbrev pub step_of : LinkMap → Walker → Option (ℕ × Walker)
step_of link_map w = next_step w.left link_map w.start w.forward w.back

-- What a walker passes by next from `forward`, then by prev from `back`.
abbrev pub walk_ahead : ℕ → LinkMap → ℕ → Option ℕ → Option ℕ → List ℕ
walk_ahead zero link_map start forward back = []
walk_ahead (suc left) link_map start forward back =
    elim (next_step (suc left) link_map start forward back) [ None ↦ [] | Some step ↦ step.0 ∷ walk_ahead left link_map step.1.start step.1.forward step.1.back ]

abbrev pub passes_ahead : LinkMap → Walker → List ℕ
passes_ahead link_map w = walk_ahead w.left link_map w.start w.forward w.back

abbrev pub walk_of_step : LinkMap → Option (ℕ × Walker) → List ℕ
walk_of_step link_map None = []
walk_of_step link_map (Some step) = step.0 ∷ passes_ahead link_map step.1

abbrev pub StepsPass : Type 0
StepsPass = (link_map : LinkMap) (w : Walker) → passes_ahead link_map w ≡ walk_of_step link_map (step_of link_map w)

abbrev pub WalksAhead : Type 0
WalksAhead = (link_map : LinkMap) (slots i : ℕ) → IsWellLinked link_map → HasLinksWithin link_map slots → HasLink link_map i
    → IsWalk link_map i (walk_ahead slots link_map i (Some i) (prev_of link_map i))

abbrev pub HasNoOtherWalk : Type 0
HasNoOtherWalk = (link_map : LinkMap) (i : ℕ) (walk other : List ℕ) → IsWalk link_map i walk → IsWalk link_map i other → walk ≡ other

abbrev pub PassesEachOnce : Type 0
PassesEachOnce = (link_map : LinkMap) (i : ℕ) (walk : List ℕ) → IsWalk link_map i walk → AreDistinct walk

abbrev pub PassesTheChain : Type 0
PassesTheChain = (link_map : LinkMap) (i : ℕ) (walk : List ℕ) (c : Chain) → IsWalk link_map i walk → IsChain link_map c → IsMember (items c) i
    → (j : ℕ) → IsMember walk j ↔ IsMember (items c) j

-- The next link, else the previous one, if not passed.
abbrev pub rest_start : ℕ → Option ℕ → Option ℕ → Option ℕ
rest_start i before after = option_or (step_forward i after) (step_forward i before)

abbrev pub rest_start_of : LinkMap → ℕ → Option ℕ
rest_start_of link_map i = rest_start i (prev_of link_map i) (next_of link_map i)

abbrev pub RemovalLeavesTheWalk : Type 0
RemovalLeavesTheWalk = (link_map : LinkMap) (i : ℕ) (rest : List ℕ) → IsWalk link_map i (i ∷ rest)
    → (first_or rest None ≡ rest_start_of link_map i) × ((k : ℕ) → first_or rest None ≡ Some k → IsWalk (with_removal link_map i) k rest)

-- The walk from i, or nothing if i is none or free.
abbrev pub walk_from : ℕ → LinkMap → Option ℕ → List ℕ
walk_from slots link_map None = []
walk_from slots link_map (Some i) = if is_some (link_map i) then walk_ahead slots link_map i (Some i) (prev_of link_map i) else []

-- The links at these indexes are removed.
abbrev pub with_removals : LinkMap → List ℕ → LinkMap
with_removals link_map [] = link_map
with_removals link_map (i ∷ rest) = with_removals (with_removal link_map i) rest

-- The links of a walk are gone; nothing else has changed.
pub record TakesWalk (old new : LinkMap) (walk : List ℕ) : Type 0 where
  pub gone : (j : ℕ) → IsMember walk j → new j ≡ None
  pub rest : (j : ℕ) → (IsMember walk j → ⊥) → new j ≡ old j
  pub chains : (c : Chain) → IsChain new c ↔ (IsChain old c × ((j : ℕ) → IsMember walk j → IsMember (items c) j → ⊥))

abbrev pub WalkIsTaken : Type 0
WalkIsTaken = (link_map : LinkMap) (i : ℕ) (walk : List ℕ) → IsWalk link_map i walk → TakesWalk link_map (with_removals link_map walk) walk
