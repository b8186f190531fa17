-- Joins, and new lone links.
use Rattle.std.specs.Prelude.{◌≡◌, ◌↔◌, ℕ, ◌==◌, if◌then◌else◌, ◌⊎◌, List, [], ◌∷◌, ◌++◌, Option, None, Some}
use Rattle.std.specs.Option.{option_map}
use Rattle.chain_laws.specs.Chains.{LinkMap, Interlinks, Chain, linear, cyclic, items, IsMember, IsChain, HasLink, HasLinksWithin, IsWellLinked, first_or, last_or, prev_of, next_of}
use Rattle.chain_laws.specs.Neighbors.{AreNeighbors}

abbrev pub with_prev : Option ℕ → Interlinks → Interlinks
with_prev before link = record link { prev = before }

abbrev pub with_next : Option ℕ → Interlinks → Interlinks
with_next after link = record link { next = after }

abbrev pub with_prev_at : LinkMap → Option ℕ → Option ℕ → LinkMap
with_prev_at link_map None before j = link_map j
with_prev_at link_map (Some i) before j = if j == i then option_map (with_prev before) (link_map j) else link_map j

abbrev pub with_next_at : LinkMap → Option ℕ → Option ℕ → LinkMap
with_next_at link_map None after j = link_map j
with_next_at link_map (Some i) after j = if j == i then option_map (with_next after) (link_map j) else link_map j

-- v comes after u; a missing one leaves no neighbor on that side.
abbrev pub with_neighbors : LinkMap → Option ℕ → Option ℕ → LinkMap
with_neighbors link_map u v = with_prev_at (with_next_at link_map u v) v u

-- b comes after a.
abbrev pub with_join : LinkMap → ℕ → ℕ → LinkMap
with_join link_map a b = with_neighbors link_map (Some a) (Some b)

-- A lone link is added at q.
abbrev pub with_lone : LinkMap → ℕ → LinkMap
with_lone link_map q j = if j == q then Some (record { prev = None; next = None }) else link_map j

-- Exactly the pair (a, b) is added.
pub record AddsPair (old new : LinkMap) (a b : ℕ) : Type 0 where
  pub pairs : (i j : ℕ) → AreNeighbors new i j ↔ (AreNeighbors old i j ⊎ ((i ≡ a) × (j ≡ b)))
  pub links : (i : ℕ) → HasLink new i ↔ HasLink old i

abbrev pub KeepsChainsWithout : LinkMap → LinkMap → ℕ → ℕ → Type 0
KeepsChainsWithout old new a b = (c : Chain) → (IsMember (items c) a → ⊥) → (IsMember (items c) b → ⊥) → IsChain old c ↔ IsChain new c

-- By chains: the chains that end in a and start with b are joined.
pub record Connects (old new : LinkMap) (a b : ℕ) : Type 0 where
  pub two : (x y : List ℕ) → IsChain old (linear (x ++ a ∷ [])) → IsChain old (linear (b ∷ y)) → (IsMember (x ++ a ∷ []) b → ⊥)
      → IsChain new (linear ((x ++ a ∷ []) ++ b ∷ y))
  pub one : (xs : List ℕ) → IsChain old (linear xs) → first_or xs None ≡ Some b → last_or xs None ≡ Some a → IsChain new (cyclic xs)
  pub rest : KeepsChainsWithout old new a b

-- A lone link is added to the chains.
pub record AddsLone (old new : LinkMap) (q : ℕ) : Type 0 where
  pub alone : IsChain new (linear (q ∷ []))
  pub rest : (c : Chain) → (IsMember (items c) q → ⊥) → IsChain old c ↔ IsChain new c
  pub pairs : (i j : ℕ) → AreNeighbors new i j ↔ AreNeighbors old i j
  pub links : (i : ℕ) → HasLink new i ↔ (HasLink old i ⊎ (i ≡ q))

-- a ends a linear chain and b starts one, perhaps the same.
pub record AreEndAndStart (link_map : LinkMap) (a b : ℕ) : Type 0 where
  pub valid_end : HasLink link_map a
  pub valid_start : HasLink link_map b
  pub end : next_of link_map a ≡ None
  pub start : prev_of link_map b ≡ None

abbrev pub JoinAgrees : Type 0
JoinAgrees = (link_map : LinkMap) (a b : ℕ) → IsWellLinked link_map → AreEndAndStart link_map a b → IsWellLinked (with_join link_map a b)

abbrev pub JoinAddsAPair : Type 0
JoinAddsAPair = (link_map : LinkMap) (a b : ℕ) → AreEndAndStart link_map a b → AddsPair link_map (with_join link_map a b) a b

abbrev pub JoinConnects : Type 0
JoinConnects = (link_map : LinkMap) (a b : ℕ) → Connects link_map (with_join link_map a b) a b

abbrev pub LoneAgrees : Type 0
LoneAgrees = (link_map : LinkMap) (q : ℕ) → link_map q ≡ None → IsWellLinked link_map → IsWellLinked (with_lone link_map q)

abbrev pub LoneAdds : Type 0
LoneAdds = (link_map : LinkMap) (q : ℕ) → link_map q ≡ None → AddsLone link_map (with_lone link_map q) q

abbrev pub HaveSameChains : LinkMap → LinkMap → Type 0
HaveSameChains left right = (c : Chain) → IsChain left c ↔ IsChain right c

abbrev pub ChainsDecide : Type 0
ChainsDecide = (left right : LinkMap) (slots : ℕ) → IsWellLinked left → IsWellLinked right → HasLinksWithin left slots → HasLinksWithin right slots
    → HaveSameChains left right → left ≡ right

abbrev pub PairsDecide : Type 0
PairsDecide = (left right : LinkMap) → IsWellLinked left → IsWellLinked right → ((i : ℕ) → HasLink left i ↔ HasLink right i)
    → ((i j : ℕ) → AreNeighbors left i j ↔ AreNeighbors right i j) → left ≡ right

abbrev pub JoinIsDetermined : Type 0
JoinIsDetermined = (old new : LinkMap) (slots a b : ℕ) → IsWellLinked old → HasLinksWithin old slots → AreEndAndStart old a b
    → Connects old new a b → HaveSameChains new (with_join old a b)

abbrev pub LoneIsDetermined : Type 0
LoneIsDetermined = (old new : LinkMap) (q : ℕ) → old q ≡ None → AddsLone old new q → HaveSameChains new (with_lone old q)
