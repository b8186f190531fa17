-- Moves into an order.
use Rattle.std.specs.Prelude.{◌≡◌, ◌≢◌, ◌↔◌, ℕ, List, [], ◌∷◌, ◌++◌, None, Some}
use Rattle.chain_laws.specs.Chains.{LinkMap, Chain, linear, cyclic, items, IsMember, AreDistinct, IsChain, HasLink, IsWellLinked, first_or}
use Rattle.chain_laws.specs.MoveAfter.{with_move_after}
use Rattle.chain_laws.specs.Removals.{list_without}

-- Each follower is moved after the one before it, the first after x.
abbrev pub with_followers : LinkMap → ℕ → List ℕ → LinkMap
with_followers link_map x [] = link_map
with_followers link_map x (y ∷ followers) = with_followers (with_move_after link_map y x) y followers

-- The links follow the first in list order.
abbrev pub with_order : LinkMap → List ℕ → LinkMap
with_order link_map [] = link_map
with_order link_map (x ∷ followers) = with_followers link_map x followers

-- No item equals the one after it.
abbrev pub AreApart : List ℕ → Type 0
AreApart [] = Unit {0}
AreApart (x ∷ xs) = (first_or xs None ≢ Some x) × AreApart xs

abbrev pub list_without_all : List ℕ → List ℕ → List ℕ
list_without_all xs [] = xs
list_without_all xs (y ∷ ys) = list_without_all (list_without xs y) ys

-- By chains: the followers leave their chains and come after x, in order.
pub record PutsInOrder (old new : LinkMap) (x : ℕ) (followers : List ℕ) : Type 0 where
  pub all_linear : (xs : List ℕ) → IsChain old (linear xs) → ((i : ℕ) → IsMember xs i ↔ IsMember (x ∷ followers) i) → IsChain new (linear (x ∷ followers))
  pub all_cyclic : (xs : List ℕ) → IsChain old (cyclic xs) → ((i : ℕ) → IsMember xs i ↔ IsMember (x ∷ followers) i) → IsChain new (cyclic (x ∷ followers))
  pub to_linear : (y z : List ℕ) → IsChain old (linear (y ++ x ∷ z)) → IsChain new (linear (list_without_all y followers ++ x ∷ followers ++ list_without_all z followers))
  pub to_cyclic : (y z : List ℕ) → IsChain old (cyclic (y ++ x ∷ z)) → IsChain new (cyclic (list_without_all y followers ++ x ∷ followers ++ list_without_all z followers))
  pub from_linear : (xs : List ℕ) → IsChain old (linear xs) → (IsMember xs x → ⊥) → list_without_all xs followers ≢ [] → IsChain new (linear (list_without_all xs followers))
  pub from_cyclic : (xs : List ℕ) → IsChain old (cyclic xs) → (IsMember xs x → ⊥) → list_without_all xs followers ≢ [] → IsChain new (cyclic (list_without_all xs followers))
  pub rest : (c : Chain) → ((i : ℕ) → IsMember (items c) i → IsMember (x ∷ followers) i → ⊥) → IsChain old c → IsChain new c
  pub links : (i : ℕ) → HasLink new i ↔ HasLink old i

abbrev pub OrderAgrees : Type 0
OrderAgrees = (link_map : LinkMap) (order : List ℕ) → IsWellLinked link_map → ((i : ℕ) → IsMember order i → HasLink link_map i) → AreApart order
    → IsWellLinked (with_order link_map order)

abbrev pub OrderPutsInOrder : Type 0
OrderPutsInOrder = (link_map : LinkMap) (x : ℕ) (followers : List ℕ) → IsWellLinked link_map → ((i : ℕ) → IsMember (x ∷ followers) i → HasLink link_map i)
    → AreDistinct (x ∷ followers) → PutsInOrder link_map (with_order link_map (x ∷ followers)) x followers

abbrev pub OwnOrderStays : Type 0
OwnOrderStays = (link_map : LinkMap) (c : Chain) → IsWellLinked link_map → IsChain link_map c → with_order link_map (items c) ≡ link_map
