-- Moves after a link.
use Rattle.std.specs.Prelude.{◌≡◌, ◌≢◌, ◌↔◌, ℕ, List, [], ◌∷◌, ◌++◌, Some}
use Rattle.chain_laws.specs.Chains.{LinkMap, Chain, linear, cyclic, items, IsMember, IsChain, HasLink, IsWellLinked, next_of, prev_of}
use Rattle.chain_laws.specs.Insertions.{with_insertion}
use Rattle.chain_laws.specs.Removals.{with_removal}

-- p is removed, and inserted after q.
abbrev pub with_move_after : LinkMap → ℕ → ℕ → LinkMap
with_move_after link_map p q = with_insertion (with_removal link_map p) p (Some q) (next_of (with_removal link_map p) q)

-- By chains: p leaves its chain, gone if empty, and comes after q.
pub record MovesAfter (old new : LinkMap) (p q : ℕ) : Type 0 where
  pub onward : (x y z : List ℕ) → IsChain old (linear (x ++ p ∷ y ++ q ∷ z)) → IsChain new (linear (x ++ y ++ q ∷ p ∷ z))
  pub backward : (x y z : List ℕ) → IsChain old (linear (x ++ q ∷ y ++ p ∷ z)) → IsChain new (linear (x ++ q ∷ p ∷ y ++ z))
  pub around : (x y : List ℕ) → IsChain old (cyclic (p ∷ x ++ q ∷ y)) → IsChain new (cyclic (x ++ q ∷ p ∷ y))
  pub from_linear : (x y : List ℕ) → IsChain old (linear (x ++ p ∷ y)) → (IsMember (x ++ y) q → ⊥) → x ++ y ≢ [] → IsChain new (linear (x ++ y))
  pub from_cyclic : (x y : List ℕ) → IsChain old (cyclic (x ++ p ∷ y)) → (IsMember (x ++ y) q → ⊥) → x ++ y ≢ [] → IsChain new (cyclic (x ++ y))
  pub to_linear : (x y : List ℕ) → IsChain old (linear (x ++ q ∷ y)) → (IsMember (x ++ q ∷ y) p → ⊥) → IsChain new (linear (x ++ q ∷ p ∷ y))
  pub to_cyclic : (x y : List ℕ) → IsChain old (cyclic (x ++ q ∷ y)) → (IsMember (x ++ q ∷ y) p → ⊥) → IsChain new (cyclic (x ++ q ∷ p ∷ y))
  pub rest : (c : Chain) → (IsMember (items c) p → ⊥) → (IsMember (items c) q → ⊥) → IsChain old c → IsChain new c
  pub links : (i : ℕ) → HasLink new i ↔ HasLink old i

abbrev pub MoveAgrees : Type 0
MoveAgrees = (link_map : LinkMap) (p q : ℕ) → IsWellLinked link_map → HasLink link_map p → HasLink link_map q → p ≢ q → IsWellLinked (with_move_after link_map p q)

abbrev pub MoveMoves : Type 0
MoveMoves = (link_map : LinkMap) (p q : ℕ) → IsWellLinked link_map → HasLink link_map p → HasLink link_map q → p ≢ q → MovesAfter link_map (with_move_after link_map p q) p q

abbrev pub MoveBackRestores : Type 0
MoveBackRestores = (link_map : LinkMap) (p q a : ℕ) → IsWellLinked link_map → HasLink link_map p → HasLink link_map q → p ≢ q → prev_of link_map p ≡ Some a → a ≢ p
    → with_move_after (with_move_after link_map p q) p a ≡ link_map
