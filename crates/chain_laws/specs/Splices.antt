-- Moves of a run.
use Rattle.std.specs.Prelude.{◌≡◌, ◌≢◌, ◌↔◌, ℕ, List, [], ◌∷◌, ◌++◌, None, Some}
use Rattle.chain_laws.specs.Chains.{LinkMap, Chain, linear, cyclic, items, IsMember, IsChain, HasLink, IsWellLinked, first_or, last_or, next_of, prev_of}
use Rattle.chain_laws.specs.Joins.{with_neighbors}

-- The links beside the run follow one another.
abbrev pub without_run : LinkMap → ℕ → ℕ → LinkMap
without_run link_map first last = with_neighbors link_map (prev_of link_map first) (next_of link_map last)

-- The run from `first` to `last` comes after p.
abbrev pub with_splice : LinkMap → ℕ → ℕ → ℕ → LinkMap
with_splice link_map p first last = with_neighbors (with_neighbors (without_run link_map first last) (Some p) (Some first)) (Some last) (next_of (without_run link_map first last) p)

-- The list runs from `first` to `last`.
abbrev pub IsRun : List ℕ → ℕ → ℕ → Type 0
IsRun run first last = (first_or run None ≡ Some first) × (last_or run None ≡ Some last)

abbrev pub HasRun : Chain → List ℕ → Type 0
HasRun c run = (x : List ℕ) × (y : List ℕ) × (items c ≡ x ++ run ++ y)

-- By chains: the run leaves its chain, gone if empty, and comes after p.
pub record Splices (old new : LinkMap) (p first last : ℕ) : Type 0 where
  pub onward : (x run z y : List ℕ) → IsRun run first last → IsChain old (linear (x ++ run ++ z ++ p ∷ y)) → IsChain new (linear (x ++ z ++ p ∷ run ++ y))
  pub backward : (x z run y : List ℕ) → IsRun run first last → IsChain old (linear (x ++ p ∷ z ++ run ++ y)) → IsChain new (linear (x ++ p ∷ run ++ z ++ y))
  pub around : (run z y : List ℕ) → IsRun run first last → IsChain old (cyclic (run ++ z ++ p ∷ y)) → IsChain new (cyclic (z ++ p ∷ run ++ y))
  pub from_linear : (x run y : List ℕ) → IsRun run first last → IsChain old (linear (x ++ run ++ y)) → (IsMember (x ++ run ++ y) p → ⊥) → x ++ y ≢ [] → IsChain new (linear (x ++ y))
  pub from_cyclic : (run y : List ℕ) → IsRun run first last → IsChain old (cyclic (run ++ y)) → (IsMember (run ++ y) p → ⊥) → y ≢ [] → IsChain new (cyclic y)
  pub to_linear : (c : Chain) (run u v : List ℕ) → IsRun run first last → IsChain old c → HasRun c run → (IsMember (items c) p → ⊥)
      → IsChain old (linear (u ++ p ∷ v)) → IsChain new (linear (u ++ p ∷ run ++ v))
  pub to_cyclic : (c : Chain) (run u v : List ℕ) → IsRun run first last → IsChain old c → HasRun c run → (IsMember (items c) p → ⊥)
      → IsChain old (cyclic (u ++ p ∷ v)) → IsChain new (cyclic (u ++ p ∷ run ++ v))
  pub rest : (c : Chain) → (IsMember (items c) p → ⊥) → (IsMember (items c) first → ⊥) → (IsMember (items c) last → ⊥) → IsChain old c → IsChain new c
  pub links : (i : ℕ) → HasLink new i ↔ HasLink old i

abbrev pub SpliceAgrees : Type 0
SpliceAgrees = (link_map : LinkMap) (p first last : ℕ) → IsWellLinked link_map → HasLink link_map p → HasLink link_map first → HasLink link_map last → p ≢ last
    → IsWellLinked (with_splice link_map p first last)

abbrev pub SpliceSplices : Type 0
SpliceSplices = (link_map : LinkMap) (p first last : ℕ) → IsWellLinked link_map → HasLink link_map p → HasLink link_map first → HasLink link_map last → p ≢ last
    → Splices link_map (with_splice link_map p first last) p first last

abbrev pub SpliceBackRestores : Type 0
SpliceBackRestores = (link_map : LinkMap) (p first last a : ℕ) → IsWellLinked link_map → HasLink link_map p → HasLink link_map first → HasLink link_map last → p ≢ last
    → prev_of link_map first ≡ Some a → a ≢ last → with_splice (with_splice link_map p first last) a first last ≡ link_map
