-- Insertions.
use Rattle.std.specs.Prelude.{◌≡◌, ◌↔◌, ℕ, ◌+◌, ◌⊎◌, List, [], ◌∷◌, ◌++◌, length, Option, None, Some}
use Rattle.chain_laws.specs.Chains.{LinkMap, Chain, linear, cyclic, items, IsMember, IsChain, HasLink, HasLinksWithin, IsWellLinked, first_or, last_or, prev_of, next_of}
use Rattle.chain_laws.specs.Neighbors.{AreNeighbors}
use Rattle.chain_laws.specs.Joins.{with_neighbors, with_lone, AreEndAndStart, HaveSameChains}
use Rattle.chain_laws.specs.Removals.{with_removal}
use Rattle.chain_laws.specs.declared.insert_kind.InsertKind.{InsertKind}
use Rattle.chain_laws.specs.declared.insert_kind.InsertKind.TheVariants.{Disconnected, SingleLinkCyclic, ChainEnd, ChainEndInx, ChainStart, ChainStartInx, NextTo, NextToInx, PrevTo, PrevToInx, AtInterlink, AtInterlinkInx, Bridge, BridgeInx}

-- A pointer p names the link at `place p` if `is_valid p`, an index i that at `number i` if
-- `is_occupied i`.
module _ {P I : Type 0} (place : P → ℕ) (number : I → ℕ) where
  -- What a kind requires.
  module _ (is_valid : P → Type 0) (is_occupied : I → Type 0) (link_map : LinkMap) where
    abbrev pub MayInsert : InsertKind P I → Type 0
    MayInsert Disconnected = Unit {0}
    MayInsert SingleLinkCyclic = Unit {0}
    MayInsert (ChainEnd a) = is_valid a × (next_of link_map (place a) ≡ None)
    MayInsert (ChainEndInx a) = is_occupied a × (next_of link_map (number a) ≡ None)
    MayInsert (ChainStart b) = is_valid b × (prev_of link_map (place b) ≡ None)
    MayInsert (ChainStartInx b) = is_occupied b × (prev_of link_map (number b) ≡ None)
    MayInsert (NextTo a) = is_valid a
    MayInsert (NextToInx a) = is_occupied a
    MayInsert (PrevTo b) = is_valid b
    MayInsert (PrevToInx b) = is_occupied b
    MayInsert (AtInterlink a b) = is_valid a × is_valid b × AreNeighbors link_map (place a) (place b)
    MayInsert (AtInterlinkInx a b) = is_occupied a × is_occupied b × AreNeighbors link_map (number a) (number b)
    MayInsert (Bridge a b) = is_valid a × is_valid b × (next_of link_map (place a) ≡ None) × (prev_of link_map (place b) ≡ None)
    MayInsert (BridgeInx a b) = is_occupied a × is_occupied b × (next_of link_map (number a) ≡ None) × (prev_of link_map (number b) ≡ None)

  -- The link before the new link at q.
  abbrev pub link_before : LinkMap → InsertKind P I → ℕ → Option ℕ
  link_before link_map Disconnected q = None
  link_before link_map SingleLinkCyclic q = Some q
  link_before link_map (ChainEnd a) q = Some (place a)
  link_before link_map (ChainEndInx a) q = Some (number a)
  link_before link_map (ChainStart b) q = None
  link_before link_map (ChainStartInx b) q = None
  link_before link_map (NextTo a) q = Some (place a)
  link_before link_map (NextToInx a) q = Some (number a)
  link_before link_map (PrevTo b) q = prev_of link_map (place b)
  link_before link_map (PrevToInx b) q = prev_of link_map (number b)
  link_before link_map (AtInterlink a b) q = Some (place a)
  link_before link_map (AtInterlinkInx a b) q = Some (number a)
  link_before link_map (Bridge a b) q = Some (place a)
  link_before link_map (BridgeInx a b) q = Some (number a)

  -- The link after the new link at q.
  abbrev pub link_after : LinkMap → InsertKind P I → ℕ → Option ℕ
  link_after link_map Disconnected q = None
  link_after link_map SingleLinkCyclic q = Some q
  link_after link_map (ChainEnd a) q = None
  link_after link_map (ChainEndInx a) q = None
  link_after link_map (ChainStart b) q = Some (place b)
  link_after link_map (ChainStartInx b) q = Some (number b)
  link_after link_map (NextTo a) q = next_of link_map (place a)
  link_after link_map (NextToInx a) q = next_of link_map (number a)
  link_after link_map (PrevTo b) q = Some (place b)
  link_after link_map (PrevToInx b) q = Some (number b)
  link_after link_map (AtInterlink a b) q = Some (place b)
  link_after link_map (AtInterlinkInx a b) q = Some (number b)
  link_after link_map (Bridge a b) q = Some (place b)
  link_after link_map (BridgeInx a b) q = Some (number b)

-- q comes between u and v; either may be none.
abbrev pub with_insertion : LinkMap → ℕ → Option ℕ → Option ℕ → LinkMap
with_insertion link_map q u v = with_neighbors (with_neighbors (with_lone link_map q) u (Some q)) (Some q) v

-- u and v are neighbors, an end and a start (either may be missing), or both q.
abbrev pub IsInsertPosition : LinkMap → ℕ → Option ℕ → Option ℕ → Type 0
IsInsertPosition link_map q None None = Unit {0}
IsInsertPosition link_map q (Some a) None = HasLink link_map a × (next_of link_map a ≡ None)
IsInsertPosition link_map q None (Some b) = HasLink link_map b × (prev_of link_map b ≡ None)
IsInsertPosition link_map q (Some a) (Some b) = AreNeighbors link_map a b ⊎ AreEndAndStart link_map a b ⊎ ((a ≡ q) × (b ≡ q))

-- By pairs: q comes between u and v, and their own pair goes, if any.
pub record InsertsPairs (old new : LinkMap) (q : ℕ) (u v : Option ℕ) : Type 0 where
  pub pairs : (i j : ℕ) → AreNeighbors new i j
      ↔ ((AreNeighbors old i j × ((u ≡ Some i) × (v ≡ Some j) → ⊥)) ⊎ ((u ≡ Some i) × (j ≡ q)) ⊎ ((i ≡ q) × (v ≡ Some j)))
  pub links : (i : ℕ) → HasLink new i ↔ (HasLink old i ⊎ (i ≡ q))

-- There is an index, and the chain has it.
abbrev pub HasIndex : Chain → Option ℕ → Type 0
HasIndex c None = ⊥
HasIndex c (Some i) = IsMember (items c) i

-- By chains: q comes between u and v.
pub record Inserts (old new : LinkMap) (q : ℕ) (u v : Option ℕ) : Type 0 where
  pub alone : u ≡ None → v ≡ None → IsChain new (linear (q ∷ []))
  pub ring : u ≡ Some q → v ≡ Some q → IsChain new (cyclic (q ∷ []))
  pub after : (a : ℕ) → u ≡ Some a → v ≡ next_of old a → (x y : List ℕ)
      → (IsChain old (linear (x ++ a ∷ y)) → IsChain new (linear (x ++ a ∷ q ∷ y)))
      × (IsChain old (cyclic (x ++ a ∷ y)) → IsChain new (cyclic (x ++ a ∷ q ∷ y)))
  pub before : (b : ℕ) → v ≡ Some b → u ≡ prev_of old b → (x y : List ℕ)
      → (IsChain old (linear (x ++ b ∷ y)) → IsChain new (linear (x ++ q ∷ b ∷ y)))
      × (IsChain old (cyclic (x ++ b ∷ y)) → IsChain new (cyclic (x ++ q ∷ b ∷ y)))
  pub two : (a b : ℕ) → u ≡ Some a → v ≡ Some b → (x y : List ℕ) → IsChain old (linear (x ++ a ∷ [])) → IsChain old (linear (b ∷ y))
      → (IsMember (x ++ a ∷ []) b → ⊥) → IsChain new (linear ((x ++ a ∷ q ∷ []) ++ b ∷ y))
  pub one : (a b : ℕ) → u ≡ Some a → v ≡ Some b → (xs : List ℕ) → IsChain old (linear xs) → first_or xs None ≡ Some b → last_or xs None ≡ Some a
      → IsChain new (cyclic (xs ++ q ∷ []))
  pub rest : (c : Chain) → (IsMember (items c) q → ⊥) → (HasIndex c u → ⊥) → (HasIndex c v → ⊥) → IsChain old c ↔ IsChain new c
  pub links : (i : ℕ) → HasLink new i ↔ (HasLink old i ⊎ (i ≡ q))

-- A chain has its old items and q, and is one longer.
pub record HasGrownBy (shape : List ℕ → Chain) (new : LinkMap) (q : ℕ) (xs : List ℕ) : Type 0 where
  pub grown : List ℕ
  pub chain : IsChain new (shape grown)
  pub members : (i : ℕ) → IsMember grown i ↔ ((i ≡ q) ⊎ IsMember xs i)
  pub size : length grown ≡ length xs + 1

-- The chain of a has grown by q.
abbrev pub GrowsChainsOf : LinkMap → LinkMap → ℕ → ℕ → Type 0
GrowsChainsOf old new q a = (xs : List ℕ) → IsMember xs a
    → (IsChain old (linear xs) → HasGrownBy linear new q xs) × (IsChain old (cyclic xs) → HasGrownBy cyclic new q xs)

abbrev pub KindGivesAPosition : (P I : Type 0) → Type 0
KindGivesAPosition P I = (place : P → ℕ) (number : I → ℕ) (link_map : LinkMap) (kind : InsertKind P I) (q : ℕ) → IsWellLinked link_map
    → MayInsert place number (λ p. HasLink link_map (place p)) (λ i. HasLink link_map (number i)) link_map kind
    → IsInsertPosition link_map q (link_before place number link_map kind q) (link_after place number link_map kind q)

abbrev pub InsertionAgrees : Type 0
InsertionAgrees = (link_map : LinkMap) (q : ℕ) (u v : Option ℕ) → IsWellLinked link_map → link_map q ≡ None → IsInsertPosition link_map q u v → IsWellLinked (with_insertion link_map q u v)

abbrev pub InsertionInPairs : Type 0
InsertionInPairs = (link_map : LinkMap) (q : ℕ) (u v : Option ℕ) → IsWellLinked link_map → link_map q ≡ None → IsInsertPosition link_map q u v
    → InsertsPairs link_map (with_insertion link_map q u v) q u v

abbrev pub InsertionInserts : Type 0
InsertionInserts = (link_map : LinkMap) (q : ℕ) (u v : Option ℕ) → link_map q ≡ None → Inserts link_map (with_insertion link_map q u v) q u v

abbrev pub InsertionGrowsTheChain : Type 0
InsertionGrowsTheChain = (old new : LinkMap) (a q : ℕ)
    → (Inserts old new q (Some a) (next_of old a) → GrowsChainsOf old new q a) × (Inserts old new q (prev_of old a) (Some a) → GrowsChainsOf old new q a)

abbrev pub InsertionIsDetermined : Type 0
InsertionIsDetermined = (old new : LinkMap) (slots q : ℕ) (u v : Option ℕ) → IsWellLinked old → HasLinksWithin old slots → old q ≡ None → IsInsertPosition old q u v
    → Inserts old new q u v → HaveSameChains new (with_insertion old q u v)

abbrev pub InsertionIsDeterminedByPairs : Type 0
InsertionIsDeterminedByPairs = (old new : LinkMap) (q : ℕ) (u v : Option ℕ) → IsWellLinked old → IsWellLinked new → old q ≡ None → IsInsertPosition old q u v
    → InsertsPairs old new q u v → new ≡ with_insertion old q u v

abbrev pub RemovalOfInsertedRestores : Type 0
RemovalOfInsertedRestores = (link_map : LinkMap) (a q : ℕ) → IsWellLinked link_map → HasLink link_map a → link_map q ≡ None
    → (with_removal (with_insertion link_map q (Some a) (next_of link_map a)) q ≡ link_map) × (with_removal (with_insertion link_map q (prev_of link_map a) (Some a)) q ≡ link_map)
