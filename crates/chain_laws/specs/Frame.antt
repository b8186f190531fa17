-- Unchanged chains.
use Rattle.std.specs.Prelude.{◌≡◌, ℕ, ◌⊎◌, List, [], ◌∷◌, Option, None}
use Rattle.chain_laws.specs.Chains.{LinkMap, Chain, items, IsMember, IsChain, IsWellLinked, prev_of, next_of}
use Rattle.chain_laws.specs.Neighbors.{AreNeighbors}
use Rattle.chain_laws.specs.Joins.{AddsLone, AreEndAndStart, with_join}
use Rattle.chain_laws.specs.Cuts.{Cuts}
use Rattle.chain_laws.specs.Removals.{with_removal}
use Rattle.chain_laws.specs.declared.insert_kind.InsertKind.{InsertKind}
use Rattle.chain_laws.specs.declared.insert_kind.InsertKind.TheVariants.{Disconnected, SingleLinkCyclic, ChainEnd, ChainEndInx, ChainStart, ChainStartInx, NextTo, NextToInx, PrevTo, PrevToInx, AtInterlink, AtInterlinkInx, Bridge, BridgeInx}
use Rattle.chain_laws.specs.Insertions.{HasIndex, IsInsertPosition, Inserts, link_before, link_after, with_insertion}

abbrev pub IsDisjointFrom : Chain → List ℕ → Type 0
IsDisjointFrom c [] = Unit {0}
IsDisjointFrom c (x ∷ xs) = (IsMember (items c) x → ⊥) × IsDisjointFrom c xs

-- The links that a kind names.
abbrev pub links_named : {P I : Type 0} → (P → ℕ) → (I → ℕ) → InsertKind P I → List ℕ
links_named place number Disconnected = []
links_named place number SingleLinkCyclic = []
links_named place number (ChainEnd a) = place a ∷ []
links_named place number (ChainEndInx a) = number a ∷ []
links_named place number (ChainStart b) = place b ∷ []
links_named place number (ChainStartInx b) = number b ∷ []
links_named place number (NextTo a) = place a ∷ []
links_named place number (NextToInx a) = number a ∷ []
links_named place number (PrevTo b) = place b ∷ []
links_named place number (PrevToInx b) = number b ∷ []
links_named place number (AtInterlink a b) = place a ∷ place b ∷ []
links_named place number (AtInterlinkInx a b) = number a ∷ number b ∷ []
links_named place number (Bridge a b) = place a ∷ place b ∷ []
links_named place number (BridgeInx a b) = number a ∷ number b ∷ []

abbrev pub SameLinksKeepAChain : Type 0
SameLinksKeepAChain = (old new : LinkMap) (c : Chain) → ((i : ℕ) → IsMember (items c) i → new i ≡ old i) → IsChain old c → IsChain new c

abbrev pub InsertionKeepsOthers : (P I : Type 0) → Type 0
InsertionKeepsOthers P I = (place : P → ℕ) (number : I → ℕ) (old new : LinkMap) (kind : InsertKind P I) (q : ℕ) → IsWellLinked old → old q ≡ None
    → Inserts old new q (link_before place number old kind q) (link_after place number old kind q)
    → (c : Chain) → IsDisjointFrom c (links_named place number kind) → IsChain old c → IsChain new c

abbrev pub InsertionMakesNoOthers : Type 0
InsertionMakesNoOthers = (link_map : LinkMap) (q : ℕ) (u v : Option ℕ) → IsWellLinked link_map → link_map q ≡ None → IsInsertPosition link_map q u v
    → (c : Chain) → (IsMember (items c) q → ⊥) → IsChain (with_insertion link_map q u v) c → IsChain link_map c

abbrev pub LoneKeepsEach : Type 0
LoneKeepsEach = (old new : LinkMap) (q : ℕ) → old q ≡ None → AddsLone old new q → (c : Chain) → IsChain old c → IsChain new c

abbrev pub CutKeepsOthers : Type 0
CutKeepsOthers = (old new : LinkMap) (a b : ℕ) → IsWellLinked old → AreNeighbors old a b → Cuts old new a b
    → (c : Chain) → (IsMember (items c) a → ⊥) ⊎ (IsMember (items c) b → ⊥) → IsChain old c → IsChain new c

abbrev pub JoinMakesNoOthers : Type 0
JoinMakesNoOthers = (link_map : LinkMap) (a b : ℕ) → IsWellLinked link_map → AreEndAndStart link_map a b
    → (c : Chain) → (IsMember (items c) a → ⊥) ⊎ (IsMember (items c) b → ⊥) → IsChain (with_join link_map a b) c → IsChain link_map c

abbrev pub RemovalMakesNoOthers : Type 0
RemovalMakesNoOthers = (link_map : LinkMap) (i : ℕ) → (c : Chain) → (HasIndex c (prev_of link_map i) → ⊥) → (HasIndex c (next_of link_map i) → ⊥)
    → IsChain (with_removal link_map i) c → IsChain link_map c
