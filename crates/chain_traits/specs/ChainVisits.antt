-- Visits of the links of a chain by a closure that writes values.
use Rattle.std.specs.Prelude.{◌≡◌, ℕ, List, map, Option, None, Some}
use Rattle.std.specs.List.{FoldsTo}
use Rattle.std.specs.Fn.{Mut, Called}
use denote.Ref.{MutBor}
use Rattle.arena_traits.specs.Arena.{IsValid}
use Rattle.arena_traits.specs.Entries.{ArenaView, ArenaState}
use Rattle.chain_laws.specs.Chains.{LinkMap, IsMember}
use Rattle.chain_laws.specs.Walks.{IsWalk}

-- The pointer, the value passed, and the value left.
pub record LinkVisit (P T : Type 0) : Type 0 where
  pub ptr : P
  pub value : T
  pub left : T

module _ {F P T : Type 0} (g : Mut F (P × (MutBor T × Unit {0})) (Unit {0} × (MutBor T × Unit {0}))) where
  -- Such a call changes the closure from `f` to `next`.
  pub record IsLinkVisit (f : F) (visit : LinkVisit P T) (next : F) : Type 0 where
    pub lent : MutBor T
    pub lends : lent.now ≡ visit.value
    pub back : MutBor T
    pub called : Called g f (visit.ptr, (lent, tt)) (tt, (back, tt)) next
    pub leaves : back.now ≡ visit.left

  module _ {Gen : Type 0} (key : P → ℕ × Gen) where
    -- The closure visits each link of the walk once, in order; every other entry stays.
    pub record VisitsWalk (f : F) (old new : ℕ → Option (Gen × T)) (walk : List ℕ) : Type 0 where
      pub visits : List (LinkVisit P T)
      pub last : F
      pub in_turn : FoldsTo IsLinkVisit f visits last
      pub indexes : map (λ v. (key v.ptr).0) visits ≡ walk
      pub before : map (λ v. Some ((key v.ptr).1, v.value)) visits ≡ map old walk
      pub after : map (λ v. Some ((key v.ptr).1, v.left)) visits ≡ map new walk
      pub rest : (i : ℕ) → (IsMember walk i → ⊥) → new i ≡ old i

module _ {A Gen T : Type 0} {view : A → ArenaView Gen T} {entry : A → ℕ → Option (Gen × T)} (state : (a : A) → ArenaState (view a) (entry a)) (interlinks : A → LinkMap)
    {F P : Type 0} (g : Mut F (P × (MutBor T × Unit {0})) (Unit {0} × (MutBor T × Unit {0}))) (key : P → ℕ × Gen) where
  -- The closure visits the chain of i in walk order; only values change.
  pub record IsChainVisited (f : F) (old : A) (i : ℕ) (new : A) : Type 0 where
    pub walk : List ℕ
    pub is_walk : IsWalk (interlinks old) i walk
    pub visits : VisitsWalk g key f (entry old) (entry new) walk
    pub links : interlinks new ≡ interlinks old
    pub pointers : map (λ e. e.0) (view new).entries ≡ map (λ e. e.0) (view old).entries
    pub view_after : view new ≡ record (view old) { entries = (view new).entries }

  -- `for_each_in_chain`: the chain of p is visited, if p is valid.
  abbrev pub VisitsChain : F → A → P → Option Unit → A → Type 0
  VisitsChain f old p None new = IsValid (entry old) (key p) → ⊥
  VisitsChain f old p (Some done) new = IsValid (entry old) (key p) × IsChainVisited f old (key p).0 new
