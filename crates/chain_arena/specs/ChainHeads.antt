use Rattle.std.specs.Prelude.{◌≡◌, ◌↔◌, ℕ, zero, suc, ◌≤◌, Bool, true, false, List, ◌∷◌, length, slice_index_or, None, Some}
use Rattle.std.specs.List.{AllZip}
use Rattle.arena_traits.specs.Arena.{Arena, IsValid}
use Rattle.chain_laws.specs.Chains.{Chain, linear, cyclic, items, first_or, IsMember, IsChain}
use Rattle.chain_laws.specs.Neighbors.{AreTheChains}
use Rattle.chain_links.specs.ChainArena.{LinkView, entry, link_map, IsWalkOf}
use Rattle.chain_arena.specs.declared.chains.ChainHead.{ChainHead}

abbrev pub is_ring : Chain → Bool
is_ring (linear xs) = false
is_ring (cyclic xs) = true

module _ {P Gen T : Type 0} (key : P → ℕ × Gen) (a : Arena Gen (LinkView T)) where
  -- The first pointer of a chain, and whether it is cyclic.
  pub record IsHead (c : Chain) (head : ChainHead P) : Type 0 where
    pub first : first_or (items c) None ≡ Some (key head.first).0
    pub valid : IsValid (entry a) (key head.first)
    pub ring : head.is_cyclic ≡ is_ring c

  -- The heads of all chains, by ascending least index.
  pub record AreAllHeads (heads : List (ChainHead P)) : Type 0 where
    pub chains : List Chain
    pub are : AreTheChains (link_map a) chains
    pub heads_are : AllZip IsHead chains heads

abbrev pub is_marked : List Bool → ℕ → Bool
is_marked marks zero = false
is_marked marks (suc k) = slice_index_or marks k false

module _ {P Gen T : Type 0} (key : P → ℕ × Gen) (a : Arena Gen (LinkView T)) where
  -- The chain of i is marked too, and `head` is its head.
  pub record MarksChain (i : ℕ) (old : List Bool) (head : ChainHead P) (new : List Bool) : Type 0 where
    pub long : length new ≡ length old
    pub unmarked : (c : Chain) → IsChain (link_map a) c → IsMember (items c) i
        → (j : ℕ) → (is_marked new j ≡ false) ↔ ((is_marked old j ≡ false) × (IsMember (items c) j → ⊥))
    pub in_linear : (xs : List ℕ) → IsChain (link_map a) (linear xs) → IsMember xs i → IsHead key a (linear xs) head
    pub in_cyclic : (xs : List ℕ) → IsChain (link_map a) (cyclic (i ∷ xs)) → IsHead key a (cyclic (i ∷ xs)) head

-- The walk from p is marked too, and `head` is its head.
abbrev pub MarksWalk : {P Gen T : Type 0} → (P → ℕ × Gen) → P → List (ℕ × (Gen × LinkView T)) → List Bool → ChainHead P → List Bool → Type 0
MarksWalk {P} {Gen} {T} key p links old head new = (a : Arena Gen (LinkView T)) → IsValid (entry a) (key p) → IsWalkOf a (key p).0 links → length a.slots ≤ length old
    → MarksChain key a (key p).0 old head new
