-- Renumberings: each link gets a new pointer, and lists keep their order.
use Rattle.std.specs.Prelude.{◌≡◌, ◌↔◌, ℕ, false, List, map, IsSome, Option, Some}
use Rattle.chain_laws.specs.Chains.{LinkMap, Chain, linear, cyclic}
use Rattle.chain_laws.specs.Arrangements.{place_in}
use Rattle.arena_traits.specs.Arena.{IsValid}
use Rattle.arena_traits.specs.Entries.{ArenaView, ArenaState}
use Rattle.chain_links.specs.CanonicalLayouts.{IsCanonicalLayout}
use Rattle.chain_lists.specs.Lists.{Item, IsListOf}

-- The new key of each old pointer that was valid.
abbrev pub Moves : Type 0 → Type 0
Moves Gen = ℕ × Gen → Option (ℕ × Gen)

-- The items keep order and values under their new pointers.
abbrev pub AreItemsMoved : {Gen T : Type 0} → Moves Gen → (items after : List (Item Gen T)) → Type 0
AreItemsMoved {Gen} {T} move items after = map {B = Option (ℕ × Gen) × T} (λ e. (move e.0, e.1)) items ≡ map (λ e. (Some e.0, e.1)) after

module _ {A Gen T : Type 0} (first : Gen) (following : Gen → Gen) (view : A → ArenaView Gen T) (entry : A → ℕ → Option (Gen × T)) (links : A → LinkMap) (old new : A) (move : Moves Gen) where
  -- Lists keep their items under new pointers.
  abbrev pub MovesLists : (List ℕ → Chain) → Type 0
  MovesLists shape = (state : (a : A) → ArenaState (view a) (entry a)) (items : List (Item Gen T)) → IsListOf state links shape old items
      → (after : List (Item Gen T)) × AreItemsMoved move items after × IsListOf state links shape new after

  -- The links are arranged canonically, and `move` gives their new pointers.
  pub record IsRenumbered : Type 0 where
    pub layout : IsCanonicalLayout first following false (view old) (links old) (view new) (links new)
    -- Exactly the valid pointers have a new one, with the same value.
    pub valid : (p : ℕ × Gen) → IsSome (move p) ↔ IsValid (entry old) p
    pub values : (p q : ℕ × Gen) (t : T) → move p ≡ Some q → entry old p.0 ≡ Some (p.1, t) → entry new q.0 ≡ Some (q.1, t)
    -- New pointers differ, and every valid pointer is one.
    pub apart : (p r q : ℕ × Gen) → move p ≡ Some q → move r ≡ Some q → p ≡ r
    pub onto : (q : ℕ × Gen) → IsValid (entry new) q → (p : ℕ × Gen) × (move p ≡ Some q)
    pub placed : (p q : ℕ × Gen) → move p ≡ Some q → (place_in layout.indexes p.0 ≡ Some q.0) × (q.1 ≡ layout.generation)
    pub texts : MovesLists linear
    pub rings : MovesLists cyclic
