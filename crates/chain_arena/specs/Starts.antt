use Rattle.std.specs.Prelude.{◌≡◌, ◌↔◌, ◌⊎◌, ℕ, is_none, if◌then◌else◌, List, [], ◌∷◌, Some}
use Rattle.arena_traits.specs.Arena.{Arena, entry_at}
use Rattle.arena_traits.specs.Entries.{entries}
use Rattle.chain_laws.specs.Chains.{linear, IsChain}
use Rattle.chain_links.specs.ChainArena.{LinkView, link_map}

abbrev pub HasPointer : {Gen : Type 0} → List (ℕ × Gen) → ℕ × Gen → Type 0
HasPointer [] p = ⊥
HasPointer (q ∷ pointers) p = (q ≡ p) ⊎ HasPointer pointers p

module _ {Gen T : Type 0} where
  -- The entries without a previous link.
  abbrev pub starts_among : List ((ℕ × Gen) × LinkView T) → List (ℕ × Gen)
  starts_among [] = []
  starts_among (e ∷ es) = if is_none e.1.prev then e.0 ∷ starts_among es else starts_among es

  -- The starts, by ascending index.
  abbrev pub starts_of : Arena Gen (LinkView T) → List (ℕ × Gen)
  starts_of a = starts_among (entries a)

  -- Exactly the valid pointers to starts of linear chains.
  abbrev pub AreStarts : Arena Gen (LinkView T) → List (ℕ × Gen) → Type 0
  AreStarts a starts = (p : ℕ × Gen) → HasPointer starts p ↔ ((link : LinkView T) × (entry_at a p.0 ≡ Some (p.1, link)) × (xs : List ℕ) × IsChain (link_map a) (linear (p.0 ∷ xs)))
