use Rattle.std.specs.Prelude.{◌≡◌, ℕ, List, [], ◌∷◌, length, Option, None, Some, IfSome, IfNone}
use Rattle.std.specs.Option.{option_map}
use Rattle.std.specs.Borrow.{Bor}
use Rattle.chain_laws.specs.Chains.{LinkMap}
use Rattle.chain_laws.specs.Walks.{Walker, walk_ahead, step_of}
use Rattle.chain_laws.specs.WalksBack.{back_ahead, end_of}
use Rattle.chain_links.specs.declared.links.RawLink.{RawLink}
use Rattle.arena_traits.specs.Arena.{Arena, entry_at, IsValid}
use Rattle.chain_links.specs.ChainArena.{LinkView, link_map}
use Rattle.chain_links.specs.Links.{link_view}

module _ {Gen T : Type 0} where
  -- The links at these indexes, up to the first without one.
  abbrev pub links_at : Arena Gen (LinkView T) → List ℕ → List (ℕ × (Gen × LinkView T))
  links_at a [] = []
  links_at a (i ∷ indexes) = elim (entry_at a i) [ None ↦ [] | Some e ↦ (i, e) ∷ links_at a indexes ]

  -- The links ahead of a walker from `start`, now at `forward` and `back`.
  abbrev pub links_ahead : Arena Gen (LinkView T) → ℕ → ℕ → Option ℕ → Option ℕ → List (ℕ × (Gen × LinkView T))
  links_ahead a left start forward back = links_at a (walk_ahead left (link_map a) start forward back)

  -- The end of a linear chain, or the link before `start`.
  abbrev pub end_in : Arena Gen (LinkView T) → ℕ → ℕ
  end_in a start = end_of (length a.slots) (link_map a) start

  -- The links ahead of a walker backwards from `start`, now at `at`.
  abbrev pub links_back_ahead : Arena Gen (LinkView T) → ℕ → ℕ → Option ℕ → List (ℕ × (Gen × LinkView T))
  links_back_ahead a left start at = links_at a (back_ahead left (link_map a) start (end_in a start) at)

module _ {Gen T : Type 0} where
  abbrev pub index_and_entry : ℕ → Gen × LinkView T → ℕ × (Gen × LinkView T)
  index_and_entry i e = (i, e)

module _ {P Gen K T : Type 0} where
  -- A yielded pointer and link.
  abbrev pub item_view : (P → ℕ × Gen) → (K → Option ℕ) → P × Bor (RawLink K T) → ℕ × (Gen × LinkView T)
  item_view key number item = ((key item.0).0, ((key item.0).1, link_view number item.1.now))

-- A call of an advancer takes one step, or none is left.
pub record IsPassing {Gen T : Type 0} (entry : ℕ → Option (Gen × T)) (interlinks : LinkMap) (old : Walker) (returned : Option (ℕ × Gen)) (new : Walker) : Type 0 where
  pub passed : IfSome returned (λ p. IsValid entry p × (step_of interlinks old ≡ Some (p.0, new)))
  pub spent : IfNone returned (new.left ≡ 0)
  pub end : IfNone returned (IfSome (step_of interlinks old) (λ step. entry step.0 ≡ None))

-- An advancer's walker.
abbrev pub walker_of : {I : Type 0} → (I → ℕ) → ℕ → I → Option I → Option I → Walker
walker_of number left start forward back = record { left = left; start = number start; forward = option_map number forward; back = option_map number back }
