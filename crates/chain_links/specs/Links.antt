use Rattle.std.specs.Prelude.{◌≡◌, ℕ, List, map, Option, None}
use Rattle.std.specs.Option.{option_and_then}
use Rattle.std.specs.Borrow.{Bor}
use Rattle.chain_laws.specs.Chains.{IsWellLinked}
use Rattle.arena_traits.specs.Arena.{Arena, slot_at}
use Rattle.chain_links.specs.ChainArena.{LinkView, on_value, with_each, link_map}
use Rattle.chain_links.specs.declared.links.RawLink.{RawLink}

module _ {K T : Type 0} where
  abbrev pub link_view : (K → Option ℕ) → RawLink K T → LinkView T
  link_view number link = record { prev = number link.prev; next = number link.next; value = link.t }

  abbrev pub held_in : RawLink K T → T
  held_in link = link.t

  -- The link has no destination.
  abbrev pub IsAtRest : (K → Option ℕ) → RawLink K T → Type 0
  IsAtRest number link = number link.destination ≡ None

-- A pointer's index.
abbrev pub index_in : {P Gen : Type 0} → (P → ℕ × Gen) → P → ℕ
index_in key p = (key p).0

module _ {Gen K T : Type 0} where
  abbrev pub pair_view : (K → Option ℕ) → Gen × RawLink K T → Gen × LinkView T
  pair_view number e = on_value (link_view number) e

  -- A generation and a borrowed link.
  abbrev pub borrowed_link : (K → Option ℕ) → Gen × Bor (RawLink K T) → Gen × LinkView T
  borrowed_link number e = (e.0, link_view number e.1.now)

  -- An arena of links.
  abbrev pub links_view : (K → Option ℕ) → Arena Gen (RawLink K T) → Arena Gen (LinkView T)
  links_view number a = with_each (link_view number) a

  -- Entries of links by ascending index.
  abbrev pub entry_views : (K → Option ℕ) → List ((ℕ × Gen) × RawLink K T) → List ((ℕ × Gen) × LinkView T)
  entry_views number es = map (on_value (link_view number)) es

  -- Entries with the values alone.
  abbrev pub held_entries : List ((ℕ × Gen) × RawLink K T) → List ((ℕ × Gen) × T)
  held_entries es = map (on_value held_in) es

module _ {Gen K T : Type 0} (number : K → Option ℕ) where
  -- The index that a link is to be moved to.
  abbrev pub destination_of : Gen × RawLink K T → Option ℕ
  destination_of e = number e.1.destination

  abbrev pub destination_at : List (Option (Gen × RawLink K T)) → ℕ → Option ℕ
  destination_at slots i = option_and_then destination_of (slot_at slots i)

  pub record AreAtRest (slots : List (Option (Gen × RawLink K T))) : Type 0 where
    pub none : (i : ℕ) → destination_at slots i ≡ None

  -- If no link had a destination, none has.
  abbrev pub StayAtRest : List (Option (Gen × RawLink K T)) → List (Option (Gen × RawLink K T)) → Type 0
  StayAtRest old new = AreAtRest old → AreAtRest new

  -- The interlinks agree, and no link has a destination.
  pub record IsChainArena (a : Arena Gen (RawLink K T)) : Type 0 where
    pub agree : IsWellLinked (link_map (links_view number a))
    pub at_rest : AreAtRest a.slots
