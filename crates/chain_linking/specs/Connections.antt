use Rattle.std.specs.Prelude.{◌≡◌, ◌↔◌, ℕ, IsSome, IfNone, OnSome, Option, Some}
use Rattle.std.specs.Option.{option_map}
use Rattle.arena_traits.specs.Arena.{Arena, IsValid}
use Rattle.chain_laws.specs.Chains.{prev_of, next_of}
use Rattle.chain_laws.specs.MoveAfter.{with_move_after}
use Rattle.chain_laws.specs.Splices.{with_splice}
use Rattle.chain_links.specs.declared.links.RawLink.{RawLink}
use Rattle.chain_links.specs.ChainArena.{link_map, with_link_map, entry, CanConnect}
use Rattle.chain_links.specs.Links.{links_view, StayAtRest}
use Rattle.chain_linking.specs.LinkWrites.{arena_with_pair, LinksBecome}

module _ {Gen K T : Type 0} (packed : K → Option ℕ) where
  -- The index after p, if both exist.
  abbrev pub IsNextOf : {I : Type 0} → (I → ℕ) → ℕ × Gen → Arena Gen (RawLink K T) → Option I → Type 0
  IsNextOf number p now result = record {
    neighbor : IsValid (entry (links_view packed now)) p → option_map number result ≡ next_of (link_map (links_view packed now)) p.0;
    some : IsSome result → IsValid (entry (links_view packed now)) p;
  }

  -- The index before p, if both exist.
  abbrev pub IsPrevOf : {I : Type 0} → (I → ℕ) → ℕ × Gen → Arena Gen (RawLink K T) → Option I → Type 0
  IsPrevOf number p now result = record {
    neighbor : IsValid (entry (links_view packed now)) p → option_map number result ≡ prev_of (link_map (links_view packed now)) p.0;
    some : IsSome result → IsValid (entry (links_view packed now)) p;
  }

  -- The interlinks of the link at i.
  abbrev pub ReadsBeside : {I : Type 0} → (I → ℕ) → ℕ → Arena Gen (RawLink K T) → Option I × Option I → Type 0
  ReadsBeside number i now result = record {
    prev : option_map number result.0 ≡ prev_of (link_map (links_view packed now)) i;
    next : option_map number result.1 ≡ next_of (link_map (links_view packed now)) i;
  }

  -- The run from `first` to `last` is moved after p.
  abbrev pub SplicesLinks : (p first last : ℕ) → (old new : Arena Gen (RawLink K T)) → Type 0
  SplicesLinks p first last old new = LinksBecome packed (with_link_map (links_view packed old) (with_splice (link_map (links_view packed old)) p first last)) old new

  -- The link at i is moved after j.
  abbrev pub MovesLink : (i j : ℕ) → (old new : Arena Gen (RawLink K T)) → Type 0
  MovesLink i j old new = LinksBecome packed (with_link_map (links_view packed old) (with_move_after (link_map (links_view packed old)) i j)) old new

  -- q comes after p, or nothing changes.
  abbrev pub JoinsLinks : (p q : ℕ × Gen) → Arena Gen (RawLink K T) → Option Unit → Arena Gen (RawLink K T) → Type 0
  JoinsLinks p q old result new = record {
    some : IsSome result ↔ CanConnect (entry (links_view packed old)) (link_map (links_view packed old)) p q;
    joined : OnSome result (links_view packed new ≡ arena_with_pair (links_view packed old) (Some p.0) (Some q.0));
    none : IfNone result (links_view packed new ≡ links_view packed old);
    at_rest : StayAtRest packed old.slots new.slots;
  }
