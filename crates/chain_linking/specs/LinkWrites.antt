use Rattle.std.specs.Prelude.{◌≡◌, ◌≢◌, ℕ, Bool, IsSome, IfSome, Option, None, Some}
use Rattle.std.specs.Option.{option_map, option_and_then}
use Rattle.arena_core.specs.Invalidation.{value_within, invalidation_result}
use Rattle.arena_core.specs.declared.invalidation.InvalidationResult.{InvalidationResult}
use Rattle.chain_laws.specs.Chains.{LinkMap, HasLink}
use Rattle.chain_laws.specs.Joins.{with_next_at, with_prev_at, with_neighbors}
use Rattle.arena_traits.specs.Arena.{Arena, entry_at}
use Rattle.chain_links.specs.declared.links.RawLink.{RawLink}
use Rattle.chain_links.specs.ChainArena.{LinkView, link_map, with_link_map, remove_link, entry, ptr_at}
use Rattle.chain_links.specs.Links.{link_view, links_view, pair_view, StayAtRest}

abbrev pub numbers : {I : Type 0} → (I → ℕ) → Option I × Option I → Option ℕ × Option ℕ
numbers number p = (option_map number p.0, option_map number p.1)

module _ {Gen T : Type 0} where
  -- The `next` at i is written.
  abbrev pub arena_with_next : Arena Gen (LinkView T) → Option ℕ → Option ℕ → Arena Gen (LinkView T)
  arena_with_next a i next = with_link_map a (with_next_at (link_map a) i next)

  -- The `prev` at i is written.
  abbrev pub arena_with_prev : Arena Gen (LinkView T) → Option ℕ → Option ℕ → Arena Gen (LinkView T)
  arena_with_prev a i prev = with_link_map a (with_prev_at (link_map a) i prev)

  -- The `next` at u, then the `prev` at v is written.
  abbrev pub arena_with_both : Arena Gen (LinkView T) → (u next v prev : Option ℕ) → Arena Gen (LinkView T)
  arena_with_both a u next v prev = with_link_map a (with_prev_at (with_next_at (link_map a) u next) v prev)

  -- v comes after u.
  abbrev pub arena_with_pair : Arena Gen (LinkView T) → Option ℕ → Option ℕ → Arena Gen (LinkView T)
  arena_with_pair a u v = with_link_map a (with_neighbors (link_map a) u v)

  -- p is linked, then q.
  abbrev pub arena_with_pairs : Arena Gen (LinkView T) → Option ℕ × Option ℕ → Option ℕ × Option ℕ → Arena Gen (LinkView T)
  arena_with_pairs a p q = with_link_map a (with_neighbors (with_neighbors (link_map a) p.0 p.1) q.0 q.1)

-- u and v, beside the link removed from i, have links, or both are i.
pub record WereBeside (link_map : LinkMap) (i : ℕ) (u v : Option ℕ) : Type 0 where
  pub gone : link_map i ≡ None
  pub before : u ≢ Some i → IfSome u (HasLink link_map)
  pub after : u ≢ Some i → IfSome v (HasLink link_map)
  pub ring : u ≡ Some i → v ≡ Some i

module _ {Gen K T : Type 0} (packed : K → Option ℕ) where
  -- The links become those of `after`, without new destinations.
  abbrev pub LinksBecome : Arena Gen (LinkView T) → (old new : Arena Gen (RawLink K T)) → Type 0
  LinksBecome after old new = record {
    links : links_view packed new ≡ after;
    at_rest : StayAtRest packed old.slots new.slots;
  }

  -- The pointers to a link's neighbors.
  abbrev pub PointsToNeighbors : {P : Type 0} → (P → ℕ × Gen) → Arena Gen (RawLink K T) → RawLink K T → Option P × Option P → Type 0
  PointsToNeighbors key a link result = record {
    prev : option_map key result.0 ≡ option_and_then (ptr_at (entry (links_view packed a))) (link_view packed link).prev;
    next : option_map key result.1 ≡ option_and_then (ptr_at (entry (links_view packed a))) (link_view packed link).next;
  }

  -- The link at i, if any, is removed and returned, and its former neighbors are linked.
  abbrev pub TakesLinkAt : (wraps : Gen → Bool) (following : Gen → Gen) → ℕ → Arena Gen (RawLink K T) → InvalidationResult (Gen × RawLink K T) → Arena Gen (RawLink K T) → Type 0
  TakesLinkAt wraps following i old result new = record {
    returned : option_map (pair_view packed) (value_within result) ≡ entry_at (links_view packed old) i;
    overflow : result ≡ invalidation_result (wraps old.counter) (value_within result);
    valid : IsSome (value_within result) → links_view packed new ≡ remove_link following (links_view packed old) i;
    invalid : value_within result ≡ None → new ≡ old;
    at_rest : StayAtRest packed old.slots new.slots;
  }

  module _ {I : Type 0} (number : I → ℕ) where
    -- The `next` at i, if any, is written.
    abbrev pub SetsNext : (i next : Option I) → (old new : Arena Gen (RawLink K T)) → Type 0
    SetsNext i next old new = LinksBecome (arena_with_next (links_view packed old) (option_map number i) (option_map number next)) old new

    -- The `prev` at i, if any, is written.
    abbrev pub SetsPrev : (i prev : Option I) → (old new : Arena Gen (RawLink K T)) → Type 0
    SetsPrev i prev old new = LinksBecome (arena_with_prev (links_view packed old) (option_map number i) (option_map number prev)) old new

    -- The `next` at `before`, then the `prev` at `after` is written.
    abbrev pub SetsBoth : (before next after prev : Option I) → (old new : Arena Gen (RawLink K T)) → Type 0
    SetsBoth before next after prev old new =
        LinksBecome (arena_with_both (links_view packed old) (option_map number before) (option_map number next) (option_map number after) (option_map number prev)) old new

    -- `next` comes after `prev`.
    abbrev pub LinksPair : (prev next : Option I) → (old new : Arena Gen (RawLink K T)) → Type 0
    LinksPair prev next old new = LinksBecome (arena_with_pair (links_view packed old) (option_map number prev) (option_map number next)) old new

    -- The first pair is linked, then the second.
    abbrev pub LinksPairs : (first second : Option I × Option I) → (old new : Arena Gen (RawLink K T)) → Type 0
    LinksPairs first second old new = LinksBecome (arena_with_pairs (links_view packed old) (numbers number first) (numbers number second)) old new
