use Rattle.std.specs.Prelude.{◌≡◌, ℕ, List, length, Option, Some}
use Rattle.std.specs.Option.{option_map}
use Rattle.arena_traits.specs.Arena.{Arena}
use Rattle.chain_laws.specs.Chains.{prev_of, next_of}
use Rattle.chain_laws.specs.Reversals.{with_turn, with_turns}
use Rattle.chain_laws.specs.Walks.{walk_ahead}
use Rattle.chain_links.specs.ChainArena.{LinkView, link_map, with_link_map}
use Rattle.chain_links.specs.Links.{links_view}
use Rattle.chain_links.specs.declared.links.RawLink.{RawLink}
use Rattle.chain_linking.specs.LinkWrites.{LinksBecome}

module _ {Gen T : Type 0} where
  -- The interlinks at i trade places.
  abbrev pub arena_with_turn : Arena Gen (LinkView T) → ℕ → Arena Gen (LinkView T)
  arena_with_turn a i = with_link_map a (with_turn (link_map a) i)

  abbrev pub arena_with_turns : Arena Gen (LinkView T) → List ℕ → Arena Gen (LinkView T)
  arena_with_turns a walk = with_link_map a (with_turns (link_map a) walk)

  abbrev pub walk_at : Arena Gen (LinkView T) → ℕ → List ℕ
  walk_at a i = walk_ahead (length a.slots) (link_map a) i (Some i) (prev_of (link_map a) i)

module _ {Gen K T : Type 0} (packed : K → Option ℕ) where
  -- The link at i is turned; its former interlinks are returned.
  abbrev pub TurnsLink : {I : Type 0} → (I → ℕ) → ℕ → Arena Gen (RawLink K T) → Option I × Option I → Arena Gen (RawLink K T) → Type 0
  TurnsLink number i old result new = record {
    prev : option_map number result.0 ≡ prev_of (link_map (links_view packed old)) i;
    next : option_map number result.1 ≡ next_of (link_map (links_view packed old)) i;
    links : LinksBecome packed (arena_with_turn (links_view packed old) i) old new;
  }

  -- The walk from i is turned.
  abbrev pub TurnsWalk : ℕ → (old new : Arena Gen (RawLink K T)) → Type 0
  TurnsWalk i old new = LinksBecome packed (arena_with_turns (links_view packed old) (walk_at (links_view packed old) i)) old new
