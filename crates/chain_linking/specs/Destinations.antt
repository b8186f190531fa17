use Rattle.std.specs.Prelude.{◌≡◌, ℕ, Option, None}
use Rattle.arena_traits.specs.Arena.{Arena}
use Rattle.chain_links.specs.declared.links.RawLink.{RawLink}
use Rattle.chain_links.specs.Links.{links_view, destination_at, AreAtRest}

module _ {Gen K T : Type 0} (packed : K → Option ℕ) where
  -- i has no destination, and no other link gains one.
  abbrev pub ClearsDestination : ℕ → (old new : Arena Gen (RawLink K T)) → Type 0
  ClearsDestination i old new = record {
    links : links_view packed new ≡ links_view packed old;
    cleared : destination_at packed new.slots i ≡ None;
    others : (j : ℕ) → destination_at packed old.slots j ≡ None → destination_at packed new.slots j ≡ None;
  }

  -- No link has a destination.
  abbrev pub ClearsDestinations : (old new : Arena Gen (RawLink K T)) → Type 0
  ClearsDestinations old new = record {
    links : links_view packed new ≡ links_view packed old;
    at_rest : AreAtRest packed new.slots;
  }
