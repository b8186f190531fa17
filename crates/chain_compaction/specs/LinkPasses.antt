-- What a pass over all links requires.
use Rattle.std.specs.Prelude.{◌≡◌, ℕ, ◌≤◌, ◌<◌, Option, length, count_by, is_some}
use Rattle.std.specs.List.{range_with_len}
use Rattle.chain_laws.specs.Chains.{IsWellLinked}
use Rattle.chain_laws.specs.Arrangements.{IsCanonical}
use Rattle.arena_base.specs.declared.compactor.Compactor.{Compactor}
use Rattle.chain_links.specs.declared.links.RawLink.{RawLink}
use Rattle.chain_links.specs.Links.{AreAtRest}
use Rattle.chain_compaction.specs.DetachedLinks.{link_map_in}

-- The slot at position k exists, in at most `greatest` slots.
abbrev pub HasPosition : {V E S I Gen W : Type 0} → (greatest k : ℕ) → Compactor V E S I Gen W → Type 0
HasPosition greatest k now = record {
  at : k < length now.detached.slots;
  fits : length now.detached.slots ≤ greatest;
}

module _ {V S I W Gen K T : Type 0} (number : K → Option ℕ) where
  -- Each slot holds a link, in canonical order.
  abbrev pub AreInOrder : Compactor V (RawLink K T) S I Gen W → Type 0
  AreInOrder now = IsCanonical (link_map_in number now.detached.slots) (range_with_len 1 (length now.detached.slots))

  module _ (greatest : ℕ) where
    -- The links are well linked, in at most `greatest` slots.
    abbrev pub AreSoundLinks : Compactor V (RawLink K T) S I Gen W → Type 0
    AreSoundLinks now = record {
      fits : length now.detached.slots ≤ greatest;
      agree : IsWellLinked (link_map_in number now.detached.slots);
    }

    -- The links are well linked in canonical order, in at most `greatest` slots.
    abbrev pub CanRenew : Compactor V (RawLink K T) S I Gen W → Type 0
    CanRenew now = record {
      fits : length now.detached.slots ≤ greatest;
      agree : IsWellLinked (link_map_in number now.detached.slots);
      canonical : AreInOrder now;
    }

    -- `count` links are well linked, without destinations, in at most `greatest` slots.
    abbrev pub CanArrange : Compactor V (RawLink K T) S I Gen W → ℕ → Type 0
    CanArrange now count = record {
      links : count ≡ count_by is_some now.detached.slots;
      fits : length now.detached.slots ≤ greatest;
      agree : IsWellLinked (link_map_in number now.detached.slots);
      at_rest : AreAtRest number now.detached.slots;
    }
