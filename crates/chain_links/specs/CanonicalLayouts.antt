use Rattle.std.specs.Prelude.{◌≡◌, ℕ, ◌+◌, ◌*◌, Bool, List, map, length, All, Option, Some, IfSome}
use Rattle.std.specs.Option.{option_map}
use Rattle.std.specs.List.{range_with_len}
use Rattle.chain_laws.specs.Chains.{LinkMap, AreChains}
use Rattle.chain_laws.specs.Renamings.{IsRenaming}
use Rattle.chain_laws.specs.Arrangements.{place_in, in_runs, IsLeastIndexOrder}
use Rattle.arena_traits.specs.Entries.{ArenaView, Slots, found, index_of}
use Rattle.arena_traits.specs.Compressions.{counter_after_compression, values_in, AreFilledAnew, IfKnown}

-- `count` links fill as many slots, each placed once, with at most four touches per old slot and
-- twelve per link.
abbrev pub AreCompactedCanonically : ℕ → Option Slots → Option Slots → Type 0
AreCompactedCanonically count = IfKnown (λ old. AreFilledAnew count (4 * old.count + 12 * count) old)

-- A bijection moves all links to the first indexes, each chain in one run, with values and
-- neighbors kept.
pub record IsCanonicalLayout {Gen T : Type 0} (first : Gen) (following : Gen → Gen) (reset : Bool) (old : ArenaView Gen T) (links : LinkMap) (new : ArenaView Gen T) (new_links : LinkMap) : Type 0 where
  -- Chains by least index, linear from the start, cyclic from the least index.
  pub indexes : List ℕ
  pub order : IsLeastIndexOrder links indexes
  pub renamed : IsRenaming (place_in indexes) links new_links
  pub new_chains : AreChains new_links (in_runs 1 order.chains)
  pub new_indexes : map index_of new.entries ≡ range_with_len 1 (length old.entries)
  pub values : map (λ t. Some t) (values_in new.entries) ≡ map (λ i. option_map (λ e. e.1) (found i old.entries)) indexes
  pub counter : new.counter ≡ option_map (counter_after_compression first following reset (length old.entries)) old.counter
  pub generation : Gen
  pub generations : All (λ e. e.0.1 ≡ generation) new.entries
  pub is_counter : IfSome new.counter (λ g. g ≡ generation)
  pub slots : AreCompactedCanonically (length old.entries) old.slots new.slots
  pub capacity : new.capacity ≡ old.capacity
  pub maximum : new.maximum ≡ old.maximum
