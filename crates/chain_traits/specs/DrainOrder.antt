-- The order in which the links of an arena are drained.
use Rattle.std.specs.Prelude.{◌≡◌, ◌≢◌, ℕ, [], ◌+◌, ◌≤◌, Bool, Option, None, Some, IfSome, IfNone, is_some, IsSome}
use Rattle.arena_core.specs.Invalidation.{value_in, is_overflow}
use Rattle.arena_core.specs.declared.invalidation.InvalidationOption.{InvalidationOption}
use Rattle.chain_laws.specs.Chains.{LinkMap, IsWellLinked, prev_of, next_of}
use Rattle.chain_laws.specs.ChainStart.{IsStart}
use Rattle.chain_laws.specs.Removals.{with_removal}
use Rattle.chain_laws.specs.Walks.{step_forward}
use Rattle.arena_traits.specs.Entries.{ArenaView, found, view_after_removal, AscendsFrom}
use Rattle.arena_traits.specs.declared.cursor.Cursor.{Cursor}
use Rattle.arena_traits.specs.declared.cursor.Cursor.TheVariants.{Up}

-- The next chain, of the least index, is written from `here`, is cyclic if `ring`, and `after` is
-- behind that index.
pub record IsNextChain {Gen T : Type 0} (source : ArenaView Gen T) (interlinks : LinkMap) (here : ℕ) (ring : Bool) (after : Cursor) : Type 0 where
  pub least : ℕ
  pub stored : IsSome (found least source.entries)
  pub none_below : (j : ℕ) → IsSome (found j source.entries) → least ≤ j
  pub start : IsStart interlinks least here
  pub cyclic : ring ≡ is_some (prev_of interlinks here)
  pub cursor : after ≡ Up (least + 1)

module _ {Gen T : Type 0} (entry : ℕ → Option (Gen × T)) where
  -- `here` has a link, from which the chain of i is written.
  abbrev pub IsStoredStart : LinkMap → (i here : ℕ) → Type 0
  IsStoredStart interlinks i here = record {
    start : IsStart interlinks i here;
    some : IsSome (entry here);
  }

  -- `here` has a link, from which the next chain is written.
  abbrev pub IsStoredNextChain : ArenaView Gen T → LinkMap → ℕ → Bool → Cursor → Type 0
  IsStoredNextChain source interlinks here ring after = record {
    next : IsNextChain source interlinks here ring after;
    some : IsSome (entry here);
  }

module _ {Gen T : Type 0} (source : ArenaView Gen T) (interlinks : LinkMap) where
  -- The links are well linked; there are some, none behind the cursor.
  abbrev pub HasNextChain : Cursor → Type 0
  HasNextChain cursor = record {
    agree : IsWellLinked interlinks;
    low : (from : ℕ) × (cursor ≡ Up from) × AscendsFrom from source.entries;
    some : source.entries ≢ [];
  }

  module _ {Index : Type 0} (number : Index → ℕ) where
    -- The links are well linked; there is one at `on`, or a next chain if that is `None`.
    abbrev pub CanTakeNext : (ℕ → Option (Gen × T)) → Option Index → Cursor → Type 0
    CanTakeNext entry on cursor = record {
      agree : IsWellLinked interlinks;
      low : on ≡ None → (from : ℕ) × (cursor ≡ Up from) × AscendsFrom from source.entries;
      some : on ≡ None → source.entries ≢ [];
      stored : IfSome on (λ i. IsSome (entry (number i)));
    }

    -- The next link is the one at `on`, or if `None`, the first of the next chain.
    abbrev pub IsNextLink : Option Index → Bool → Cursor → ℕ → Bool → Cursor → Type 0
    IsNextLink on ring before here is_cyclic after = record {
      continues : IfSome on (λ i. (here ≡ number i) × (is_cyclic ≡ ring) × (after ≡ before));
      begins : IfNone on (IsNextChain source interlinks here is_cyclic after);
    }

module _ {Gen T : Type 0} (following : Gen → Gen) (wraps : Gen → Bool) (entry : ℕ → Option (Gen × T)) (old new : ArenaView Gen T) (interlinks interlinks_after : LinkMap) where
  -- The link at i was removed; `next` is the index of the one after it, unless itself.
  abbrev pub TakesLink : ℕ → Gen → InvalidationOption T → Option ℕ → Type 0
  TakesLink i generation value next = record {
    was_stored : entry i ≡ Some (generation, value_in value);
    overflow : IfSome old.counter (λ g. is_overflow value ≡ wraps g);
    next : next ≡ step_forward i (next_of interlinks i);
    view_after : new ≡ view_after_removal following old i;
    links : interlinks_after ≡ with_removal interlinks i;
  }
