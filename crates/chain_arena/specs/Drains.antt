use Rattle.std.specs.Prelude.{◌≡◌, ℕ, zero, suc, Bool, List, [], ◌∷◌, length, map, MatchOption, Option, Some}
use Rattle.arena_core.specs.Invalidation.{value_in, is_overflow}
use Rattle.arena_core.specs.declared.invalidation.InvalidationOption.{InvalidationOption}
use Rattle.chain_laws.specs.Walks.{walk_from, TakesWalk}
use Rattle.arena_traits.specs.Arena.{Arena, entry_at}
use Rattle.arena_traits.specs.Entries.{entries, index_of}
use Rattle.arena_traits.specs.Advancers.{entries_at_or_above}
use Rattle.chain_links.specs.ChainArena.{LinkView, entry, link_map, values_of, remove_link}
use Rattle.chain_links.specs.ChainArena.{nonzero_index}
use Rattle.chain_links.specs.Links.{link_view}
use Rattle.chain_links.specs.declared.links.RawLink.{RawLink}

-- A generation after n increments.
abbrev pub after_times : {Gen : Type 0} → (Gen → Gen) → ℕ → Gen → Gen
after_times following zero g = g
after_times following (suc n) g = after_times following n (following g)

module _ {Gen T : Type 0} where
  -- The walk from a number, 0 for none.
  abbrev pub walk_left : Arena Gen (LinkView T) → ℕ → List ℕ
  walk_left a at = walk_from (length a.slots) (link_map a) (nonzero_index at)

  -- The arena after these removals, in order.
  abbrev pub without_each : (Gen → Gen) → Arena Gen (LinkView T) → List ℕ → Arena Gen (LinkView T)
  without_each following a [] = a
  without_each following a (i ∷ rest) = without_each following (remove_link following a i) rest

  -- The counter is incremented n times; slots and capacity stay.
  pub record CountsUp (following : Gen → Gen) (n : ℕ) (old new : Arena Gen (LinkView T)) : Type 0 where
    pub counter : new.counter ≡ after_times following n old.counter
    pub slots : length new.slots ≡ length old.slots
    pub capacity : new.capacity ≡ old.capacity
    pub stack_capacity : new.stack_capacity ≡ old.stack_capacity
    pub maximum : new.maximum ≡ old.maximum

  -- A walk is removed, in order; other chains stay.
  abbrev pub RemovesWalk : (Gen → Gen) → Arena Gen (LinkView T) → List ℕ → Arena Gen (LinkView T) → Type 0
  RemovesWalk following old walk new = (new ≡ without_each following old walk) × TakesWalk (link_map old) (link_map new) walk × CountsUp following (length walk) old new

  -- The links of these entries are removed, in order.
  abbrev pub RemovesEntries : (Gen → Gen) → Arena Gen (LinkView T) → List ((ℕ × Gen) × T) → Arena Gen (LinkView T) → Type 0
  RemovesEntries following old left new =
      (new ≡ without_each following old (map index_of left)) × CountsUp following (length left) old new × (left ≡ entries (values_of old) → entries (values_of new) ≡ [])

  -- The entries from an index on, 0 for none.
  abbrev pub entries_left : Arena Gen (LinkView T) → ℕ → List ((ℕ × Gen) × T)
  entries_left a zero = []
  entries_left a (suc k) = entries_at_or_above (suc k) (entries (values_of a))

-- A removed entry's item, with the overflow.
abbrev pub YieldsRemoved : {P Gen L : Type 0} → (P → ℕ × Gen) → ℕ → Gen × L → Bool → InvalidationOption (P × L) → Type 0
YieldsRemoved key i entry overflow item = (key (value_in item).0 ≡ (i, entry.0)) × ((value_in item).1 ≡ entry.1) × (is_overflow item ≡ overflow)

module _ {P Gen K T : Type 0} (key : P → ℕ × Gen) (number : K → Option ℕ) (following : Gen → Gen) (wraps : Gen → Bool) where
  -- The link at `at` is removed and returned; the walk goes on at `next`.
  pub record IsDrainStep (old : Arena Gen (LinkView T)) (at : ℕ) (returned : InvalidationOption (P × RawLink K T)) (new : Arena Gen (LinkView T)) (next : ℕ) : Type 0 where
    pub index : (key (value_in returned).0).0 ≡ at
    pub stored : entry_at old at ≡ Some ((key (value_in returned).0).1, link_view number (value_in returned).1)
    pub overflow : is_overflow returned ≡ wraps old.counter
    pub state : new ≡ remove_link following old at
    pub walk : walk_left old at ≡ at ∷ walk_left new next

  -- `next` changes nothing if nothing is left, and else makes a step.
  abbrev pub DrainSteps : Arena Gen (LinkView T) → ℕ → Option (InvalidationOption (P × RawLink K T)) → Arena Gen (LinkView T) → ℕ → Type 0
  DrainSteps old at returned new next = MatchOption returned ((walk_left old at ≡ []) × (new ≡ old) × (next ≡ at)) (λ gone. IsDrainStep old at gone new next)

module _ {P Gen T : Type 0} (key : P → ℕ × Gen) (following : Gen → Gen) (wraps : Gen → Bool) where
  -- The link at an index is removed and returned.
  pub record IsLinkTaken (old : Arena Gen (LinkView T)) (i : ℕ) (returned : InvalidationOption (P × T)) (new : Arena Gen (LinkView T)) : Type 0 where
    pub index : (key (value_in returned).0).0 ≡ i
    pub stored : entry old i ≡ Some ((key (value_in returned).0).1, (value_in returned).1)
    pub overflow : is_overflow returned ≡ wraps old.counter
    pub state : new ≡ remove_link following old i

  -- The first link left is removed and returned.
  pub record IsLinkDrainStep (old : Arena Gen (LinkView T)) (at : ℕ) (returned : InvalidationOption (P × T)) (new : Arena Gen (LinkView T)) (next : ℕ) : Type 0 where
    pub left : entries_left old at ≡ (key (value_in returned).0, (value_in returned).1) ∷ entries_left new next
    pub overflow : is_overflow returned ≡ wraps old.counter
    pub state : new ≡ remove_link following old (key (value_in returned).0).0
    pub all : entries_left old at ≡ entries (values_of old) → entries_left new next ≡ entries (values_of new)

  -- `next` changes nothing if no link is left, and else makes a step.
  abbrev pub LinkDrainSteps : Arena Gen (LinkView T) → ℕ → Option (InvalidationOption (P × T)) → Arena Gen (LinkView T) → ℕ → Type 0
  LinkDrainSteps old at returned new next = MatchOption returned ((entries_left old at ≡ []) × (new ≡ old) × (next ≡ at)) (λ gone. IsLinkDrainStep old at gone new next)
