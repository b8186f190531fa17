-- Insertions, as the traits state them.
use Rattle.std.proofs.Common.{◌≡◌, ℕ, ◌+◌, length, Option, Some, Result, Ok, Err, ap, sym, ◌∙◌, arith}
use Rattle.arena_core.specs.declared.errors.ReallocationError.{ReallocationError}
use Rattle.arena_traits.specs.Arena.{Arena, IsListed, next_index, insert_next, with_capacity_of, without_first}
use Rattle.arena_traits.specs.Entries.{Slots, entries, view_of}
use Rattle.arena_traits.specs.EntryLaws.{arena_state}
use Rattle.arena_traits.specs.Growth.{GrowsForOneMore}
use Rattle.arena_traits.specs.CallOutcomes.{IsEntryInserted, InsertsEntryWithin, InsertsEntry}
use Rattle.arena_traits.proofs.ArenaViewLemmas.{length-entries, count-filled}
use Rattle.arena_traits.proofs.InsertionLemmas.{inserted_at, length-filled}
use Rattle.arena_base.specs.Growths.{InsertsIfFree, InsertsAfterGrowth, InsertsGrowing}

module _ {Gen T : Type 0} (old new : Arena Gen T) (t : T) where
  entry_inserted : (p : ℕ × Gen) → IsListed old → p ≡ (next_index old, old.counter) → new ≡ with_capacity_of (insert_next old t) new → IsEntryInserted arena_state old t p new
  entry_inserted p listed key state = record {
    entries = inserted_at old new t p listed.free state key;
    more = ap (λ (a : Arena Gen T). length (entries a)) state
        ∙ (length-entries (insert_next old t) ∙ (count-filled old.freed old.slots (old.counter, t) listed.free ∙ ap (λ (n : ℕ). n + 1) (sym (length-entries old))));
    generation = ap (λ (k : ℕ × Gen). k.1) key;
    index = ap (λ (k : ℕ × Gen). k.0) key;
    slots = ap (λ (a : Arena Gen T). (view_of a).slots) state
        ∙ ap (λ (n : ℕ). let o : Option Slots = Some (record { count = n; freed = without_first old.freed; placed = old.placed + 1; touched = old.touched }) in o) (length-filled old.freed old.slots (old.counter, t));
    counter = ap (λ (a : Arena Gen T). let o : Option Gen = Some a.counter in o) state;
    maximum = ap (λ (a : Arena Gen T). a.maximum) state;
  }

  pub same_capacity : new ≡ insert_next old t → new ≡ with_capacity_of (insert_next old t) new
  same_capacity state = state ∙ ap (with_capacity_of (insert_next old t)) (sym state)

  pub inserts_within : {P E : Type 0} (key : P → ℕ × Gen) (r : Result P E) → IsListed old → InsertsIfFree key old t r new → InsertsEntryWithin arena_state key old t r new
  inserts_within key (Ok p) listed made = (made.free, entry_inserted (key p) listed made.key (same_capacity made.state), ap (λ (a : Arena Gen T). a.capacity) made.state)
  inserts_within key (Err why) listed full = full

  module _ (may_reach : ℕ → Option ℕ → ℕ → ℕ → Type 0) (greatest : ℕ) where
    grows_for_one : (p : ℕ × Gen) → InsertsAfterGrowth may_reach greatest old t p new → GrowsForOneMore greatest (view_of old) (view_of new)
    grows_for_one p made =
        let has = made.capacity.capacity.0 in
        let few = has.fits in (
          record { fits = omega (arith, few, length-entries old); at_most_greatest = has.at_most_greatest; within_maximum = has.within_maximum },
          λ enough. ap (λ (a : Arena Gen T). a.capacity) (made.within (omega (arith, enough, length-entries old))),
        )

    pub inserts_growing : {P : Type 0} (key : P → ℕ × Gen) (r : Result P ReallocationError) → IsListed old → InsertsGrowing may_reach greatest key old t r new → InsertsEntry arena_state key greatest old t r new
    inserts_growing key (Ok p) listed made = (entry_inserted (key p) listed made.key made.state, grows_for_one (key p) made)
    inserts_growing key (Err why) listed refused = refused
