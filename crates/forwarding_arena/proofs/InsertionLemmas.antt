-- What an insertion into the other arena did, it did in this one.
use Rattle.std.proofs.Common.{ℕ, Option}
use Rattle.std.specs.Prelude.{Result, Ok, Err}
use Rattle.arena_core.specs.declared.errors.ChainInsertionError.{ChainInsertionError}
use Rattle.arena_core.specs.declared.errors.ReallocationError.{ReallocationError}
use Rattle.arena_traits.specs.CallOutcomes.{IsEntryInserted, InsertsEntryWithin, InsertsEntry}
use Rattle.arena_traits.specs.Entries.{ArenaView, ArenaState}
use Rattle.chain_laws.specs.Chains.{LinkMap}
use Rattle.chain_links.specs.Insertions.{IsInsertedBetween, IsInsertionWithinResult}

pub forwarded : {A B Gen T : Type 0} {view : A → ArenaView Gen T} {entry : A → ℕ → Option (Gen × T)} (state : (a : A) → ArenaState (view a) (entry a)) (interlinks : A → LinkMap) (inner : B → A) (old new : B) (u v : Option ℕ) (t : T) (p : ℕ × Gen)
    → IsInsertedBetween state interlinks u v (inner old) t p (inner new) → IsInsertedBetween (λ b. state (inner b)) (λ b. interlinks (inner b)) u v old t p new
forwarded state interlinks inner old new u v t p is = record {
  entries = is.entries;
  links = is.links;
  pairs = is.pairs;
  chains = is.chains;
  more = is.more;
  generation = is.generation;
  index = is.index;
  slots = is.slots;
  counter = is.counter;
  maximum = is.maximum;
}

module _ {A B Gen T P : Type 0} {view : A → ArenaView Gen T} {entry : A → ℕ → Option (Gen × T)} (state : (a : A) → ArenaState (view a) (entry a)) (inner : B → A) (key : P → ℕ × Gen) (old new : B) (t : T) where
  entry_forwarded : (p : ℕ × Gen) → IsEntryInserted state (inner old) t p (inner new) → IsEntryInserted (λ b. state (inner b)) old t p new
  entry_forwarded p is = record {
    entries = is.entries;
    more = is.more;
    generation = is.generation;
    index = is.index;
    slots = is.slots;
    counter = is.counter;
    maximum = is.maximum;
  }

  pub within_forwarded : {E : Type 0} (o : Result P E) → InsertsEntryWithin state key (inner old) t o (inner new) → InsertsEntryWithin (λ b. state (inner b)) key old t o new
  within_forwarded (Ok p) is = (is.0, entry_forwarded (key p) is.1, is.2)
  within_forwarded (Err e) is = is

  pub growing_forwarded : (greatest : ℕ) (o : Result P ReallocationError) → InsertsEntry state key greatest (inner old) t o (inner new) → InsertsEntry (λ b. state (inner b)) key greatest old t o new
  growing_forwarded greatest (Ok p) is = (entry_forwarded (key p) is.0, is.1)
  growing_forwarded greatest (Err e) is = is

pub within_to : {P : Type 0} (may has_capacity full : Type 0) (done done' : P → Type 0) (o : Result P ChainInsertionError) → IsInsertionWithinResult may has_capacity full done o → ((p : P) → done p → done' p) → IsInsertionWithinResult may has_capacity full done' o
within_to may has_capacity full done done' (Ok p) is so = (is.0, is.1, so p is.2)
within_to may has_capacity full done done' (Err e) is so = is
