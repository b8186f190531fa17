-- A transfer into an arena that was grown and cleared.
use Rattle.std.proofs.Common.{◌≡◌, ◌<◌, ◌≤◌, inl, Bool, ℕ, Option, Result, Ok, Err, OnErr, arith, length, refl, ap, sym, ◌∙◌, subst}
use Rattle.std.specs.Fn.{Mut}
use Rattle.arena_core.specs.SlotStack.{IsBeyond, IsWithinMaximum}
use Rattle.arena_core.specs.declared.errors.ReallocationError.{ReallocationError}
use Rattle.arena_core.specs.declared.errors.ReallocationError.TheVariants as refused
use Rattle.arena_core.specs.declared.invalidation.InvalidationOption.{InvalidationOption}
use Rattle.chain_laws.specs.Chains.{LinkMap}
use Rattle.arena_traits.specs.Arena.{Arena, HasCapacityFor, IsWithinReach, ReachesCapacity, arena_after_clear, with_capacity_of, with_counter}
use Rattle.arena_traits.specs.Entries.{ArenaView}
use Rattle.arena_traits.specs.Growth.{Reserves}
use Rattle.arena_traits.proofs.CallOutcomeLemmas.{not_beyond}
use Rattle.chain_links.specs.ChainArena.{LinkView, value_view}
use Rattle.chain_arena.specs.Effects.{IsEmptyWithCapacity, SucceedsOrRefuses}
use Rattle.chain_arena.specs.Transfers.{IsTransfer}

module _ {Gen T : Type 0} (may_reach : ℕ → Option ℕ → ℕ → ℕ → Type 0) (greatest n : ℕ) where
  abbrev Grows : Arena Gen (LinkView T) → Arena Gen (LinkView T) → Result (Unit {0}) ReallocationError → Type 0
  Grows old new r = SucceedsOrRefuses n greatest old.maximum (ReachesCapacity may_reach greatest n old new) (new ≡ old) r

  pub suffices : (old : Arena Gen (LinkView T)) → n ≤ old.capacity → HasCapacityFor greatest (length old.slots) old → Grows old old (Ok tt)
  suffices old few held = (
    record { capacity = (record { fits = few; at_most_greatest = held.0.at_most_greatest; within_maximum = held.0.within_maximum }, held.1, held.2); reached = inl refl },
    omega (arith, few, held.0.at_most_greatest),
    not_beyond old.maximum n old.capacity few held.0.within_maximum,
  )

  pub above_greatest : (old : Arena Gen (LinkView T)) → greatest < n → Grows old old (Err refused.AllocError)
  above_greatest old over = ((λ within beyond. omega (arith, over, within)), refl)

  pub grows_within : (old new : Arena Gen (LinkView T)) (r : Result (Unit {0}) ReallocationError) → n ≤ greatest → Reserves greatest n (value_view old) r (value_view new) → OnErr r (new ≡ old) → IsWithinReach may_reach n old new → HasCapacityFor greatest (length new.slots) new → Grows old new r
  grows_within old new (Ok success) within outcome err reached held =
      let most : new.maximum ≡ old.maximum = ap (λ (v : ArenaView Gen T). v.maximum) outcome.0 in (
        record { capacity = (outcome.1.0, held.1, held.2); reached = reached },
        within,
        not_beyond old.maximum n new.capacity outcome.1.0.fits (subst (λ (o : Option ℕ). IsWithinMaximum o new.capacity) most outcome.1.0.within_maximum),
      )
  grows_within old new (Err refused.BeyondMaxCapacity) within outcome err reached held = (within, outcome.1, err)
  grows_within old new (Err refused.AllocError) within outcome err reached held = ((λ _ over. outcome.1 over), err)

pub refused_alike : {S K : Type 0} (greatest n m : ℕ) (maximum : Option ℕ) (why : ReallocationError) → n ≡ m → (S → K) → SucceedsOrRefuses n greatest maximum (Unit {0}) S (Err why) → SucceedsOrRefuses m greatest maximum (Unit {0}) K (Err why)
refused_alike greatest n m maximum refused.BeyondMaxCapacity same kept outcome = (subst (λ (k : ℕ). k ≤ greatest) same outcome.0, subst (IsBeyond maximum) same outcome.1, kept outcome.2)
refused_alike greatest n m maximum refused.AllocError same kept outcome = (subst (λ (k : ℕ). k ≤ greatest → IsBeyond maximum k → ⊥) same outcome.0, kept outcome.1)

module _ {Gen T : Type 0} (following : Gen → Gen) (generation : Gen) (old grown clear set new : Arena Gen (LinkView T)) (is_grown : grown ≡ with_capacity_of old grown)
    (is_clear : clear ≡ arena_after_clear following grown) (is_set : set ≡ with_counter clear generation) where
  emptied : set ≡ with_counter (arena_after_clear following (with_capacity_of old grown)) generation
  emptied = is_set ∙ (ap (λ (a : Arena Gen (LinkView T)). with_counter a generation) is_clear ∙ ap (λ (a : Arena Gen (LinkView T)). with_counter (arena_after_clear following a) generation) is_grown)

  pub emptied_with : (greatest n m : ℕ) → n ≡ m → HasCapacityFor greatest n grown → IsEmptyWithCapacity greatest m set
  emptied_with greatest n m same held =
      let capacity : set.capacity ≡ grown.capacity = ap (λ (a : Arena Gen (LinkView T)). a.capacity) emptied in (
        ap (λ (a : Arena Gen (LinkView T)). a.slots) emptied,
        ap (λ (a : Arena Gen (LinkView T)). a.freed) emptied,
        omega (arith, held.0.fits, same, capacity),
        omega (arith, held.0.at_most_greatest, capacity),
      )

  module _ {Q P G U F : Type 0} (key : Q → ℕ × G) (new_key : P → ℕ × Gen) (next : G → G) (wraps : G → Bool) (call : Mut F (Q × (InvalidationOption U × (P × Unit {0}))) T) (f : F) (source : ArenaView G U) (links : LinkMap) (source_after : ArenaView G U) where
    pub transferred_grown : IsTransfer key new_key next wraps call set.counter f source links source_after set new → IsTransfer key new_key next wraps call generation f source links source_after old new
    transferred_grown moved =
        let t = subst (λ (a : Arena Gen (LinkView T)). IsTransfer key new_key next wraps call a.counter f source links source_after a new) emptied moved in record {
          transferred = t.transferred;
          order = t.order;
          keys = t.keys;
          renamed = t.renamed;
          last = t.last;
          in_turn = t.in_turn;
          was_stored = t.was_stored;
          overflow = t.overflow;
          values = t.values;
          slots = t.slots;
          state = t.state;
          removals = t.removals;
          empty = t.empty;
        }

  module _ (capacity : new.capacity ≡ set.capacity) (stack_capacity : new.stack_capacity ≡ set.stack_capacity) where
    kept_capacity : new.capacity ≡ grown.capacity
    kept_capacity = capacity ∙ ap (λ (a : Arena Gen (LinkView T)). a.capacity) emptied

    kept_stack : new.stack_capacity ≡ grown.stack_capacity
    kept_stack = stack_capacity ∙ ap (λ (a : Arena Gen (LinkView T)). a.stack_capacity) emptied

    pub capacity_grown : (greatest n m : ℕ) → n ≡ m → new.maximum ≡ old.maximum → HasCapacityFor greatest n grown → HasCapacityFor greatest m new
    capacity_grown greatest n m same maximum held =
        let kept_maximum : new.maximum ≡ grown.maximum = maximum ∙ sym (ap (λ (a : Arena Gen (LinkView T)). a.maximum) is_grown) in
        rw (kept_maximum, kept_capacity, kept_stack, ← same) held

    pub reach_grown : (may_reach : ℕ → Option ℕ → ℕ → ℕ → Type 0) (n m : ℕ) → n ≡ m → IsWithinReach may_reach n old grown → IsWithinReach may_reach m old new
    reach_grown may_reach n m same reached = rw (kept_stack, ← same) reached

    pub same_grown : grown ≡ old → (new.capacity ≡ old.capacity) × (new.stack_capacity ≡ old.stack_capacity)
    same_grown same = (kept_capacity ∙ ap (λ (a : Arena Gen (LinkView T)). a.capacity) same, kept_stack ∙ ap (λ (a : Arena Gen (LinkView T)). a.stack_capacity) same)
