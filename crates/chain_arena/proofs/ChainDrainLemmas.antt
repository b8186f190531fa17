-- A drain of a chain removes the walk step by step.
use Rattle.std.proofs.Common.{◌≡◌, ℕ, zero, suc, ◌<◌, arith, Bool, true, false, List, [], ◌∷◌, length, Option, None, Some, refl, ap, ap₂, sym, ◌∙◌, subst}
use Rattle.std.specs.Prelude.{is_some}
use Rattle.std.specs.Option.{option_map}
use Rattle.arena_core.specs.Invalidation.{value_in, is_overflow, value_within, is_overflow_result, invalidation_result}
use Rattle.arena_core.specs.declared.invalidation.InvalidationOption.{InvalidationOption}
use Rattle.arena_core.specs.declared.invalidation.InvalidationResult.{InvalidationResult}
use Rattle.chain_laws.specs.Chains.{LinkMap, IsWellLinked, HasLink, prev_in, next_in}
use Rattle.chain_laws.specs.Removals.{with_removal}
use Rattle.chain_laws.specs.Walks.{IsWalk, rest_start, rest_start_of, walk_from, with_removals, TakesWalk}
use Rattle.chain_laws.proofs.WalkLemmas.Drains.{walk_from-walk, walk_from-none, walk_from-next, walk_is_taken}
use Rattle.arena_traits.specs.Arena.{Arena, entry_at, remove_at}
use Rattle.arena_traits.specs.Arena.{IsValid}
use Rattle.arena_traits.proofs.ArenaViewLemmas.{length-with_slot}
use Rattle.chain_links.specs.ChainArena.{LinkView, link_map, on_value, link_value as detached_value, interlinks_of, values_of, link_of, link_at, remove_link}
use Rattle.chain_links.specs.ChainArena.{nonzero_index}
use Rattle.chain_links.specs.Links.{link_view}
use Rattle.chain_arena.specs.Drains.{walk_left, without_each, IsDrainStep, CountsUp}
use Rattle.chain_links.specs.declared.links.RawLink.{RawLink}
use Rattle.chain_links.proofs.MappedArenaLemmas.{entry_at-with_each}
use Rattle.chain_links.proofs.LinkStateLemmas.{length-with_link_map}
use Rattle.chain_links.proofs.ArenaInsertionLemmas.{link_map-within}
use Rattle.chain_linking.proofs.UnlinkLemmas.{passes_over, link_map-remove_link}

pub is_overflow_result-made : {X : Type 0} (overflow : Bool) (x : X) → is_overflow_result (invalidation_result overflow (Some x)) ≡ overflow
is_overflow_result-made true x = refl
is_overflow_result-made false x = refl

no_walk_is_taken : (link_map : LinkMap) → TakesWalk link_map link_map []
no_walk_is_taken link_map = record { gone = λ j h. absurd h; rest = λ j none. refl; chains = λ c. (λ chain. (chain, λ j h. absurd h), λ both. both.0) }

pub nonzero_index-is : (n i : ℕ) → nonzero_index n ≡ Some i → n ≡ i
nonzero_index-is zero i is = absurd (cc)
nonzero_index-is (suc n) i is = cc

module _ {Gen T : Type 0} where
  pub link_at-entry : (a : Arena Gen (LinkView T)) (i : ℕ) → link_at (entry_at (values_of a)) (link_map a) i ≡ entry_at a i
  link_at-entry a i = ap (λ (o : Option (Gen × T)). link_of o (link_map a i)) (entry_at-with_each detached_value a i) ∙ whole (entry_at a i) where
    whole : (o : Option (Gen × LinkView T)) → link_of (option_map (on_value detached_value) o) (option_map interlinks_of o) ≡ o
    whole None = refl
    whole (Some e) = refl

  nonzero_index-stored : (a : Arena Gen (LinkView T)) (i : ℕ) (e : Gen × LinkView T) → entry_at a i ≡ Some e → nonzero_index i ≡ Some i
  nonzero_index-stored a zero e stored = absurd (cc)
  nonzero_index-stored a (suc k) e stored = refl

  stored-valid : (a : Arena Gen (LinkView T)) (i : ℕ) (e : Gen × LinkView T) → entry_at a i ≡ Some e → HasLink (link_map a) i
  stored-valid a i e stored = record { link = interlinks_of e; links = ap (option_map interlinks_of) stored }

  walk_left-walk : (a : Arena Gen (LinkView T)) (i : ℕ) (e : Gen × LinkView T) → IsWellLinked (link_map a) → entry_at a i ≡ Some e → IsWalk (link_map a) i (walk_left a i)
  walk_left-walk a i e agrees stored =
      subst (λ (o : Option ℕ). IsWalk (link_map a) i (walk_from (length a.slots) (link_map a) o)) (sym (nonzero_index-stored a i e stored))
      (walk_from-walk (length a.slots) (link_map a) i agrees (link_map-within a) (stored-valid a i e stored))

  pub walk_left-valid : (a : Arena Gen (LinkView T)) (p : ℕ × Gen) → IsWellLinked (link_map a) → IsValid (entry_at (values_of a)) p → IsWalk (link_map a) p.0 (walk_left a p.0)
  walk_left-valid a p agrees valid = by (entry_at a p.0) refl (sym (entry_at-with_each detached_value a p.0) ∙ valid.stored) where
    by : (o : Option (Gen × LinkView T)) → entry_at a p.0 ≡ o → option_map (on_value detached_value) (entry_at a p.0) ≡ Some (p.1, valid.value) → IsWalk (link_map a) p.0 (walk_left a p.0)
    by None none is = absurd (let h = sym (ap (option_map (on_value detached_value)) none) ∙ is in cc)
    by (Some e) stored is = walk_left-walk a p.0 e agrees stored

  walk_left-none : (a : Arena Gen (LinkView T)) (i : ℕ) → entry_at a i ≡ None → walk_left a i ≡ []
  walk_left-none a zero none = refl
  walk_left-none a (suc k) none = walk_from-none (length a.slots) (link_map a) (suc k) (ap (option_map interlinks_of) none)

  length-remove_link : (following : Gen → Gen) (a : Arena Gen (LinkView T)) (i : ℕ) → length (remove_link following a i).slots ≡ length a.slots
  length-remove_link following a i = length-with_link_map (remove_at following a i) (with_removal (link_map a) i) ∙ length-with_slot a.slots i None

  pub without_each-counts : (following : Gen → Gen) (a b : Arena Gen (LinkView T)) (indexes : List ℕ) → b ≡ without_each following a indexes → CountsUp following (length indexes) a b
  without_each-counts following a b indexes gone = subst (CountsUp following (length indexes) a) (sym gone) (counts a indexes)
    where
      counts : (a : Arena Gen (LinkView T)) (indexes : List ℕ) → CountsUp following (length indexes) a (without_each following a indexes)
      counts a [] = record { counter = refl; slots = refl; capacity = refl; stack_capacity = refl; maximum = refl }
      counts a (i ∷ rest) =
          let later = counts (remove_link following a i) rest in
          record {
            counter = later.counter;
            slots = later.slots ∙ length-remove_link following a i;
            capacity = later.capacity;
            stack_capacity = later.stack_capacity;
            maximum = later.maximum;
          }

  walk_left-next : (following : Gen → Gen) (a b : Arena Gen (LinkView T)) (i next : ℕ) (e : Gen × LinkView T) → IsWellLinked (link_map a) → entry_at a i ≡ Some e → b ≡ remove_link following a i
      → nonzero_index next ≡ rest_start i e.1.prev e.1.next → walk_left a i ≡ i ∷ walk_left b next
  walk_left-next following a b i next e agrees stored gone on =
      let slots : length b.slots ≡ length a.slots = ap (λ (x : Arena Gen (LinkView T)). length x.slots) gone ∙ length-remove_link following a i in
      let same : rest_start_of (link_map a) i ≡ rest_start i e.1.prev e.1.next = ap (λ (o : Option (Gen × LinkView T)). rest_start i (prev_in (option_map interlinks_of o)) (next_in (option_map interlinks_of o))) stored in
      ap (walk_from (length a.slots) (link_map a)) (nonzero_index-stored a i e stored)
      ∙ (walk_from-next (length a.slots) (link_map a) i agrees (link_map-within a) (stored-valid a i e stored)
      ∙ ap (λ (w : List ℕ). i ∷ w) (sym (ap (λ (n : ℕ). walk_from n (link_map b) (nonzero_index next)) slots
      ∙ (ap (λ (s : LinkMap). walk_from (length a.slots) s (nonzero_index next)) (passes_over following a b i gone)
      ∙ ap (walk_from (length a.slots) (with_removal (link_map a) i)) (on ∙ sym same)))))

  pub link_map-without_each : (following : Gen → Gen) (a : Arena Gen (LinkView T)) (walk : List ℕ) → link_map (without_each following a walk) ≡ with_removals (link_map a) walk
  link_map-without_each following a [] = refl
  link_map-without_each following a (i ∷ rest) = link_map-without_each following (remove_link following a i) rest ∙ ap (λ (s : LinkMap). with_removals s rest) (link_map-remove_link following a i)

  pub without_each-takes : (following : Gen → Gen) (a b : Arena Gen (LinkView T)) (i : ℕ) → IsWellLinked (link_map a) → b ≡ without_each following a (walk_left a i) → TakesWalk (link_map a) (link_map b) (walk_left a i)
  without_each-takes following a b i agrees gone =
      subst (λ (s : LinkMap). TakesWalk (link_map a) s (walk_left a i)) (sym (ap (λ (x : Arena Gen (LinkView T)). link_map x) gone ∙ link_map-without_each following a (walk_left a i))) (by (entry_at a i) refl)
    where
      by : (o : Option (Gen × LinkView T)) → entry_at a i ≡ o → TakesWalk (link_map a) (with_removals (link_map a) (walk_left a i)) (walk_left a i)
      by None none = subst (λ (w : List ℕ). TakesWalk (link_map a) (with_removals (link_map a) w) w) (sym (walk_left-none a i none)) (no_walk_is_taken (link_map a))
      by (Some e) stored = walk_is_taken (link_map a) i (walk_left a i) (walk_left-walk a i e agrees stored)

module _ {P Gen K T : Type 0} (key : P → ℕ × Gen) (number : K → Option ℕ) (following : Gen → Gen) (wraps : Gen → Bool) where
  module _ (old new : Arena Gen (LinkView T)) (at i next : ℕ) (taken : InvalidationResult (Gen × RawLink K T)) (same : i ≡ at) (agrees : IsWellLinked (link_map old))
      (responded : option_map (on_value (link_view number)) (value_within taken) ≡ link_at (entry_at (values_of old)) (link_map old) i) where
    found : (o : Option (Gen × RawLink K T)) → value_within taken ≡ o → entry_at old at ≡ option_map (on_value (link_view number)) o
    found o is = ap (entry_at old) (sym same) ∙ (sym (link_at-entry old i) ∙ (sym responded ∙ ap (option_map (on_value (link_view number))) is))

    entry-is : (o : Option (Gen × RawLink K T)) → value_within taken ≡ o → entry_at (values_of old) i ≡ option_map (on_value detached_value) (option_map (on_value (link_view number)) o)
    entry-is o is = entry_at-with_each detached_value old i ∙ ap (option_map (on_value detached_value)) (ap (entry_at old) same ∙ found o is)

    pub drained_none : value_within taken ≡ None → (entry_at (values_of old) i ≡ None → new ≡ old) → (walk_left old at ≡ []) × (new ≡ old)
    drained_none none kept = (walk_left-none old at (found None none), kept (entry-is None none))

    pub drained_step : (e : Gen × RawLink K T) (overflow : Bool) (returned : InvalidationOption (P × RawLink K T))
        → taken ≡ invalidation_result (wraps old.counter) (value_within taken) → (is_some (entry_at (values_of old) i) ≡ true → new ≡ remove_link following old i)
        → value_within taken ≡ Some e → overflow ≡ is_overflow_result taken → key (value_in returned).0 ≡ (i, e.0) → (value_in returned).1 ≡ e.1 → is_overflow returned ≡ overflow
        → nonzero_index next ≡ rest_start i (number e.1.prev) (number e.1.next) → IsDrainStep key number following wraps old at returned new next
    drained_step e overflow returned made gone has known keyed linked over on =
        let state : new ≡ remove_link following old at = gone (ap is_some (entry-is (Some e) has)) ∙ ap (remove_link following old) same in
        let stored : entry_at old at ≡ Some (e.0, link_view number e.1) = found (Some e) has in
        record {
          index = ap (λ (k : ℕ × Gen). k.0) keyed ∙ same;
          stored = stored ∙ sym (ap₂ (λ (k : ℕ × Gen) (l : RawLink K T). let o : Option (Gen × LinkView T) = Some (k.1, link_view number l) in o) keyed linked);
          overflow = over ∙ (known ∙ (ap is_overflow_result made ∙ (ap (λ (o : Option (Gen × RawLink K T)). is_overflow_result (invalidation_result (wraps old.counter) o)) has
              ∙ is_overflow_result-made (wraps old.counter) e)));
          state = state;
          walk = walk_left-next following old new at next (e.0, link_view number e.1) agrees stored state (on ∙ ap (λ (n : ℕ). rest_start n (number e.1.prev) (number e.1.next)) same);
        }

  pub without_each-step : (old new : Arena Gen (LinkView T)) (at next : ℕ) (returned : InvalidationOption (P × RawLink K T)) → IsDrainStep key number following wraps old at returned new next
      → without_each following new (walk_left new next) ≡ without_each following old (walk_left old at)
  without_each-step old new at next returned step =
      ap (λ (a : Arena Gen (LinkView T)). without_each following a (walk_left new next)) step.state ∙ sym (ap (without_each following old) step.walk)

  pub walk_left-step : (old new : Arena Gen (LinkView T)) (at next : ℕ) (returned : InvalidationOption (P × RawLink K T)) → IsDrainStep key number following wraps old at returned new next
      → length (walk_left new next) < length (walk_left old at)
  walk_left-step old new at next returned step = let longer : length (walk_left old at) ≡ length (at ∷ walk_left new next) = ap (length {A = ℕ}) step.walk in omega (arith, longer)
