-- The reach of growth.
use Rattle.std.proofs.Common.{◌≡◌, ℕ, ◌+◌, ◌<◌, ◌≤◌, Option, Result, Ok, Err, OnOk, OnErr, ◌↔◌, ◌⊎◌, inl, inr, refl, ap, sym, ◌∙◌, subst, arith}
use Rattle.std.proofs.lemmas.Bool.Decides.{leb_tells}
use Rattle.arena_core.specs.SlotStack.{IsBeyond}
use Rattle.arena_core.specs.declared.errors.ReallocationError.{ReallocationError}
use Rattle.arena_core.specs.declared.errors.ReallocationError.TheVariants as refused
use Rattle.arena_traits.specs.Arena.{Arena, entry_count, with_capacity_of, IsWithinReach}
use Rattle.arena_traits.specs.Entries.{view_of}
use Rattle.arena_traits.specs.Growth.{RefusesToFit, RefusesOneMore, Reserves}
use Rattle.arena_traits.proofs.ArenaViewLemmas.{length-entries}
use Rattle.arena_base.specs.Growths.{HasGrownFor, GrowsArenaFor, GrowsArenaForOneMore}

pub stack_reach : {X E A May : Type 0} {n old new : ℕ} (r : Result X E) → (n ≤ old → A × (new ≡ old)) → OnOk r (old < n → May) → OnErr r (new ≡ old)
    → (new ≡ old) ⊎ May
stack_reach {n = n} {old = old} (Ok x) within grown refused = elim (leb_tells n old) [ inl few ↦ inl (within few.1).1 | inr more ↦ inr (grown more.1) ]
stack_reach (Err e) within grown refused = inl refused

module _ {Gen T : Type 0} (may_reach : ℕ → Option ℕ → ℕ → ℕ → Type 0) (n : ℕ) (old : Arena Gen T) where
  pub stays_within_reach : (new : Arena Gen T) → new ≡ old → IsWithinReach may_reach n old new
  stays_within_reach new same = subst (IsWithinReach may_reach n old) (sym same) (inl refl)

  pub same_reach : (mid : Arena Gen T) {capacity : ℕ} → capacity ≡ mid.stack_capacity → IsWithinReach may_reach n old mid
      → (capacity ≡ old.stack_capacity) ⊎ may_reach old.stack_capacity old.maximum n capacity
  same_reach mid same reached = subst (λ c. (c ≡ old.stack_capacity) ⊎ may_reach old.stack_capacity old.maximum n c) (sym same) reached

pub refuses_to_fit : {Gen T : Type 0} (n : ℕ) (old : Arena Gen T) (why : ReallocationError) → old.capacity < n → (why ≡ refused.BeyondMaxCapacity) ↔ IsBeyond old.maximum n → RefusesToFit n (view_of old) why
refuses_to_fit n old refused.BeyondMaxCapacity above beyond = (above, beyond.0 refl)
refuses_to_fit n old refused.AllocError above beyond = (above, λ is. let never = beyond.1 is in cc)

pub grows_for : {Gen T : Type 0} (may_reach : ℕ → Option ℕ → ℕ → ℕ → Type 0) (greatest n : ℕ) (old new : Arena Gen T) (r : Result Unit ReallocationError)
    → (n ≤ old.capacity → r ≡ Ok tt) → (r ≡ Err refused.BeyondMaxCapacity) ↔ IsBeyond old.maximum n → OnOk r (HasGrownFor may_reach greatest n old new)
    → GrowsArenaFor may_reach greatest n old r new
grows_for may_reach greatest n old new (Ok done) within beyond grown = grown
grows_for may_reach greatest n old new (Err why) within beyond grown =
    let above : old.capacity < n = elim (leb_tells n old.capacity) [ inl few ↦ (let never = within few.1 in cc) | inr more ↦ more.1 ] in
    refuses_to_fit n old why above (λ is. beyond.0 (ap Err is), λ is. let same : ◌≡◌ {A = Result Unit ReallocationError} (Err why) (Err refused.BeyondMaxCapacity) = beyond.1 is in cc)

pub refuses_one_more : {Gen T : Type 0} (old : Arena Gen T) (why : ReallocationError) → entry_count old ≡ old.capacity → RefusesToFit (entry_count old + 1) (view_of old) why → RefusesOneMore (view_of old) why
refuses_one_more old refused.BeyondMaxCapacity full why = (length-entries old ∙ full, subst (λ n. IsBeyond old.maximum (n + 1)) (sym (length-entries old)) why.1)
refuses_one_more old refused.AllocError full why = (length-entries old ∙ full, λ is. why.1 (subst (λ n. IsBeyond old.maximum (n + 1)) (length-entries old) is))

module _ {Gen T : Type 0} (may_reach : ℕ → Option ℕ → ℕ → ℕ → Type 0) (greatest : ℕ) (old : Arena Gen T) where
  pub grows_for_one_more : (r : Result Unit ReallocationError) (new : Arena Gen T) → entry_count old ≡ old.capacity → GrowsArenaFor may_reach greatest (entry_count old + 1) old r new → GrowsArenaForOneMore may_reach greatest old r new
  grows_for_one_more (Ok done) new full grown = grown
  grows_for_one_more (Err why) new full grown = refuses_one_more old why full grown

  pub grown_state : (n : ℕ) (r : Result Unit ReallocationError) (new : Arena Gen T) → GrowsArenaFor may_reach greatest n old r new → OnErr r (new ≡ old) → new ≡ with_capacity_of old new
  grown_state n (Ok done) new grown refused = grown.state
  grown_state n (Err why) new grown refused = refused ∙ ap (with_capacity_of old) (sym refused)

  pub grown_reach : (n : ℕ) (r : Result Unit ReallocationError) (new : Arena Gen T) → GrowsArenaFor may_reach greatest n old r new → OnErr r (new ≡ old) → IsWithinReach may_reach n old new
  grown_reach n (Ok done) new grown refused = grown.capacity.reached
  grown_reach n (Err why) new grown refused = stays_within_reach may_reach n old new refused

  pub grown_least : (n : ℕ) (r : Result Unit ReallocationError) (new : Arena Gen T) → GrowsArenaFor may_reach greatest n old r new → OnErr r (new ≡ old) → old.capacity ≤ new.capacity
  grown_least n (Ok done) new grown refused =
      elim (leb_tells n old.capacity) [ inl few ↦ subst (λ (a : Arena Gen T). old.capacity ≤ a.capacity) (sym (grown.within few.1)) (omega arith) | inr more ↦ omega (arith, more.1, grown.capacity.capacity.0.fits) ]
  grown_least n (Err why) new grown refused = subst (λ (a : Arena Gen T). old.capacity ≤ a.capacity) (sym refused) (omega arith)

  pub grown_reserves : (n : ℕ) (r : Result Unit ReallocationError) (new : Arena Gen T) → GrowsArenaFor may_reach greatest n old r new → Reserves greatest n (view_of old) r (view_of new)
  grown_reserves n (Ok done) new grown =
      (ap view_of grown.state, (grown.capacity.capacity.0, λ few. ap (λ a. a.capacity) (grown.within few)), grown_least n (Ok done) new grown tt)
  grown_reserves n (Err why) new why_refused = why_refused
