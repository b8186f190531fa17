-- Outcomes of calls.
use Rattle.std.proofs.Common.{◌≡◌, ℕ, ◌<◌, ◌≤◌, Bool, true, false, Option, None, Some, Result, Ok, Err, ◌↔◌, refl, sym, ap, subst, arith}
use Rattle.std.specs.Prelude.{IfSome, IfNone, OnSome}
use Rattle.arena_core.specs.Invalidation.{value_within, invalidation_result}
use Rattle.arena_core.specs.declared.invalidation.InvalidationResult.{InvalidationResult}
use Rattle.arena_core.specs.declared.invalidation.InvalidationResult.TheVariants.{Success, GenerationOverflow, InvalidPtr}
use Rattle.arena_core.specs.SlotStack.{IsBeyond, IsWithinMaximum}
use Rattle.arena_core.specs.declared.errors.ReallocationError.{ReallocationError}
use Rattle.arena_core.specs.declared.errors.ReallocationError.TheVariants as refused
use Rattle.arena_traits.specs.Entries.{ArenaView, view_after_removal}
use Rattle.arena_traits.specs.Growth.{Reserves}
use Rattle.arena_traits.specs.CallOutcomes.{ReportsOverflow}

module _ {X Gen : Type 0} (wraps : Gen → Bool) (Invalid : Type 0) (Done : X → Type 0) where
  pub reports_made : (counter : Gen) (overflow : Bool) (x : X) (r : InvalidationResult X) → r ≡ invalidation_result overflow (Some x) → overflow ≡ wraps counter → Done x
      → ReportsOverflow wraps (Some counter) Invalid Done r
  reports_made counter overflow x r is wrapped done = subst (ReportsOverflow wraps (Some counter) Invalid Done) (sym is) (made overflow wrapped)
    where
      made : (b : Bool) → b ≡ wraps counter → ReportsOverflow wraps (Some counter) Invalid Done (invalidation_result b (Some x))
      made false same = (sym same, done)
      made true same = (sym same, done)

  pub reports_more : (More : X → Type 0) (Without : Type 0) (counter : Option Gen) (r : InvalidationResult X) → ReportsOverflow wraps counter Invalid Done r → (Invalid → Without) → ((x : X) → Done x → More x)
      → ReportsOverflow wraps counter Without More r
  reports_more More Without counter InvalidPtr reports none some = none reports
  reports_more More Without counter (Success x) reports none some = (reports.0, some x reports.1)
  reports_more More Without counter (GenerationOverflow x) reports none some = (reports.0, some x reports.1)

  pub reports_none : {Y : Type 0} (counter : Option Gen) (r : InvalidationResult X) → ReportsOverflow wraps counter Invalid Done r → (Invalid → Y) → IfNone (value_within r) Y
  reports_none counter InvalidPtr reports none = none reports
  reports_none counter (Success x) reports none = tt
  reports_none counter (GenerationOverflow x) reports none = tt

  pub reports_some : {Y : Type 0} (counter : Option Gen) (r : InvalidationResult X) → ReportsOverflow wraps counter Invalid Done r → ((x : X) → Done x → Y) → OnSome (value_within r) Y
  reports_some counter InvalidPtr reports some = tt
  reports_some counter (Success x) reports some = some x reports.1
  reports_some counter (GenerationOverflow x) reports some = some x reports.1

  pub reports_overflow : (counter : Option Gen) (r : InvalidationResult X) → ReportsOverflow wraps counter Invalid Done r → IfSome counter (λ g. r ≡ invalidation_result (wraps g) (value_within r))
  reports_overflow None r reports = tt
  reports_overflow (Some g) InvalidPtr reports = refl
  reports_overflow (Some g) (Success x) reports = ap (λ b. invalidation_result b (Some x)) (sym reports.0)
  reports_overflow (Some g) (GenerationOverflow x) reports = ap (λ b. invalidation_result b (Some x)) (sym reports.0)

module _ {A Gen T : Type 0} (view : A → ArenaView Gen T) (entry : A → ℕ → Option (Gen × T)) (following : Gen → Gen) (wraps : Gen → Bool) (old new : A) (n : ℕ) where
  pub removed_value : (r : InvalidationResult (Gen × T))
      → ReportsOverflow wraps (view old).counter (entry old n ≡ None) (λ e. (entry old n ≡ Some (e.0, e.1)) × (view new ≡ view_after_removal following (view old) n)) r
      → value_within r ≡ entry old n
  removed_value InvalidPtr none = sym none
  removed_value (Success e) removed = sym removed.1.0
  removed_value (GenerationOverflow e) removed = sym removed.1.0

pub where_none : {X Y : Type 0} (o : Option X) → IfNone o Y → o ≡ None → Y
where_none None known is = known
where_none (Some x) known is = absurd (let h = is in cc)

pub where_some : {X Y : Type 0} {x : X} (o : Option X) → OnSome o Y → o ≡ Some x → Y
where_some None known is = absurd (let h = is in cc)
where_some (Some y) known is = known

pub not_beyond : (maximum : Option ℕ) (n m : ℕ) → n ≤ m → IsWithinMaximum maximum m → IsBeyond maximum n → ⊥
not_beyond None n m less within beyond = beyond
not_beyond (Some most) n m less within beyond = omega (arith, less, within, beyond)

module _ {Gen T : Type 0} (greatest n : ℕ) (old new : ArenaView Gen T) where
  pub reserves_beyond : (r : Result Unit ReallocationError) → Reserves greatest n old r new → (r ≡ Err refused.BeyondMaxCapacity) ↔ IsBeyond old.maximum n
  reserves_beyond (Ok done) made =
      let within : IsWithinMaximum old.maximum new.capacity = subst (λ m. IsWithinMaximum m new.capacity) (ap (λ s. s.maximum) made.0) made.1.0.within_maximum in
      (λ is. cc, λ above. absurd (not_beyond old.maximum n new.capacity made.1.0.fits within above))
  reserves_beyond (Err refused.BeyondMaxCapacity) why = (λ is. why.1, λ above. refl)
  reserves_beyond (Err refused.AllocError) why = (λ is. cc, λ above. absurd (why.1 above))

  pub reserves_above : (why : ReallocationError) → Reserves greatest n old (Err why) new → old.capacity < n
  reserves_above refused.BeyondMaxCapacity made = made.0
  reserves_above refused.AllocError made = made.0
