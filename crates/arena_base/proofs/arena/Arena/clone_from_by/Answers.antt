use Rattle.std.proofs.Common.{◌≡◌, Result, Ok, Err, length, min, refl, sym, ap, ◌∙◌, arith, inl, inr}
use Rattle.std.proofs.lemmas.List.{length-map}
use Rattle.arena_core.specs.declared.errors.ReallocationError.{ReallocationError}
use Rattle.arena_core.specs.declared.errors.ReallocationError.TheVariants as error
use Rattle.arena_traits.specs.Entries.{view_of}
use Rattle.arena_traits.proofs.CallOutcomeLemmas.{reserves_beyond, reserves_above}
use Rattle.arena_base.specs.Slots.{entry_of}
use Rattle.arena_base.proofs.SoundnessLemmas.{closed, none_sound}
use Rattle.arena_base.proofs.SlotShapeLemmas.{sound_too}
use Rattle.arena_base.proofs.SlotCopyLemmas.{has_slots_of, copy_abandoned, on_err_is, on_ok_is, equal_capacity}
use Rattle.arena_base.proofs.ArenaGrowthLemmas.{same_reach, stays_within_reach}
use Rattle.arena_base.proofs.arena.Arena.clone_from_by.Goals as goal

ok_is_no_error : {A E : Type 0} {a : A} {e : E} → Ok a ≡ Err e → ⊥
ok_is_no_error is = cc

errors_differ : {A : Type 0} (r : Result A ReallocationError) → r ≡ Err error.AllocError → r ≡ Err error.BeyondMaxCapacity → ⊥
errors_differ r is also = cc

pub invariant_of-self : goal.invariant_of-self
invariant_of-self g c =
    let packed_number = g.P.Inx.InxKey.packed_number in
    closed packed_number (sound_too packed_number (on_ok_is c.copy_slots-copied.result.0 _ c.in-Ok-copied.is c.copy_slots-copied.ensures.alike) c.source.invariant)

pub invariant_of-self-in-Err-copied : goal.invariant_of-self-in-Err-copied
invariant_of-self-in-Err-copied g c = none_sound g.P.Inx.InxKey.packed_number _ g.P.Inx.InxKey.greatest _ c.pack-self-inside.ensures c.truncate-in-Err-copied.ensures.items

pub returns-in-Ok-copied : goal.returns-in-Ok-copied
returns-in-Ok-copied g c =
    let greatest = g.P.Inx.InxKey.greatest in
    let source = c.source.inside in
    let self = c.self.inside in
    let grown = c.in-Ok.ensures in
    let count : c.len.result ≡ length c.args.source.now.slots = c.len.ensures ∙ (sym (length-map (g.S1.SlotStack.items source.slots) entry_of) ∙ ap (λ a. length a.slots) c.source.view_is) in
    let stays : g.S.SlotStack.capacity c.copy_slots-copied.new.slots ≡ g.S.SlotStack.capacity self.slots = c.copy_slots-copied.ensures.bounds.0 ∙ c.truncate.ensures.capacity in
    let limit : g.S.SlotStack.maximum c.copy_slots-copied.new.slots ≡ g.S.SlotStack.maximum self.slots = c.copy_slots-copied.ensures.bounds.1 ∙ c.truncate.ensures.maximum in
    let within_capacity : min (g.S.SlotStack.capacity c.copy_slots-copied.new.slots) greatest ≡ c.reallocate_min_capacity.new.self.capacity = ap (λ n. min n greatest) stays ∙ ap (λ a. a.capacity) c.self.view_is in
    record {
      within = λ few. (inl refl, within_capacity ∙ ap (λ a. a.capacity) (grown.enough (omega (arith, few, count))));
      beyond = (λ is. absurd (ok_is_no_error is), λ beyond. absurd (ok_is_no_error ((reserves_beyond greatest c.len.result (view_of c.args.self.now) (view_of c.reallocate_min_capacity.new.self) (Ok tt) grown.outcome).1 (rw count beyond))));
      unchanged = λ is. absurd (ok_is_no_error is);
      ok = (equal_capacity count within_capacity (limit ∙ ap (λ a. a.maximum) c.self.view_is) grown.outcome.1.0, refl, g.met.S.SlotStack.within_maximum c.copy_slots-copied.new.slots);
      copied = rw (← c.source.view_is) (on_ok_is c.copy_slots-copied.result.0 _ c.in-Ok-copied.is c.copy_slots-copied.ensures.copies);
      ready = on_ok_is c.copy_slots-copied.result.0 _ c.in-Ok-copied.is c.copy_slots-copied.ensures.ready;
      slots = has_slots_of g.P.Inx.InxKey.packed_number (g.S1.SlotStack.items source.slots) (g.S.SlotStack.items c.copy_slots-copied.new.slots) (on_ok_is c.copy_slots-copied.result.0 _ c.in-Ok-copied.is c.copy_slots-copied.ensures.alike) greatest source.len source.first_free c.source.invariant
          c.args.source.now c.args.self.now c.reallocate_min_capacity.new.self source.counter self.counter _ (g.S.SlotStack.items self.slots) (g.S1.SlotStack.capacity source.slots) (g.S.SlotStack.capacity self.slots) (g.S.SlotStack.capacity c.copy_slots-copied.new.slots) (g.S1.SlotStack.maximum source.slots) (g.S.SlotStack.maximum self.slots) (g.S.SlotStack.maximum c.copy_slots-copied.new.slots)
          source.placed.count source.touched.count self.placed.count self.touched.count c.len.result stays limit c.source.view_is c.self.view_is grown.implementation.0 c.len.ensures grown.enough;
      never_less = omega (arith, within_capacity, grown.outcome.2);
      reached = same_reach g.S.SlotStack.may_reach (length c.args.source.now.slots) c.args.self.now c.reallocate_min_capacity.new.self (stays ∙ ap (λ a. a.stack_capacity) c.self.view_is) (rw (← count) grown.implementation.1);
      err = tt;
    }

pub returns-in-Err-copied : goal.returns-in-Err-copied
returns-in-Err-copied g c =
    let greatest = g.P.Inx.InxKey.greatest in
    let source = c.source.inside in
    let self = c.self.inside in
    let grown = c.in-Ok.ensures in
    let count : c.len.result ≡ length c.args.source.now.slots = c.len.ensures ∙ (sym (length-map (g.S1.SlotStack.items source.slots) entry_of) ∙ ap (λ a. length a.slots) c.source.view_is) in
    let stays : g.S.SlotStack.capacity c.truncate-in-Err-copied.new.self ≡ g.S.SlotStack.capacity self.slots = c.truncate-in-Err-copied.ensures.capacity ∙ (c.copy_slots-copied.ensures.bounds.0 ∙ c.truncate.ensures.capacity) in
    let limit : g.S.SlotStack.maximum c.truncate-in-Err-copied.new.self ≡ g.S.SlotStack.maximum self.slots = c.truncate-in-Err-copied.ensures.maximum ∙ (c.copy_slots-copied.ensures.bounds.1 ∙ c.truncate.ensures.maximum) in
    let within_capacity : min (g.S.SlotStack.capacity c.truncate-in-Err-copied.new.self) greatest ≡ c.reallocate_min_capacity.new.self.capacity = ap (λ n. min n greatest) stays ∙ ap (λ a. a.capacity) c.self.view_is in
    record {
      within = λ few. (inr (rw (← c.source.view_is) (on_err_is c.copy_slots-copied.result.0 _ c.in-Err-copied.is c.copy_slots-copied.ensures.refused)), within_capacity ∙ ap (λ a. a.capacity) (grown.enough (omega (arith, few, count))));
      beyond = (λ is. absurd (errors_differ _ refl is), λ beyond. absurd (ok_is_no_error ((reserves_beyond greatest c.len.result (view_of c.args.self.now) (view_of c.reallocate_min_capacity.new.self) (Ok tt) grown.outcome).1 (rw count beyond))));
      unchanged = λ is. absurd (errors_differ _ refl is);
      ok = tt;
      copied = tt;
      ready = tt;
      slots = tt;
      never_less = omega (arith, within_capacity, grown.outcome.2);
      reached = same_reach g.S.SlotStack.may_reach (length c.args.source.now.slots) c.args.self.now c.reallocate_min_capacity.new.self (stays ∙ ap (λ a. a.stack_capacity) c.self.view_is) (rw (← count) grown.implementation.1);
      err = inr (
        rw (← c.source.view_is) (on_err_is c.copy_slots-copied.result.0 _ c.in-Err-copied.is c.copy_slots-copied.ensures.refused),
        copy_abandoned g.P.Inx.InxKey.packed_number (g.S.SlotStack.items c.truncate-in-Err-copied.new.self) (g.S.SlotStack.items self.slots) c.pack-self-inside.result _ self.counter greatest (g.S.SlotStack.capacity c.truncate-in-Err-copied.new.self) (g.S.SlotStack.capacity self.slots) (g.S.SlotStack.maximum c.truncate-in-Err-copied.new.self) (g.S.SlotStack.maximum self.slots)
            self.placed.count self.touched.count c.args.self.now c.reallocate_min_capacity.new.self c.truncate-in-Err-copied.ensures.items stays limit c.self.view_is grown.implementation.0,
      );
    }

pub returns-in-Err : goal.returns-in-Err
returns-in-Err g c =
    let refused = c.in-Err.ensures in
    let count : c.len.result ≡ length c.args.source.now.slots = c.len.ensures ∙ (sym (length-map (g.S1.SlotStack.items c.source.inside.slots) entry_of) ∙ ap (λ a. length a.slots) c.source.view_is) in
    record {
      within = λ few. absurd (omega (arith, few, count, reserves_above g.P.Inx.InxKey.greatest c.len.result (view_of c.args.self.now) (view_of c.reallocate_min_capacity.new.self) c.in-Err.e refused.outcome));
      beyond = rw (← count) (reserves_beyond g.P.Inx.InxKey.greatest c.len.result (view_of c.args.self.now) (view_of c.reallocate_min_capacity.new.self) (Err c.in-Err.e) refused.outcome);
      unchanged = λ is. (refused.err, refl);
      ok = tt;
      copied = tt;
      ready = tt;
      slots = tt;
      never_less = omega (arith, ap (λ a. a.capacity) refused.err);
      reached = stays_within_reach g.S.SlotStack.may_reach (length c.args.source.now.slots) c.args.self.now _ refused.err;
      err = inl (refused.err, refl);
    }
