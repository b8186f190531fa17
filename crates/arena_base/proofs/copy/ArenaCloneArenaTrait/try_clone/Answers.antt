use Rattle.std.proofs.Common.{◌≡◌, ◌↔◌, Err, length, refl, ap, subst}
use Rattle.arena_core.specs.SlotStack.{IsBeyond}
use Rattle.arena_core.specs.declared.errors.ReallocationError.TheVariants as refused
use Rattle.arena_traits.specs.Arena.{IsWithinReach}
use Rattle.arena_traits.specs.Entries.{view_of}
use Rattle.arena_base.proofs.SlotCopyLemmas.{on_ok_is}
use Rattle.arena_base.proofs.CloneLemmas.{clone_viewed, refused_with_slots, refuses_copy}
use Rattle.arena_base.proofs.copy.ArenaCloneArenaTrait.try_clone.Goals as goal

pub returns-in-Ok-clause-outcome : goal.returns-in-Ok-clause-outcome
returns-in-Ok-clause-outcome g c =
    let made = c.clone_from_by-done in
    let result = made.result.0 in
    clone_viewed g.T.Clone.is_clone c.requires.clones_equal g.P.PtrKey.key g.P.Inx.InxKey.greatest g.S.SlotStack.initial_maximum _ made.result.1 g.P.Gen.GenKey.first c.args.self.now c.new-copy.result made.new.self
    (c.new-copy.ensures.implementation.none refl) (on_ok_is result _ c.in-Ok.is made.ensures.ok) (on_ok_is result _ c.in-Ok.is made.ensures.slots) (on_ok_is result _ c.in-Ok.is made.ensures.copied)

pub returns-in-Ok-clause-implementation : goal.returns-in-Ok-clause-implementation
returns-in-Ok-clause-implementation g c =
    let made = c.clone_from_by-done in
    record {
      capacity = on_ok_is made.result.0 _ c.in-Ok.is made.ensures.ok;
      reached = subst (λ a. IsWithinReach g.S.SlotStack.may_reach (length c.args.self.now.slots) a made.new.self) (c.new-copy.ensures.implementation.none refl) made.ensures.reached;
    }

pub returns-in-Err-clause-outcome : goal.returns-in-Err-clause-outcome
returns-in-Err-clause-outcome g c =
    let made = c.clone_from_by-done in
    let slots = c.args.self.now.slots in
    refuses_copy g.S.SlotStack.initial_maximum _ made.result.0 c.in-Err.e c.in-Err.is
    (refused_with_slots _ g.P.PtrKey.key slots _ made.result.0 c.in-Err.e c.in-Err.is made.ensures.within)
    (subst (λ most. (made.result.0 ≡ Err refused.BeyondMaxCapacity) ↔ IsBeyond most (length slots)) (ap (λ a. a.maximum) (c.new-copy.ensures.implementation.none refl)) made.ensures.beyond)
