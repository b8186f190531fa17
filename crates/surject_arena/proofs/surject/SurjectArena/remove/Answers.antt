use Rattle.std.proofs.Common.{suc, length, Some, sym, ap, ◌∙◌}
use Rattle.std.specs.Prelude.{◌||◌}
use Rattle.arena_core.specs.Invalidation.{is_overflow_result}
use Rattle.surject_arena.specs.Surjections.{IsKey}
use Rattle.arena_traits.specs.CallOutcomes.{wraps_within}
use Rattle.surject_arena.specs.SetRemovals.{IsSetRemoved}
use Rattle.surject_arena.proofs.SetReductionLemmas.{reports_flag, key_returned, last_value_returned, whole_set_removed}
use Rattle.surject_arena.proofs.surject.SurjectArena.remove.Goals as goal

pub unreachable-requires-in-None-removed : goal.unreachable-requires-in-None-removed
unreachable-requires-in-None-removed g c =
    key_returned g.P.Gen.GenKey.wraps g.P.Gen.GenKey.following c.args.self.now (g.P.PtrKey.key c.args.p) c.remove_others.new.self c.remove_key.new.self c.in-Some.wrapped c.in-Some.ensures.0 c.in-Some.ensures.1
    c.remove_key.result c.remove_key.ensures.outcome (sym (ap (λ x. x.0) c.overflowing-removed.ensures) ∙ c.in-None-removed.is)

pub unreachable-requires : goal.unreachable-requires
unreachable-requires g c =
    last_value_returned g.P.Gen.GenKey.wraps g.P.Gen.GenKey.following c.args.self.now (g.P.PtrKey.key c.args.p) c.remove_others.new.self c.remove_key.new.self c.in-Some.wrapped c.in-Some.ensures.0 c.in-Some.ensures.1
    c.remove_key.result c.remove_key.ensures.outcome c.in-Some-removed.field-0-0 (sym (ap (λ x. x.0) c.overflowing-removed.ensures) ∙ (c.in-Some-removed.is ∙ ap (λ o. Some (c.in-Some-removed.field-0-0, o)) c.in-None-value.is))

pub returns-clause-outcome : goal.returns-clause-outcome
returns-clause-outcome g c =
    let wraps = g.P.Gen.GenKey.wraps in
    let following = g.P.Gen.GenKey.following in
    let old = c.args.self.now in
    let p = g.P.PtrKey.key c.args.p in
    let reduced = c.in-Some.ensures.0 in
    let whole = whole_set_removed wraps following old p c.remove_others.new.self c.remove_key.new.self c.in-Some.wrapped reduced c.in-Some.ensures.1
    c.remove_key.result c.remove_key.ensures.outcome c.keys_ascend.ensures c.invariants.ensures c.in-Some-removed.field-0-0 c.in-Some-value.v
    (sym (ap (λ x. x.0) c.overflowing-removed.ensures) ∙ (c.in-Some-removed.is ∙ ap (λ o. Some (c.in-Some-removed.field-0-0, o)) c.in-Some-value.is)) in (
      suc (length reduced.indexes),
      rw c.from_overflow.ensures (rw (ap (λ x. x.1) c.overflowing-removed.ensures) (
          reports_flag (wraps_within wraps following (suc (length reduced.indexes))) following old.keys.counter (IsKey old p → ⊥) (λ t. IsSetRemoved old c.remove_key.new.self following p (suc (length reduced.indexes)) t)
          (c.in-Some.wrapped || is_overflow_result c.remove_key.result) c.in-Some-value.v whole.1 whole.0)),
    )
