use Rattle.std.proofs.Common.{sym, ◌∙◌, arith}
use Rattle.arena_core.proofs.PointerKindLemmas.{kind_by}
use Rattle.chain_arena.proofs.CallRunLemmas.{under_way_first, under_way_more, under_way_last}
use Rattle.chain_arena.proofs.calls.replies_to.Goals as goal

pub loop-call-init : goal.loop-call-init
loop-call-init g c =
    let gives = c.into_iter-call-iterator.ensures.into_iter_gives in
    let none = c.in_ok-replies.ensures.len in
    let within_capacity = c.in_ok-replies.ensures.capacity in
    let counted = c.len.ensures in (
      under_way_first (kind_by g.P.PtrKey g.P.Inx.InxKey g.P.Gen.GenKey) _ _ _ _ gives.0 c.in_ok-replies.ensures.items,
      omega (arith, gives.1, none, within_capacity, counted),
    )

pub loop-call-preserved : goal.loop-call-preserved
loop-call-preserved g c =
    let steps = c.in-Some.ensures.steps in
    let more = c.in-Ok.ensures.len in
    let within_capacity = c.in-Ok.ensures.capacity in
    let before = c.loop-call.invariant.1 in (
      under_way_more (kind_by g.P.PtrKey g.P.Inx.InxKey g.P.Gen.GenKey) _ _ _ _ _ _ _ _ _ _ c.loop-call.invariant.0 steps.0 c.apply-reply.ensures.step c.in-Ok.ensures.items,
      omega (arith, steps.1, more, within_capacity, before),
    )

pub returns-clause-run : goal.returns-clause-run
returns-clause-run g c =
    under_way_last (kind_by g.P.PtrKey g.P.Inx.InxKey g.P.Gen.GenKey) _ _ _ _ _ c.loop-call.invariant.0
    (sym c.loop-call.call-iterator.rest.ok.0 ∙ c.in-None.ensures.steps.0)
