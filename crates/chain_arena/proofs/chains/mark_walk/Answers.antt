use Rattle.std.proofs.Common.{true, false, refl, ap, ◌∙◌, subst}
use Rattle.std.specs.Prelude.{not}
use Rattle.chain_arena.specs.ChainHeads.{MarksWalk}
use Rattle.chain_arena.proofs.StartLemmas.{missing}
use Rattle.chain_arena.proofs.ChainHeadLemmas.{marking_more, marking_ends}
use Rattle.chain_arena.proofs.chains.mark_walk.Goals as goal

pub loop-q-preserved-then-is_none : goal.loop-q-preserved-then-is_none
loop-q-preserved-then-is_none g c =
    marking_more _ _ _ _ _ _ _ _ _ c.place_of.result true c.loop-q.invariant c.in-Some.ensures.steps c.place_of.ensures
    (missing g.P.Inx.InxKey.number c.prev.result _ true c.prev.ensures (c.is_none.ensures ∙ ap not c.if-is_none.true)) refl

pub loop-q-preserved : goal.loop-q-preserved
loop-q-preserved g c =
    marking_more _ _ _ _ _ _ _ _ _ c.place_of.result false c.loop-q.invariant c.in-Some.ensures.steps c.place_of.ensures
    (missing g.P.Inx.InxKey.number c.prev.result _ false c.prev.ensures (c.is_none.ensures ∙ ap not c.if-is_none.false)) refl

pub returns : goal.returns
returns g c =
    subst (λ links. MarksWalk g.P.PtrKey.key c.args.p links c.args.marks.now c.loop-q.head c.loop-q.marks) c.into_iter-q-iterator.ensures.into_iter_gives
    (marking_ends g.P.PtrKey.key c.args.p _ _ _ _ c.loop-q.head c.loop-q.invariant c.in-None.ensures.steps.0)
