use Rattle.std.proofs.Common.{pos, take, sym}
use Rattle.std.proofs.lemmas.List.{take_all}
use Rattle.std.proofs.lemmas.List.Elements.{All-more, All-weaker, All-same}
use Rattle.triangulation.specs.CornerIndexes.{IsInBox}
use Rattle.triangulation.proofs.bounds.BoundingBox.of_ring.Goals as goal

pub loop-p-preserved : goal.loop-p-preserved
loop-p-preserved c = All-more (IsInBox c.with_point-around.result) c.args.ring.now c.loop-p.p-index (record { x = pos 0; y = pos 0 }) c.loop-p-test.true
    (All-weaker (IsInBox c.loop-p.around) (IsInBox c.with_point-around.result) (λ q inside. c.with_point-around.ensures.rest q inside) (take c.loop-p.p-index c.args.ring.now) c.loop-p.invariant)
    c.with_point-around.ensures.point

pub returns : goal.returns
returns c = All-same (IsInBox c.loop-p.around) c.args.ring.now (take c.loop-p.p-index c.args.ring.now) (sym (take_all c.loop-p.p-index c.args.ring.now c.loop-p-test.false)) c.loop-p.invariant
