use Rattle.std.proofs.Common.{pos, take, sym}
use Rattle.std.proofs.lemmas.List.{take_all}
use Rattle.std.proofs.lemmas.List.Elements.{All-more, All-weaker, All-same}
use Rattle.triangulation.specs.CornerIndexes.{BoxHasAllOf}
use Rattle.triangulation.proofs.bounds.BoundingBox.of_boxes.Goals as goal

pub loop-part-preserved : goal.loop-part-preserved
loop-part-preserved c = All-more (BoxHasAllOf c.with_box-around.result) c.args.boxes.now c.loop-part.part-index (record { left = pos 0; right = pos 0; bottom = pos 0; top = pos 0 }) c.loop-part-test.true
    (All-weaker (BoxHasAllOf c.loop-part.around) (BoxHasAllOf c.with_box-around.result) (λ box has p inside. c.with_box-around.ensures.first p (has p inside)) (take c.loop-part.part-index c.args.boxes.now) c.loop-part.invariant)
    c.with_box-around.ensures.second

pub returns : goal.returns
returns c = All-same (BoxHasAllOf c.loop-part.around) c.args.boxes.now (take c.loop-part.part-index c.args.boxes.now) (sym (take_all c.loop-part.part-index c.args.boxes.now c.loop-part-test.false)) c.loop-part.invariant
