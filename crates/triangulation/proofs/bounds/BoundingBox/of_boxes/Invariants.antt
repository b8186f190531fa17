use Rattle.std.proofs.Common.{take}
use Rattle.std.specs.Prelude.{All}
use Rattle.triangulation.specs.CornerIndexes.{BoxHasAllOf}
use Rattle.triangulation.proofs.bounds.BoundingBox.of_boxes.Given as goal

abbrev pub invariant-loop-part : goal.invariant-loop-part
invariant-loop-part l = All (BoxHasAllOf l.around) (take l.part-index l.boxes)
