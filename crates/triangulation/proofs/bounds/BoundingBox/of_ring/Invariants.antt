use Rattle.std.proofs.Common.{take}
use Rattle.std.specs.Prelude.{All}
use Rattle.triangulation.specs.CornerIndexes.{IsInBox}
use Rattle.triangulation.proofs.bounds.BoundingBox.of_ring.Given as goal

abbrev pub invariant-loop-p : goal.invariant-loop-p
invariant-loop-p l = All (IsInBox l.around) (take l.p-index l.ring)
