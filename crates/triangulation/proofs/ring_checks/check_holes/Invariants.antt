-- The holes so far have areas.
use Rattle.std.proofs.Common.{take}
use Rattle.std.specs.Prelude.{All}
use Rattle.triangulation.specs.Polygons.{HasArea}
use Rattle.triangulation.proofs.ring_checks.check_holes.Given as goal

abbrev pub invariant-loop-i : goal.invariant-loop-i
invariant-loop-i l = All (λ hole. HasArea hole.items) (take l.i l.holes)
