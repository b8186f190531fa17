-- The numbers so far are coordinates of the points so far.
use Rattle.std.proofs.Common.{◌≤◌, ◌-◌, length}
use Rattle.triangulate.specs.RingTexts.{AreNumbersAt, coordinates_of}
use Rattle.triangulate.proofs.rings.ring.Given as goal

abbrev pub invariant-loop-points : goal.invariant-loop-points
invariant-loop-points l = record { read : AreNumbersAt l.line 0 (coordinates_of l.points.items) l.at; within : l.at ≤ length l.line }

abbrev pub decreases-loop-points : goal.decreases-loop-points
decreases-loop-points l = length l.line - l.at
