-- The crossings of the path so far.
use Rattle.std.proofs.Common.{◌≤◌}
use Rattle.triangulation.proofs.RingPathLemmas.{HasPathCrossings}
use Rattle.triangulation.proofs.meetings.is_inside.Given as goal

abbrev pub invariant-loop-b : goal.invariant-loop-b
invariant-loop-b l = record {
  path : HasPathCrossings l.p l.ring l.a l.b-index l.crossings;
  few : l.crossings ≤ l.b-index;
}
