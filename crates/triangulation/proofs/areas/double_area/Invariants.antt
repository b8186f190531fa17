-- The sum over the edges so far, each of which is small.
use Rattle.std.proofs.Common.{◌≤◌, ◌^◌, ◌*◌, unsigned_abs}
use Rattle.triangulation.proofs.RingPathLemmas.{HasPathArea}
use Rattle.triangulation.proofs.areas.double_area.Given as goal

abbrev pub invariant-loop-corner : goal.invariant-loop-corner
invariant-loop-corner l = record {
  area : HasPathArea l.corners l.before l.corner-index l.sum;
  small : unsigned_abs l.sum ≤ l.corner-index * 2 ^ 63;
}
