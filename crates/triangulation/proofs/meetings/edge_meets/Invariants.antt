-- No edge of the ring so far meets the edge.
use Rattle.triangulation.specs.Polygons.{SegmentsMeet}
use Rattle.triangulation.proofs.RingPathLemmas.{IsPathTo}
use Rattle.triangulation.proofs.MeetingLemmas.{NoEdgeBefore}
use Rattle.triangulation.proofs.meetings.edge_meets.Given as goal

abbrev pub invariant-loop-d : goal.invariant-loop-d
invariant-loop-d l = record {
  path : IsPathTo l.ring l.c l.d-index;
  none : NoEdgeBefore (SegmentsMeet l.a l.b) l.ring l.d-index;
}
