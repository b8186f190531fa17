-- No edge so far meets the other ring.
use Rattle.std.specs.Prelude.{All}
use Rattle.triangulation.specs.CornerIndexes.{IsInBox}
use Rattle.triangulation.specs.Polygons.{MeetsEdge}
use Rattle.triangulation.proofs.RingPathLemmas.{IsPathTo}
use Rattle.triangulation.proofs.MeetingLemmas.{NoEdgeBefore}
use Rattle.triangulation.proofs.meetings.rings_meet.Given as goal

abbrev pub invariant-loop-b : goal.invariant-loop-b
invariant-loop-b l = record {
  path : IsPathTo l.one l.a l.b-index;
  none : All (IsInBox l.around) l.other → NoEdgeBefore (λ a b. MeetsEdge a b l.other) l.one l.b-index;
}
