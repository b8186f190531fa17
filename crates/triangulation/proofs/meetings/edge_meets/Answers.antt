use Rattle.std.proofs.Common.{get_or, refl}
use Rattle.std.proofs.lemmas.Bool.{both_ways, false≢true}
use Rattle.triangulation.specs.Polygons.{SegmentsMeet}
use Rattle.triangulation.proofs.RingPathLemmas.{origin, path_more, path_edge}
use Rattle.triangulation.proofs.MeetingLemmas.{no_edge_more, no_edge_end}
use Rattle.triangulation.proofs.meetings.edge_meets.Goals as goal

pub loop-d-preserved : goal.loop-d-preserved
loop-d-preserved c = record {
  path = path_more c.args.ring.now c.loop-d.c c.loop-d.d-index c.loop-d.invariant.path c.loop-d-test.true;
  none = no_edge_more (SegmentsMeet c.args.a c.args.b) c.args.ring.now c.loop-d.c c.loop-d.d-index c.loop-d.invariant.path c.loop-d.invariant.none
      (λ meet. both_ways c.segments_meet.result c.if-segments_meet.false (c.segments_meet.ensures.1 meet));
}

pub returns-then-segments_meet : goal.returns-then-segments_meet
returns-then-segments_meet c = (
  λ true. record {
    c = c.loop-d.c;
    d = get_or c.args.ring.now c.loop-d.d-index origin;
    edge = path_edge c.args.ring.now c.loop-d.c c.loop-d.d-index c.loop-d.invariant.path c.loop-d-test.true;
    meet = c.segments_meet.ensures.0 c.if-segments_meet.true;
  },
  λ meets. refl,
)

pub returns : goal.returns
returns c = (
  λ false. absurd (false≢true false),
  λ meets. absurd (no_edge_end (SegmentsMeet c.args.a c.args.b) c.args.ring.now c.loop-d.d-index c.loop-d.invariant.none c.loop-d-test.false meets.c meets.d meets.edge meets.meet),
)
