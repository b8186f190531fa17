use Rattle.std.proofs.Common.{get_or}
use Rattle.std.proofs.lemmas.Bool.{both_ways}
use Rattle.triangulation.specs.Polygons.{MeetsEdge}
use Rattle.triangulation.proofs.RingPathLemmas.{origin, path_more, path_edge}
use Rattle.triangulation.proofs.MeetingLemmas.{no_edge_more, no_edge_end, box_of_meeting}
use Rattle.triangulation.proofs.meetings.rings_meet.Goals.{else-meets-via-then-meets+else-edge_meets, else-meets-via-else-meets}
use Rattle.triangulation.proofs.meetings.rings_meet.Goals as goal

pub loop-b-preserved : goal.loop-b-preserved
loop-b-preserved c =
    let one = c.args.one.now in
    let other = c.args.other.now in
    let around = c.args.around.now in
    let a = c.loop-b.a in
    let b = get_or one c.loop-b.b-index origin in
    let box = c.with_point-in-loop-b in
    record {
      path = path_more one a c.loop-b.b-index c.loop-b.invariant.path c.loop-b-test.true;
      none = λ all. no_edge_more (λ p q. MeetsEdge p q other) one a c.loop-b.b-index c.loop-b.invariant.path (c.loop-b.invariant.none all)
          (λ meets. elim c.else-meets.branch [
            | else-meets-via-then-meets+else-edge_meets w ↦ both_ways w.edge_meets.result w.if-edge_meets.false (w.edge_meets.ensures.1 meets)
            | else-meets-via-else-meets w ↦
                let common = box_of_meeting box.result around a b other (box.ensures.rest a c.with_point.ensures.point) box.ensures.point all meets in
                both_ways c.meets.result w.if-meets.false (c.meets.ensures common.0 common.2 common.1)
          ]);
    }

pub returns-then-edge_meets-clause-meet : goal.returns-then-edge_meets-clause-meet
returns-then-edge_meets-clause-meet c = λ true. record {
  a = c.loop-b.a;
  b = get_or c.args.one.now c.loop-b.b-index origin;
  edge = path_edge c.args.one.now c.loop-b.a c.loop-b.b-index c.loop-b.invariant.path c.loop-b-test.true;
  meets = c.edge_meets.ensures.0 c.if-edge_meets.true;
}

pub returns-clause-found : goal.returns-clause-found
returns-clause-found c = λ all meet. absurd (no_edge_end (λ p q. MeetsEdge p q c.args.other.now) c.args.one.now c.loop-b.b-index (c.loop-b.invariant.none all) c.loop-b-test.false meet.a meet.b meet.edge meet.meets)
