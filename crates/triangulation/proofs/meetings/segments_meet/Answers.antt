use Rattle.std.proofs.Common.{ℤ, IsTrue, rules}
use Rattle.std.specs.Prelude.{◌↔◌}
use Rattle.std.proofs.lemmas.Bool.{both_ways, false≢true}
use Rattle.triangulation.specs.Polygons.{RangesMeet}
use Rattle.triangulation.proofs.MeetingLemmas.{of_passed}
use Rattle.triangulation.proofs.meetings.segments_meet.Goals as goal

pub returns-then-not-ranges_meet : goal.returns-then-not-ranges_meet
returns-then-not-ranges_meet c =
    let result = c.ranges_meet.result in
    let test = of_passed (λ (k l m n : ℤ). IsTrue result ↔ RangesMeet k l m n) c.args.a.x c.args.b.x c.args.c.x c.args.d.x (search rules) (search rules) (search rules) (search rules) c.ranges_meet.ensures in
    (λ false. absurd (false≢true false), λ meet. absurd (both_ways result c.if-not-ranges_meet.true (test.1 meet.horizontal)))

pub returns-then-not-ranges_meet-2 : goal.returns-then-not-ranges_meet-2
returns-then-not-ranges_meet-2 c =
    let result = c.ranges_meet-2.result in
    let test = of_passed (λ (k l m n : ℤ). IsTrue result ↔ RangesMeet k l m n) c.args.a.y c.args.b.y c.args.c.y c.args.d.y (search rules) (search rules) (search rules) (search rules) c.ranges_meet-2.ensures in
    (λ false. absurd (false≢true false), λ meet. absurd (both_ways result c.if-not-ranges_meet-2.true (test.1 meet.vertical)))

pub returns : goal.returns
returns c =
    let first = c.ranges_meet.result in
    let second = c.ranges_meet-2.result in
    let across = of_passed (λ (k l m n : ℤ). IsTrue first ↔ RangesMeet k l m n) c.args.a.x c.args.b.x c.args.c.x c.args.d.x (search rules) (search rules) (search rules) (search rules) c.ranges_meet.ensures in
    let up = of_passed (λ (k l m n : ℤ). IsTrue second ↔ RangesMeet k l m n) c.args.a.y c.args.b.y c.args.c.y c.args.d.y (search rules) (search rules) (search rules) (search rules) c.ranges_meet-2.ensures in (
      λ true. record {
        first = c.is_across.ensures.0 c.if-not-is_across.false;
        second = c.is_across-2.ensures.0 true;
        horizontal = across.0 c.if-not-ranges_meet.false;
        vertical = up.0 c.if-not-ranges_meet-2.false;
      },
      λ meet. c.is_across-2.ensures.1 meet.second,
    )
