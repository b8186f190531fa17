use Rattle.std.proofs.Common.{ℤ, IsTrue}
use Rattle.std.specs.Prelude.{◌↔◌}
use Rattle.std.proofs.lemmas.Bool.{both_ways, not-true, not_from_false, false_from_ne_true}
use Rattle.triangulation.specs.Polygons.{IsRangeBelow}
use Rattle.triangulation.proofs.MeetingLemmas.{of_passed}
use Rattle.triangulation.proofs.meetings.ranges_meet.Goals as goal

pub returns-then-not-is_range_below : goal.returns-then-not-is_range_below
returns-then-not-is_range_below c =
    let result = c.is_range_below.result in
    let other = c.is_range_below-then-not-is_range_below.result in
    let first = of_passed (λ (k l m n : ℤ). IsTrue result ↔ IsRangeBelow k l m n) c.args.a c.args.b c.args.c c.args.d c.ranges.a c.ranges.b c.ranges.c c.ranges.d c.is_range_below.ensures in
    let second = of_passed (λ (k l m n : ℤ). IsTrue other ↔ IsRangeBelow k l m n) c.args.c c.args.d c.args.a c.args.b c.ranges.c c.ranges.d c.ranges.a c.ranges.b c.is_range_below-then-not-is_range_below.ensures in (
      λ true. (
        λ below. both_ways result c.if-not-is_range_below.true (first.1 below),
        λ below. both_ways other (not-true other true) (second.1 below),
      ),
      λ meet. not_from_false other (false_from_ne_true other (λ is. meet.1 (second.0 is))),
    )
