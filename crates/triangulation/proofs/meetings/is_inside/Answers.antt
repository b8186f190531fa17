use Rattle.std.proofs.Common.{arith}
use Rattle.triangulation.proofs.RingPathLemmas.{crossings_more, crossings_end}
use Rattle.triangulation.proofs.CrossingLemmas.{inside_if_odd, outside_if_even}
use Rattle.triangulation.proofs.meetings.is_inside.Goals as goal

pub loop-b-preserved : goal.loop-b-preserved
loop-b-preserved c = record {
  path = crossings_more c.args.p c.args.ring.now c.loop-b.a c.loop-b.b-index c.loop-b.crossings c.crossing-crossings.result c.loop-b.invariant.path c.loop-b-test.true c.crossing-crossings.ensures.number;
  few = omega (arith, c.loop-b.invariant.few, c.crossing-crossings.ensures.small);
}

pub returns-clause-outside : goal.returns-clause-outside
returns-clause-outside c = outside_if_even c.args.p c.args.ring.now c.loop-b.crossings (crossings_end c.args.p c.args.ring.now c.loop-b.a c.loop-b.b-index c.loop-b.crossings c.loop-b.invariant.path c.loop-b-test.false)

pub returns-clause-inside : goal.returns-clause-inside
returns-clause-inside c = inside_if_odd c.args.p c.args.ring.now c.loop-b.crossings (crossings_end c.args.p c.args.ring.now c.loop-b.a c.loop-b.b-index c.loop-b.crossings c.loop-b.invariant.path c.loop-b-test.false)
