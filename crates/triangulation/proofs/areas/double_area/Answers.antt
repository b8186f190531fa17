use Rattle.std.proofs.Common.{◌≡◌, ◌+◌, ◌+ℤ◌, ℤ, get_or, to_z, of_z, sym, subst, arith}
use Rattle.std.specs.Int.{w128}
use Rattle.std.proofs.lemmas.Int.{ints}
use Rattle.triangulation.proofs.RingPathLemmas.{origin, HasPathArea, area_more, area_ends}
use Rattle.triangulation.proofs.areas.double_area.Goals as goal

pub loop-corner-preserved : goal.loop-corner-preserved
loop-corner-preserved c =
    let ring = c.args.corners.now in
    let sum = to_z w128 c.loop-corner.sum-bits in
    let small = c.loop-corner.invariant.small in
    let edge_small = c.edge_area-sum.ensures.small in
    let fits = c.loop-corner.auto.sum-fits in
    let long = c.loop-corner.auto.corner-index-end in
    let whole : to_z w128 (of_z w128 (sum +ℤ to_z w128 (of_z w128 c.edge_area-sum.result))) ≡ sum +ℤ c.edge_area-sum.result = omega (arith, ints) in
    record {
      area = subst (λ (z : ℤ). HasPathArea ring (get_or ring c.loop-corner.corner-index origin) (c.loop-corner.corner-index + 1) z) (sym whole) (area_more ring c.loop-corner.before c.loop-corner.corner-index sum c.edge_area-sum.result c.loop-corner.invariant.area c.loop-corner-test.true c.edge_area-sum.ensures.value);
      small = omega (arith, ints, whole);
    }

pub returns : goal.returns
returns c = area_ends c.args.corners.now c.loop-corner.before c.loop-corner.corner-index (to_z w128 c.loop-corner.sum-bits) c.loop-corner.invariant.area c.loop-corner-test.false
