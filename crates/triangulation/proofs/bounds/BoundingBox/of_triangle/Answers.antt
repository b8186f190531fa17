use Rattle.triangulation.proofs.TriangleLemmas.{triangle_in_box}
use Rattle.triangulation.proofs.bounds.BoundingBox.of_triangle.Goals as goal

pub returns : goal.returns
returns c = λ positive p inside. triangle_in_box c.args.t p positive inside c.with_point-3.result
    (c.with_point-3.ensures.rest c.args.t.a (c.with_point-2.ensures.rest c.args.t.a c.with_point.ensures.point)) (c.with_point-3.ensures.rest c.args.t.b c.with_point-2.ensures.point) c.with_point-3.ensures.point
