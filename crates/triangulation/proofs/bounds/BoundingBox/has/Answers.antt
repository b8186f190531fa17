use Rattle.std.proofs.Common.{arith}
use Rattle.std.proofs.lemmas.Int.{ints}
use Rattle.triangulation.proofs.bounds.BoundingBox.has.Goals as goal

pub returns-then-is_between : goal.returns-then-is_between
returns-then-is_between c = (
  λ true. (
      let wide = c.is_between.ensures.0 c.if-is_between.true in
      let high = c.is_between-then-is_between.ensures.0 true in
      record { left = omega (arith, ints, wide.0); right = omega (arith, ints, wide.1); bottom = omega (arith, ints, high.0); top = omega (arith, ints, high.1) }),
  λ inside. (
      let low = inside.bottom in
      let high = inside.top in
      c.is_between-then-is_between.ensures.1 (omega (arith, ints, low), omega (arith, ints, high))),
)
