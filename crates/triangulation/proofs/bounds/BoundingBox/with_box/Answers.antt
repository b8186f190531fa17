use Rattle.std.proofs.Common.{arith}
use Rattle.std.proofs.lemmas.Int.{ints}
use Rattle.triangulation.proofs.bounds.BoundingBox.with_box.Goals as goal

pub returns-clause-first : goal.returns-clause-first
returns-clause-first c = λ p inside. record {
  left = let bound = c.min.ensures.self_bound in let is = inside.left in omega (arith, ints, bound, is);
  right = let bound = c.max.ensures.self_bound in let is = inside.right in omega (arith, ints, bound, is);
  bottom = let bound = c.min-2.ensures.self_bound in let is = inside.bottom in omega (arith, ints, bound, is);
  top = let bound = c.max-2.ensures.self_bound in let is = inside.top in omega (arith, ints, bound, is);
}

pub returns-clause-second : goal.returns-clause-second
returns-clause-second c = λ p inside. record {
  left = let bound = c.min.ensures.other_bound in let is = inside.left in omega (arith, ints, bound, is);
  right = let bound = c.max.ensures.other_bound in let is = inside.right in omega (arith, ints, bound, is);
  bottom = let bound = c.min-2.ensures.other_bound in let is = inside.bottom in omega (arith, ints, bound, is);
  top = let bound = c.max-2.ensures.other_bound in let is = inside.top in omega (arith, ints, bound, is);
}
