use Rattle.std.proofs.Common.{◌≡◌, ◌≤◌, ◌^◌, ◌*◌, ◌*ℤ◌, unsigned_abs, to_z, of_z, arith}
use Rattle.std.specs.Int.{w128}
use Rattle.std.proofs.lemmas.Int.{to_z-of_z, fits_signed_mul, unsigned_abs-mul}
use Rattle.std.proofs.lemmas.Nat.{mul-le}
use Rattle.triangulation.proofs.points.product.Goals as goal

pub returns-clause-value : goal.returns-clause-value
returns-clause-value c =
    let first_fits = c.ranges.a in
    let second_fits = c.ranges.b in
    let product_fits = fits_signed_mul w128 c.args.a c.args.b (2 ^ 32) (2 ^ 32) c.requires.first c.requires.second (omega arith) in
    simp to_z-of_z

pub returns-clause-small : goal.returns-clause-small
returns-clause-small c =
    let same : to_z w128 (of_z w128 (to_z w128 (of_z w128 c.args.a) *ℤ to_z w128 (of_z w128 c.args.b))) ≡ c.args.a *ℤ c.args.b = returns-clause-value c in
    let small : unsigned_abs c.args.a * unsigned_abs c.args.b ≤ 2 ^ 64 = mul-le (unsigned_abs c.args.a) (unsigned_abs c.args.b) (2 ^ 32) (2 ^ 32) c.requires.first c.requires.second in
    rw same (rw (unsigned_abs-mul c.args.a c.args.b) small)
