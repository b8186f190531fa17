use Rattle.std.proofs.Common.{◌≡◌, ℤ, ◌*ℤ◌, ◌-ℤ◌, ap, ◌∙◌, arith, rules, w32}
use Rattle.std.specs.Int.{w128}
use Rattle.std.proofs.lemmas.Int.{ints, to_z-of_z, fits_signed_from_abs}
use Rattle.triangulation.proofs.areas.edge_area.Goals as goal

both : (f : ℤ → ℤ → ℤ) {a b c d : ℤ} → a ≡ c → b ≡ d → f a b ≡ f c d
both f {a} {b} {c} {d} first second = ap (λ (z : ℤ). f z b) first ∙ ap (λ (z : ℤ). f c z) second

pub overflow_sub-result : goal.overflow_sub-result
overflow_sub-result c =
    let first = c.coordinate_product-first.ensures.small in
    let second = c.coordinate_product-second.ensures.small in
    omega (arith, ints)

pub returns-clause-value : goal.returns-clause-value
returns-clause-value c =
    let px = to_z-of_z w32 c.args.p.x (search rules) in
    let py = to_z-of_z w32 c.args.p.y (search rules) in
    let qx = to_z-of_z w32 c.args.q.x (search rules) in
    let qy = to_z-of_z w32 c.args.q.y (search rules) in
    let first = c.coordinate_product-first.ensures.value ∙ both (λ (a b : ℤ). a *ℤ b) px qy in
    let second = c.coordinate_product-second.ensures.value ∙ both (λ (a b : ℤ). a *ℤ b) qx py in
    let small_first = c.coordinate_product-first.ensures.small in
    let small_second = c.coordinate_product-second.ensures.small in
    let read_first = to_z-of_z w128 c.coordinate_product-first.result (fits_signed_from_abs w128 c.coordinate_product-first.result (omega (arith, small_first))) in
    let read_second = to_z-of_z w128 c.coordinate_product-second.result (fits_signed_from_abs w128 c.coordinate_product-second.result (omega (arith, small_second))) in
    to_z-of_z w128 _ (overflow_sub-result c) ∙ both (λ (a b : ℤ). a -ℤ b) (read_first ∙ first) (read_second ∙ second)

pub returns-clause-small : goal.returns-clause-small
returns-clause-small c =
    let first = c.coordinate_product-first.ensures.small in
    let second = c.coordinate_product-second.ensures.small in
    let fits = overflow_sub-result c in
    omega (arith, ints)
