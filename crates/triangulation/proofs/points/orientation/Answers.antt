use Rattle.std.proofs.Common.{◌≡◌, ℤ, ◌≤◌, ◌^◌, ◌*ℤ◌, ◌-ℤ◌, unsigned_abs, to_z, of_z, ap, ◌∙◌, arith, rules, w32}
use Rattle.std.specs.Int.{w128}
use Rattle.std.proofs.lemmas.Int.{ints, to_z-of_z, fits_signed_from_abs}
use Rattle.triangulation.proofs.points.orientation.Goals as goal

wide : (z : ℤ) → unsigned_abs z ≤ 2 ^ 32 → to_z w128 (of_z w128 z) ≡ z
wide z small = to_z-of_z w128 z (fits_signed_from_abs w128 z (omega (arith, small)))

both : (f : ℤ → ℤ → ℤ) {a b c d : ℤ} → a ≡ c → b ≡ d → f a b ≡ f c d
both f {a} {b} {c} {d} first second = ap (λ (z : ℤ). f z b) first ∙ ap (λ (z : ℤ). f c z) second

pub overflow_sub-result : goal.overflow_sub-result
overflow_sub-result c =
    let first = c.product-first.ensures.small in
    let second = c.product-second.ensures.small in
    omega (arith, ints)

pub returns : goal.returns
returns c =
    let px = to_z-of_z w32 c.args.p.x (search rules) in
    let py = to_z-of_z w32 c.args.p.y (search rules) in
    let qx = to_z-of_z w32 c.args.q.x (search rules) in
    let qy = to_z-of_z w32 c.args.q.y (search rules) in
    let rx = to_z-of_z w32 c.args.r.x (search rules) in
    let ry = to_z-of_z w32 c.args.r.y (search rules) in
    let one = wide c.difference.result c.difference.ensures.small ∙ (c.difference.ensures.value ∙ both (λ (a b : ℤ). a -ℤ b) qx px) in
    let two = wide c.difference-2.result c.difference-2.ensures.small ∙ (c.difference-2.ensures.value ∙ both (λ (a b : ℤ). a -ℤ b) ry py) in
    let three = wide c.difference-3.result c.difference-3.ensures.small ∙ (c.difference-3.ensures.value ∙ both (λ (a b : ℤ). a -ℤ b) rx px) in
    let four = wide c.difference-4.result c.difference-4.ensures.small ∙ (c.difference-4.ensures.value ∙ both (λ (a b : ℤ). a -ℤ b) qy py) in
    let first = c.product-first.ensures.value ∙ both (λ (a b : ℤ). a *ℤ b) one two in
    let second = c.product-second.ensures.value ∙ both (λ (a b : ℤ). a *ℤ b) three four in
    let whole = overflow_sub-result c in
    let small_first = c.product-first.ensures.small in
    let small_second = c.product-second.ensures.small in
    let read_first = to_z-of_z w128 c.product-first.result (fits_signed_from_abs w128 c.product-first.result (omega (arith, small_first))) in
    let read_second = to_z-of_z w128 c.product-second.result (fits_signed_from_abs w128 c.product-second.result (omega (arith, small_second))) in
    to_z-of_z w128 _ whole ∙ both (λ (a b : ℤ). a -ℤ b) (read_first ∙ first) (read_second ∙ second)
