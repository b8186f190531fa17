use Rattle.std.specs.Prelude.{◌+◌, ◌^◌, ◌<◌, ◌≤◌, length, vec_capacity}
use Rattle.std.specs.declared.vec.Vec.{Vec}
use Rattle.std.proofs.Common.{arith}

module _ {X Z : Type 0} where
  pub slots_have_capacity : (v : Vec X Z) → length v.items ≤ vec_capacity v
  slots_have_capacity v = rw (← v.ok.0) v.ok.1

  pub slots_fit : (v : Vec X Z) → vec_capacity v + 1 < 2 ^ 64
  slots_fit v = omega (arith, v.small)
