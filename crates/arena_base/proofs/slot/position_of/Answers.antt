use Rattle.std.proofs.Common.{arith}
use Rattle.arena_base.proofs.slot.position_of.Goals as goal

pub overflow_sub-result : goal.overflow_sub-result
overflow_sub-result g c = omega (arith, c.number_of.ensures, g.met.P.Inx.InxKey.at_least_one c.args.i)
