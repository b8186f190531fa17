use Rattle.std.proofs.Common.{arith}
use Rattle.arena_base.proofs.slot.inx_at.Goals as goal

pub overflow_add-k : goal.overflow_add-k
overflow_add-k g c = omega (arith, g.met.P.Inx.InxKey.greatest_fits)

pub proved_unreachable-assume_proved-requires : goal.proved_unreachable-assume_proved-requires
proved_unreachable-assume_proved-requires g c = absurd (let made = c.in-None.ensures.variant.1 (omega arith, omega arith) in cc)
