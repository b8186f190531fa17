use Rattle.std.proofs.Common.{refl}
use Rattle.arena_base.proofs.arena.Arena.backing.Goals as goal

pub returns : goal.returns
returns g c = rw (← c.self.view_is) (record { slots = refl; freed = (c.self.inside.first_free, c.self.invariant.linked); capacity = refl; arena_capacity = refl; maximum = refl })
