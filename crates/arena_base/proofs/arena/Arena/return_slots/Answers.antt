use Rattle.arena_base.proofs.SoundnessLemmas.{closed, walked_all}
use Rattle.arena_base.proofs.arena.Arena.return_slots.Goals as goal

pub invariant_of-self : goal.invariant_of-self
invariant_of-self g c = closed g.P.Inx.InxKey.packed_number c.relist-len.ensures.sound

pub returns : goal.returns
returns g c =
    rw (← c.self.view_is, ← c.detached.view_is, walked_all g.P.Inx.InxKey.packed_number c.relist-len.ensures.sound, c.relist-len.ensures.entries, c.relist-len.ensures.bounds.0, c.relist-len.ensures.bounds.1, c.trim.ensures.items, c.trim.ensures.bounds.0, c.trim.ensures.bounds.1)
