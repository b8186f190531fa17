use Rattle.arena_base.proofs.SlotLemmas.{entry_at-position}
use Rattle.arena_base.proofs.arena_trait.ArenaArenaTrait.get_inx.Goals as goal

pub returns-in-Some-Allocated : goal.returns-in-Some-Allocated
returns-in-Some-Allocated g c =
    rw (← c.self.view_is, entry_at-position (g.S.SlotStack.items c.self.inside.slots) c.position_of.result (g.P.Inx.InxKey.number c.args.i) c.position_of.ensures, ← c.in-Some-Allocated.ensures, c.in-Some-Allocated.field-0-is)

pub returns-in-Some-Free : goal.returns-in-Some-Free
returns-in-Some-Free g c =
    rw (← c.self.view_is, entry_at-position (g.S.SlotStack.items c.self.inside.slots) c.position_of.result (g.P.Inx.InxKey.number c.args.i) c.position_of.ensures, ← c.in-Some-Free.ensures, c.in-Some-Free.field-0-is)

pub returns-in-None : goal.returns-in-None
returns-in-None g c =
    rw (← c.self.view_is, entry_at-position (g.S.SlotStack.items c.self.inside.slots) c.position_of.result (g.P.Inx.InxKey.number c.args.i) c.position_of.ensures, ← c.in-None.ensures)
