use Rattle.std.proofs.Common.{sym, ap, ◌∙◌}
use Rattle.arena_base.proofs.DetachedSlotLemmas.{detached_moved, brought_there, brought_free}
use Rattle.arena_base.proofs.SlotLemmas.{slice_index_or-map}
use Rattle.arena_base.proofs.detached_slots.DetachedSlots.move_to_free_slot.Goals as goal

pub proved_unreachable-assume_proved-requires : goal.proved_unreachable-assume_proved-requires
proved_unreachable-assume_proved-requires g c = absurd (
    let items = g.S.SlotStack.items c.self.inside.slots in
    brought_there items c.args.self.now.slots (ap (λ h. h.slots) c.self.view_is) c.position_of.result (g.P.Inx.InxKey.number c.args.from) c.position_of.ensures c.in-None.ensures.entry c.requires.entry)

pub returns : goal.returns
returns g c =
    let number = g.P.Inx.InxKey.number in
    let slots = c.self.inside.slots in
    let items = g.S.SlotStack.items slots in
    let i = c.position_of.result in
    let j = c.position_of-in-Some.result in
    let free = brought_free items c.args.self.now.slots (ap (λ h. h.slots) c.self.view_is) i (number c.args.from) c.position_of.ensures j (number c.args.to) c.position_of-in-Some.ensures c.requires.free in
    rw (← c.self.view_is, c.write_at.ensures.items, c.write_at.ensures.bounds.0, c.write_at.ensures.bounds.1, c.in-Some.ensures.some, c.in-Some.ensures.bounds.0, c.in-Some.ensures.bounds.1)
    (detached_moved items (g.S.SlotStack.capacity slots) (g.S.SlotStack.maximum slots) i j (number c.args.from) (number c.args.to) c.args.generation c.in-Some.field-0-0 c.in-Some.t _
    c.position_of.ensures c.position_of-in-Some.ensures (c.in-Some.ensures.entry ∙ sym (slice_index_or-map items i)) free)
