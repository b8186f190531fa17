use Rattle.std.proofs.Common.{length, ap, arith}
use Rattle.std.proofs.lemmas.List.{length-map}
use Rattle.arena_base.specs.Slots.{entry_of, with_generation_at}
use Rattle.arena_base.proofs.SlotLemmas.{entry_at-position}
use Rattle.arena_base.proofs.DetachedSlotLemmas.{detached_placed, length-swap, length-with_generation_at}
use Rattle.arena_base.proofs.detached_slots.DetachedSlots.place.Goals as goal

pub regenerate_at-requires : goal.regenerate_at-requires
regenerate_at-requires g c =
    let items = g.S.SlotStack.items c.self.inside.slots in
    let some = rw (← c.self.view_is, entry_at-position items c.position_of-from.result (g.P.Inx.InxKey.number c.args.from) c.position_of-from.ensures) at c.requires.entry in
    some

pub swap-requires : goal.swap-requires
swap-requires g c =
    let items = g.S.SlotStack.items c.self.inside.slots in
    let long = ap (λ h. length h.slots) c.self.view_is in
    let now = length-with_generation_at items c.position_of-from.result c.args.generation in
    rw c.regenerate_at.ensures.items (record {
      i_in_bounds = omega (arith, long, now, length-map items entry_of, c.position_of-from.ensures, c.requires.from);
      j_in_bounds = omega (arith, long, now, length-map items entry_of, c.position_of.ensures, c.requires.to);
    })

pub invariant_of-self : goal.invariant_of-self
invariant_of-self g c =
    let items = g.S.SlotStack.items c.self.inside.slots in
    let i = c.position_of-from.result in
    let with_generation = with_generation_at items i c.args.generation in
    rw (c.swap.ensures.items, c.regenerate_at.ensures.items) (omega (arith, c.self.invariant, length-swap with_generation i c.position_of.result, length-with_generation_at items i c.args.generation))

pub returns : goal.returns
returns g c =
    let number = g.P.Inx.InxKey.number in
    let slots = c.self.inside.slots in
    let items = g.S.SlotStack.items slots in
    let long = ap (λ h. length h.slots) c.self.view_is in
    rw (← c.self.view_is, c.swap.ensures.items, c.swap.ensures.capacity, c.swap.ensures.maximum, c.regenerate_at.ensures.items, c.regenerate_at.ensures.bounds.0, c.regenerate_at.ensures.bounds.1)
    (detached_placed items (g.S.SlotStack.capacity slots) (g.S.SlotStack.maximum slots) c.position_of-from.result c.position_of.result (number c.args.from) (number c.args.to) c.args.generation c.position_of-from.ensures c.position_of.ensures
    (omega (arith, long, length-map items entry_of, c.position_of-from.ensures, c.requires.from)) (omega (arith, long, length-map items entry_of, c.position_of.ensures, c.requires.to)))
