use Rattle.std.proofs.Common.{refl, sym, ◌∙◌, ap}
use Rattle.std.specs.Option.{option_map}
use Rattle.arena_base.specs.DetachedSlots.{detached_with_value}
use Rattle.arena_base.specs.Slots.{entry_in, with_value_in}
use Rattle.arena_base.proofs.SlotLemmas.{entry_at-position, slice_set-itself}
use Rattle.arena_base.proofs.DetachedSlotLemmas.{detached_lent}
use Rattle.arena_core.proofs.OptionLemmas.{on_some}
use Rattle.arena_base.proofs.detached_slots.DetachedSlotsLendsValue.value_mut.Goals as goal

pub returns-in-Some : goal.returns-in-Some
returns-in-Some g c =
    let slots = c.self.inside.slots in
    let items = g.S.SlotStack.items slots in
    let k = c.position_of.result in
    let n = g.P.Inx.InxKey.number c.args.i in
    let slot = c.in-Some.slot.now in
    let is = sym c.in-Some.ensures.value in
    let at = c.position_of.ensures in (
      (
        refl,
        (λ w.
            let after = g.S.SlotStack.with_item slots k (with_value_in slot w) in
            on_some c.value_mut.result (detached_lent items (g.S.SlotStack.items after) (g.S.SlotStack.capacity slots) (g.S.SlotStack.capacity after) (g.S.SlotStack.maximum slots) (g.S.SlotStack.maximum after) k n slot w at is
            (g.met.S.SlotStack.items_written slots k (with_value_in slot w)) (g.met.S.SlotStack.capacity_written slots k (with_value_in slot w)) (g.met.S.SlotStack.maximum_written slots k (with_value_in slot w))
            ∙ ap (λ h. detached_with_value h n w) c.self.view_is)),
        rw (← c.self.view_is, g.met.S.SlotStack.items_written slots k slot, g.met.S.SlotStack.capacity_written slots k slot, g.met.S.SlotStack.maximum_written slots k slot, slice_set-itself items k slot is),
      ),
      record { writes_back = tt; value = c.value_mut.ensures.value ∙ rw (← c.self.view_is) (ap (option_map (λ e. e.1)) (sym (entry_at-position items k n at ∙ ap entry_in is))) },
    )

pub returns-in-None : goal.returns-in-None
returns-in-None g c =
    let items = g.S.SlotStack.items c.self.inside.slots in (
      (refl, (λ w. tt), c.self.view_is),
      record { writes_back = tt; value = rw (← c.self.view_is, entry_at-position items c.position_of.result (g.P.Inx.InxKey.number c.args.i) c.position_of.ensures, ← c.in-None.ensures.value) },
    )
