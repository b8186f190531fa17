use Rattle.std.proofs.Common.{sym, ap, ◌∙◌}
use Rattle.arena_base.proofs.SlotLemmas.{with_generation_at-set}
use Rattle.std.specs.Prelude.{slice_set}
use Rattle.arena_base.specs.Slots.{allocated_slot, with_generation_in}
use Rattle.arena_base.proofs.slot.regenerate_at.Goals as goal

pub returns : goal.returns
returns g c =
    let slots = c.args.slots.now in
    let items = g.S.SlotStack.items slots in
    let k = c.args.k in
    let slot = allocated_slot c.args.generation c.in-Allocated.field-1 in
    record {
      items = g.met.S.SlotStack.items_written slots k slot
          ∙ (ap (λ s. slice_set items k (with_generation_in s c.args.generation)) (sym c.in-Allocated.is) ∙ with_generation_at-set items k c.in-Some.slot.now c.args.generation (sym c.in-Some.ensures.value));
      bounds = (g.met.S.SlotStack.capacity_written slots k slot, g.met.S.SlotStack.maximum_written slots k slot);
    }
