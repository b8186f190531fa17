use Rattle.std.proofs.Common.{refl, sym, ◌∙◌, ap}
use Rattle.std.specs.Option.{option_map}
use Rattle.arena_traits.specs.Arena.{with_value}
use Rattle.arena_base.specs.Slots.{entry_in, with_value_in}
use Rattle.arena_traits.specs.Entries.{view_of}
use Rattle.arena_base.proofs.SlotLemmas.{entry_at-position, slice_set-itself}
use Rattle.arena_base.proofs.SoundnessLemmas.{lent, closed}
use Rattle.arena_traits.proofs.ArenaViewLemmas.{viewed_written}
use Rattle.arena_base.proofs.ArenaModelLemmas.{lent_view, kept_view}
use Rattle.arena_core.proofs.OptionLemmas.{on_some}
use Rattle.arena_base.proofs.arena_trait.ArenaArenaTrait.get_inx_mut.Goals as goal

pub invariant_of-self-lent : goal.invariant_of-self-lent
invariant_of-self-lent g c o =
    let packed_number = g.P.Inx.InxKey.packed_number in
    let slots = c.self.inside.slots in
    let items = g.S.SlotStack.items slots in
    let k = c.position_of.result in
    let slot = c.in-Some.slot.now in
    let is = sym c.in-Some.ensures.value in (
      λ w. rw (g.met.S.SlotStack.items_written slots k (with_value_in slot w)) (closed packed_number (lent packed_number k slot w c.self.invariant is)),
      rw (g.met.S.SlotStack.items_written slots k slot, slice_set-itself items k slot is) c.self.invariant,
    )

pub returns-in-Some : goal.returns-in-Some
returns-in-Some g c =
    let packed_number = g.P.Inx.InxKey.packed_number in
    let slots = c.self.inside.slots in
    let items = g.S.SlotStack.items slots in
    let k = c.position_of.result in
    let n = g.P.Inx.InxKey.number c.args.i in
    let slot = c.in-Some.slot.now in
    let is = sym c.in-Some.ensures.value in
    let at = c.position_of.ensures in (
      (
        refl,
        (λ w.
            let written = lent_view packed_number c.self.invariant c.self.inside.counter (g.S.SlotStack.capacity slots) (g.S.SlotStack.maximum slots) c.self.inside.placed.count c.self.inside.touched.count k n slot w
            (g.S.SlotStack.items (g.S.SlotStack.with_item slots k (with_value_in slot w))) (g.S.SlotStack.capacity (g.S.SlotStack.with_item slots k (with_value_in slot w))) (g.S.SlotStack.maximum (g.S.SlotStack.with_item slots k (with_value_in slot w)))
            at is (g.met.S.SlotStack.items_written slots k (with_value_in slot w)) (g.met.S.SlotStack.capacity_written slots k (with_value_in slot w)) (g.met.S.SlotStack.maximum_written slots k (with_value_in slot w))
            ∙ ap (λ a. with_value a n w) c.self.view_is in
            on_some c.value_mut.result (ap view_of written ∙ viewed_written c.args.self.now n w, written)),
        kept_view packed_number items (g.S.SlotStack.items (g.S.SlotStack.with_item slots k slot)) c.self.inside.first_free c.self.inside.counter g.P.Inx.InxKey.greatest (g.S.SlotStack.capacity slots) (g.S.SlotStack.capacity (g.S.SlotStack.with_item slots k slot)) (g.S.SlotStack.maximum slots) (g.S.SlotStack.maximum (g.S.SlotStack.with_item slots k slot))
            c.self.inside.placed.count c.self.inside.touched.count k slot is (g.met.S.SlotStack.items_written slots k slot) (g.met.S.SlotStack.capacity_written slots k slot) (g.met.S.SlotStack.maximum_written slots k slot)
            ∙ c.self.view_is,
      ),
      record { writes_back = tt; value = c.value_mut.ensures.value ∙ rw (← c.self.view_is) (ap (option_map (λ e. e.1)) (sym (entry_at-position items k n at ∙ ap entry_in is))) },
    )

pub returns-in-None : goal.returns-in-None
returns-in-None g c =
    let number = g.P.Inx.InxKey.number in
    let items = g.S.SlotStack.items c.self.inside.slots in (
      (refl, (λ w. tt), c.self.view_is),
      record { writes_back = tt; value = rw (← c.self.view_is, entry_at-position items c.position_of.result (number c.args.i) c.position_of.ensures, ← c.in-None.ensures.value) },
    )
