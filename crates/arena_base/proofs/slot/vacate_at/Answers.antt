use Rattle.std.proofs.Common.{◌≡◌, Option, None, Some, sym, ◌∙◌, ap, refl}
use Rattle.std.specs.Prelude.{IfNone, OnSome, slice_set}
use Rattle.arena_base.specs.Slots.{entry_in}
use Rattle.arena_base.proofs.SlotLemmas.{freed_slot-free, freed_slot-taken, slice_set-itself}
use Rattle.arena_base.proofs.slot.vacate_at.Goals as goal

if_none : {X : Type 0} {Q : Type 0} (o : Option X) → (o ≡ None → Q) → IfNone o Q
if_none None q = q refl
if_none (Some x) q = tt

if_some : {X : Type 0} {Q : Type 0} (o : Option X) → ((x : X) → o ≡ Some x → Q) → OnSome o Q
if_some None q = tt
if_some (Some x) q = q x refl

pub returns-in-Some : goal.returns-in-Some
returns-in-Some g c =
    let slots = c.args.slots.now in
    let items = g.S.SlotStack.items slots in
    let k = c.args.k in
    let slot = c.in-Some.slot.now in
    let made = c.vacate.ensures in
    let is = sym c.in-Some.ensures.value in
    let written = g.met.S.SlotStack.items_written slots k c.vacate.new.self in
    record {
      entry = made.entry ∙ sym (ap entry_in is);
      some = if_some c.vacate.result (λ e some. written ∙ ap (slice_set items k) (made.after ∙ freed_slot-taken slot c.args.next e (sym made.entry ∙ some)));
      none = if_none c.vacate.result (λ none. written ∙ (ap (slice_set items k) (made.after ∙ freed_slot-free slot c.args.next (sym made.entry ∙ none)) ∙ slice_set-itself items k slot is));
      bounds = (g.met.S.SlotStack.capacity_written slots k c.vacate.new.self, g.met.S.SlotStack.maximum_written slots k c.vacate.new.self);
    }

pub returns-in-None : goal.returns-in-None
returns-in-None g c = record { entry = ap entry_in c.in-None.ensures.value; some = tt; none = refl; bounds = (refl, refl) }
