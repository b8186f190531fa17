use Rattle.std.proofs.Common.{◌≡◌, ◌-◌, Some, None, sym, ◌∙◌, ap, arith}
use Rattle.std.specs.Prelude.{slice_get}
use Rattle.arena_traits.specs.Arena.{entry_at, remove_at}
use Rattle.arena_traits.proofs.CallOutcomeLemmas.{reports_made}
use Rattle.arena_base.proofs.SlotLemmas.{entry_at-position, allocated-at}
use Rattle.arena_base.proofs.SoundnessLemmas.{slot_vacated, closed, some_taken}
use Rattle.arena_base.proofs.ArenaModelLemmas.{vacated_view}
use Rattle.arena_base.proofs.arena.Arena.take_at.Goals as goal

pub overflow_sub-self : goal.overflow_sub-self
overflow_sub-self g c =
    let is = allocated-at (slice_get (g.S.SlotStack.items c.self.inside.slots) c.position_of.result) c.in-Some.entry c.in-Some.ensures.entry in
    some_taken g.P.Inx.InxKey.packed_number c.self.invariant c.position_of.result _ _ is

pub invariant_of-self : goal.invariant_of-self
invariant_of-self g c =
    let packed_number = g.P.Inx.InxKey.packed_number in
    let is = allocated-at (slice_get (g.S.SlotStack.items c.self.inside.slots) c.position_of.result) c.in-Some.entry c.in-Some.ensures.entry in
    let some = some_taken packed_number c.self.invariant c.position_of.result _ _ is in
    rw c.in-Some.ensures.some (closed packed_number (slot_vacated packed_number c.self.invariant c.position_of.result _ c.pack-self-inside.result _ _ (c.self.inside.len - 1) c.pack-self-inside.ensures c.position_of.ensures is (omega (arith, some))))

pub returns-in-Some : goal.returns-in-Some
returns-in-Some g c =
    let inside = c.self.inside in
    let items = g.S.SlotStack.items inside.slots in
    let k = c.position_of.result in
    let n = g.P.Inx.InxKey.number c.args.i in
    let was_stored : entry_at c.args.self.now n ≡ Some c.in-Some.entry = ap (λ a. entry_at a n) (sym c.self.view_is) ∙ (entry_at-position items k n c.position_of.ensures ∙ sym c.in-Some.ensures.entry) in
    let following = g.P.Gen.GenKey.following in
    let wraps = g.P.Gen.GenKey.wraps in
    let overflow : c.generational_inc-generation.result.1 ≡ wraps c.args.self.now.counter = c.generational_inc-generation.ensures.overflow ∙ ap (λ a. wraps a.counter) c.self.view_is in
    let after = vacated_view g.P.Inx.InxKey.packed_number c.self.invariant inside.counter c.generational_inc-generation.result.0 (g.S.SlotStack.capacity inside.slots) (g.S.SlotStack.capacity c.vacate_at.new.slots) (g.S.SlotStack.maximum inside.slots) (g.S.SlotStack.maximum c.vacate_at.new.slots) inside.placed.count _ inside.touched.count
    following k n c.pack-self-inside.result _ _ (g.S.SlotStack.items c.vacate_at.new.slots) c.pack-self-inside.ensures c.position_of.ensures (allocated-at (slice_get items k) c.in-Some.entry c.in-Some.ensures.entry)
    c.in-Some.ensures.some c.vacate_at.ensures.bounds.0 c.vacate_at.ensures.bounds.1 c.generational_inc-generation.ensures.next c.one_more-self-inside.ensures
    ∙ ap (λ a. remove_at following a n) c.self.view_is in
    reports_made wraps _ _ c.args.self.now.counter c.generational_inc-generation.result.1 c.in-Some.entry c.from_overflow.result c.from_overflow.ensures overflow (was_stored, after)

pub returns-in-None : goal.returns-in-None
returns-in-None g c =
    let n = g.P.Inx.InxKey.number c.args.i in
    let missing : entry_at c.args.self.now n ≡ None = ap (λ a. entry_at a n) (sym c.self.view_is) ∙ (entry_at-position (g.S.SlotStack.items c.self.inside.slots) c.position_of.result n c.position_of.ensures ∙ sym c.in-None.ensures.entry) in
    (missing, rw (c.in-None.ensures.none, c.vacate_at.ensures.bounds.0, c.vacate_at.ensures.bounds.1) c.self.view_is)
