use Rattle.std.proofs.Common.{ap, ◌∙◌}
use Rattle.std.specs.Prelude.{slice_get}
use Rattle.arena_base.specs.Slots.{allocated_slot, entry_in}
use Rattle.arena_base.proofs.SlotLemmas.{entry_at-position, allocated-at, the_value, with_generation_at-set}
use Rattle.arena_base.proofs.SoundnessLemmas.{rewritten, closed, walked_all}
use Rattle.arena_base.proofs.ArenaModelLemmas.{viewed_renewed_slot}
use Rattle.arena_base.proofs.arena.Arena.renew_at.Goals as goal

pub regenerate_at-requires : goal.regenerate_at-requires
regenerate_at-requires g c =
    let items = g.S.SlotStack.items c.self.inside.slots in
    let some = rw (← c.self.view_is, entry_at-position items c.position_of.result (g.P.Inx.InxKey.number c.args.i) c.position_of.ensures) at c.requires in
    some

pub invariant_of-self : goal.invariant_of-self
invariant_of-self g c =
    let number = g.P.Inx.InxKey.number in
    let packed_number = g.P.Inx.InxKey.packed_number in
    let items = g.S.SlotStack.items c.self.inside.slots in
    let k = c.position_of.result in
    let some = rw (← c.self.view_is, entry_at-position items k (number c.args.i) c.position_of.ensures) at c.requires in
    let entry = the_value (entry_in (slice_get items k)) some in
    let is = allocated-at (slice_get items k) entry.0 entry.1 in
    let after = with_generation_at-set items k (allocated_slot entry.0.0 entry.0.1) c.generational_inc-generation.result.0 is in
    rw (c.regenerate_at.ensures.items, ← after) (closed packed_number (rewritten packed_number c.self.invariant k entry.0.0 c.generational_inc-generation.result.0 entry.0.1 entry.0.1 is))

pub returns : goal.returns
returns g c =
    let number = g.P.Inx.InxKey.number in
    let packed_number = g.P.Inx.InxKey.packed_number in
    let items = g.S.SlotStack.items c.self.inside.slots in
    let k = c.position_of.result in
    let some = rw (← c.self.view_is, entry_at-position items k (number c.args.i) c.position_of.ensures) at c.requires in
    let entry = the_value (entry_in (slice_get items k)) some in
    let is = allocated-at (slice_get items k) entry.0 entry.1 in
    let after = with_generation_at-set items k (allocated_slot entry.0.0 entry.0.1) c.generational_inc-generation.result.0 is in
    let sound = rewritten packed_number c.self.invariant k entry.0.0 c.generational_inc-generation.result.0 entry.0.1 entry.0.1 is in
    record {
      next = c.generational_inc-generation.ensures.next ∙ ap (λ a. g.P.Gen.GenKey.following a.counter) c.self.view_is;
      overflow = c.generational_inc-generation.ensures.overflow ∙ ap (λ a. g.P.Gen.GenKey.wraps a.counter) c.self.view_is;
      after = rw (← c.self.view_is, c.regenerate_at.ensures.items, c.regenerate_at.ensures.bounds.0, c.regenerate_at.ensures.bounds.1, ← after, walked_all packed_number sound, c.generational_inc-generation.ensures.next)
          (viewed_renewed_slot items _ c.self.inside.counter g.P.Inx.InxKey.greatest (g.S.SlotStack.capacity c.self.inside.slots) (g.S.SlotStack.maximum c.self.inside.slots) c.self.inside.placed.count c.self.inside.touched.count
          g.P.Gen.GenKey.following k (number c.args.i) entry.0.0 entry.0.1 c.position_of.ensures is);
    }
