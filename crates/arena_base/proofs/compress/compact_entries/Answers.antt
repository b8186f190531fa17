use Rattle.std.proofs.Common.{◌≡◌, ◌+◌, ◌≤◌, length, refl, sym, ap, ◌∙◌, arith, of_calls}
use Rattle.arena_base.specs.GatheredSlots.{with_totals}
use Rattle.std.specs.Option.{option_copied_mut}
use Rattle.arena_traits.specs.Arena.{slot_at}
use Rattle.arena_base.proofs.HoleClosingLemmas.{none_there, closing_length, closing_begins, closing_free, brought_stored, closing_frees, closing_moves, closing_visits, closing_counts, closing_closes, closing_packs, totals_begin, totals_read, totals_brought}
use Rattle.arena_base.proofs.compress.compact_entries.Goals.{in-Some+in-Some-value_mut, in_default}
use Rattle.arena_base.proofs.compress.compact_entries.Goals as goal

pub loop-k-init : goal.loop-k-init
loop-k-init g c =
    let old = c.args.compactor.now in
    record {
      few = omega arith;
      callable = c.requires.callable;
      same_reference = refl;
      capacity = refl;
      maximum = refl;
      closing = closing_begins g.F.FnMut g.P.PtrKey.key c.args.generation c.args.map old.detached.slots;
      totals = totals_begin old.arena.now;
    }

pub move_entry-requires-clause-to : goal.move_entry-requires-clause-to
move_entry-requires-clause-to g c =
    let long = closing_length g.F.FnMut g.P.PtrKey.key c.args.generation c.args.map c.args.compactor.now.detached.slots c.loop-k.k c.loop-k.count c.loop-k.map c.loop-k.compactor.detached.slots c.loop-k.invariant.closing (omega arith) in
    omega (arith, long, c.inx_at-to.ensures, c.loop-k.invariant.closing.passed)

pub move_entry-requires-clause-free : goal.move_entry-requires-clause-free
move_entry-requires-clause-free g c differs =
    closing_free g.F.FnMut g.P.PtrKey.key c.args.generation c.args.map c.args.compactor.now.detached.slots c.loop-k.k c.loop-k.count c.loop-k.map c.loop-k.compactor.detached.slots c.loop-k.invariant.closing
    (g.P.Inx.InxKey.number c.inx_at-from.result) (g.P.Inx.InxKey.number c.inx_at-to.result) c.inx_at-from.ensures c.inx_at-to.ensures differs

pub proved_unreachable-assume_proved-requires : goal.proved_unreachable-assume_proved-requires
proved_unreachable-assume_proved-requires g c = absurd (
    let number = g.P.Inx.InxKey.number in
    let old = c.args.compactor.now.detached.slots in
    brought_stored g.F.FnMut g.P.PtrKey.key c.args.generation c.args.map old c.loop-k.k c.loop-k.count c.loop-k.map c.loop-k.compactor.detached.slots c.loop-k.invariant.closing (omega arith)
    (number c.inx_at-from.result) (number c.inx_at-to.result) c.in-Some.was c.move_entry.new.compactor.detached.slots c.inx_at-from.ensures c.inx_at-to.ensures c.in-Some.ensures.returned (ap (λ h. h.slots) c.in-Some.ensures.some.0)
    (sym (ap option_copied_mut c.in-None.is) ∙ c.value_mut.ensures.value))

pub loop-k-preserved : goal.loop-k-preserved
loop-k-preserved g c =
    let number = g.P.Inx.InxKey.number in
    let at = c.loop-k.invariant in
    let old = c.args.compactor.now in
    let few : c.loop-k.count + 1 ≤ c.loop-k.k + 1 = omega (arith, at.few) in
    elim c.match-move_entry.branch [
      | in-Some+in-Some-value_mut w ↦
          let lent = rw w.in-Some-value_mut.is at (w.value_mut.follows.holds w.map.new.arg3) in
          let placed = w.in-Some.ensures.some in
          rw (w.compactor-is, w.map-is, w.count-is) (record {
            few = few;
            callable = search of_calls;
            same_reference = lent.1.0 ∙ (c.move_entry.ensures.same_reference ∙ at.same_reference);
            capacity = ap (λ h. h.stack_capacity) lent.0 ∙ (ap (λ h. h.stack_capacity) placed.0 ∙ at.capacity);
            maximum = ap (λ h. h.maximum) lent.0 ∙ (ap (λ h. h.maximum) placed.0 ∙ at.maximum);
            closing = closing_moves g.F.FnMut g.P.PtrKey.key c.args.generation c.args.map old.detached.slots c.loop-k.k c.loop-k.count c.loop-k.map c.loop-k.compactor.detached.slots at.closing (omega arith)
                (number c.inx_at-from.result) (number c.inx_at-to.result) w.in-Some.was c.move_entry.new.compactor.detached.slots c.inx_at-from.ensures c.inx_at-to.ensures w.in-Some.ensures.returned (ap (λ h. h.slots) placed.0)
                (record { from = w._from_raw.result; value = w.in-Some-value_mut.t.now; to = w._from_raw-in-Some-value_mut.result; left = w.map.new.arg3 }) w.map.new.self _
                (sym (ap option_copied_mut w.in-Some-value_mut.is) ∙ w.value_mut.ensures.value) (ap (λ h. h.slots) lent.0) w._from_raw.ensures w._from_raw-in-Some-value_mut.ensures
                (record { lent = _; lends = refl; back = _; called = w.map.ensures; leaves = refl });
            totals = totals_brought old.arena.now c.loop-k.compactor.arena.now _ c.loop-k.k c.loop-k.count c.move_entry.new.compactor.arena.now at.totals placed.1 lent.1.1;
          })
      | in_default w ↦
          let kept = w.in_default.ensures.none in
          rw (w.compactor-is, w.map-is, w.count-is, kept.0) (record {
            few = omega (arith, few);
            callable = at.callable;
            same_reference = c.move_entry.ensures.same_reference ∙ at.same_reference;
            capacity = at.capacity;
            maximum = at.maximum;
            closing = closing_frees g.F.FnMut g.P.PtrKey.key c.args.generation c.args.map old.detached.slots c.loop-k.k c.loop-k.count c.loop-k.map c.loop-k.compactor.detached.slots at.closing (omega arith)
                (number c.inx_at-from.result) c.inx_at-from.ensures (none_there (slot_at c.loop-k.compactor.detached.slots (number c.inx_at-from.result)) (sym w.in_default.is ∙ c.move_entry.ensures.returned));
            totals = totals_read old.arena.now c.loop-k.compactor.arena.now c.move_entry.new.compactor.arena.now c.loop-k.k c.loop-k.count at.totals kept.1;
          })
    ]

pub returns : goal.returns
returns g c =
    let at = c.loop-k.invariant in
    let old = c.args.compactor.now in
    let now = c.loop-k.compactor.detached in
    let all : c.loop-k.k ≡ length old.detached.slots = omega arith in
    let count = closing_counts g.F.FnMut g.P.PtrKey.key c.args.generation c.args.map old.detached.slots c.loop-k.k c.loop-k.count c.loop-k.map now.slots at.closing all in
    record {
      same_reference = at.same_reference;
      closed = closing_closes g.F.FnMut g.P.PtrKey.key c.args.generation c.args.map old.detached.slots c.loop-k.k c.loop-k.count c.loop-k.map now.slots at.closing all old.detached now refl refl at.capacity at.maximum;
      packed = closing_packs g.F.FnMut g.P.PtrKey.key c.args.generation c.args.map old.detached.slots c.loop-k.k c.loop-k.count c.loop-k.map now.slots at.closing all;
      visits = closing_visits g.F.FnMut g.P.PtrKey.key c.args.generation c.args.map old.detached.slots c.loop-k.k c.loop-k.count c.loop-k.map now.slots at.closing all;
      totals = at.totals ∙ (λ i. with_totals old.arena.now (count i) (all i + count i));
    }
