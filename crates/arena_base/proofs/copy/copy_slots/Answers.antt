use Rattle.std.proofs.Common.{refl, sym, ap, ◌∙◌, Some, arith}
use Rattle.arena_base.proofs.SlotCopyLemmas.{copying_begins, copying_frees, copying_returns, copied_alike, copied_all, copying_refused}
use Rattle.arena_base.proofs.copy.copy_slots.Goals.{in-Allocated+in-Ok, in-Free}
use Rattle.arena_base.proofs.copy.copy_slots.Goals as goal

pub loop-k-init : goal.loop-k-init
loop-k-init g c = record {
  ready = c.requires.ready;
  capacity = refl;
  most = refl;
  copying = copying_begins g.M.ValueMap.makes g.P.PtrKey.key c.args.values (g.S1.SlotStack.items c.args.source.now) (g.S.SlotStack.items c.args.slots.now) c.requires.empty;
}

pub loop-k-preserved : goal.loop-k-preserved
loop-k-preserved g c =
    let at = c.loop-k.invariant in
    let old = g.S1.SlotStack.items c.args.source.now in
    let slots = g.S.SlotStack.items c.loop-k.slots in
    elim c.match-slot.branch [
      | in-Allocated+in-Ok w ↦ rw (w.slots-is, w.values-is) (record {
        ready = w.in-Ok.ensures.ready;
        capacity = w.push_within.ensures.capacity ∙ at.capacity;
        most = w.push_within.ensures.maximum ∙ at.most;
        copying = copying_returns g.M.ValueMap.makes g.P.PtrKey.key c.args.values old c.loop-k.k c.loop-k.values slots at.copying w.in-Allocated.generation w.in-Allocated.u
            (record { pointer = w._from_raw.result; value = w.in-Allocated.u; returned = w.in-Ok.t }) w.map_value.new.self _
            (sym c.in-Some.ensures ∙ ap (λ s. Some s) w.in-Allocated.is) refl (w._from_raw.ensures ∙ ap (λ n. (n, w.in-Allocated.generation)) w.inx_at.ensures) w.in-Ok.ensures.made w.push_within.ensures.items;
      })
      | in-Free w ↦ rw (w.slots-is, w.values-is) (record {
        ready = at.ready;
        capacity = w.push_within-in-Free.ensures.capacity ∙ at.capacity;
        most = w.push_within-in-Free.ensures.maximum ∙ at.most;
        copying = copying_frees g.M.ValueMap.makes g.P.PtrKey.key c.args.values old c.loop-k.k c.loop-k.values slots at.copying w.in-Free.next _
            (sym c.in-Some.ensures ∙ ap (λ s. Some s) w.in-Free.is) w.push_within-in-Free.ensures.items;
      })
    ]

pub returns : goal.returns
returns g c =
    let at = c.loop-k.invariant in
    let old = g.S1.SlotStack.items c.args.source.now in
    let slots = g.S.SlotStack.items c.loop-k.slots in
    record {
      alike = copied_alike g.M.ValueMap.makes g.P.PtrKey.key c.args.values old c.loop-k.k c.loop-k.values slots at.copying (omega arith);
      copies = copied_all g.M.ValueMap.makes g.P.PtrKey.key c.args.values old c.loop-k.k c.loop-k.values slots at.copying (omega arith);
      ready = at.ready;
      bounds = (at.capacity, at.most);
      refused = tt;
    }

pub returns-in-Err : goal.returns-in-Err
returns-in-Err g c =
    let at = c.loop-k.invariant in
    record {
      alike = tt;
      copies = tt;
      ready = tt;
      bounds = (at.capacity, at.most);
      refused =
          copying_refused g.M.ValueMap.makes g.P.PtrKey.key c.args.values (g.S1.SlotStack.items c.args.source.now) c.loop-k.k c.loop-k.values (g.S.SlotStack.items c.loop-k.slots) at.copying c.in-Allocated.generation c.in-Allocated.u c._from_raw.result g.M.ValueMap.may_refuse
          (sym c.in-Some.ensures ∙ ap (λ s. Some s) c.in-Allocated.is) (c._from_raw.ensures ∙ ap (λ n. (n, c.in-Allocated.generation)) c.inx_at.ensures) c.in-Err.ensures.refused;
    }
