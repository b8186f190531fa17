use Rattle.std.proofs.Common.{◌-◌, sym, ◌∙◌, arith}
use Rattle.arena_base.proofs.TrimLemmas.{cut_more, cut_ends, cut_all}
use Rattle.arena_base.proofs.free_list.trim.Goals.{then-loop-count-test+else-is_free_at, else-loop-count-test}
use Rattle.arena_base.proofs.free_list.trim.Goals as goal

pub loop-count-preserved : goal.loop-count-preserved
loop-count-preserved g c =
    let items = g.S.SlotStack.items c.args.slots.now in
    record {
      within = omega arith;
      rest = cut_more items (c.loop-count.count - 1) c.loop-count.count (omega arith) (omega arith) (sym c.is_free_at.ensures ∙ c.if-is_free_at.true) c.loop-count.invariant.rest;
    }

pub returns-clause-items : goal.returns-clause-items
returns-clause-items g c =
    let items = g.S.SlotStack.items c.args.slots.now in
    elim c.loop-count-test.branch [
      | then-loop-count-test+else-is_free_at w ↦
          rw c.truncate.ensures.items (cut_ends items (c.loop-count.count - 1) c.loop-count.count (omega arith) (sym w.is_free_at.ensures ∙ w.if-is_free_at.false) c.loop-count.invariant.rest)
      | else-loop-count-test w ↦ rw c.truncate.ensures.items (cut_all items c.loop-count.count (omega arith) c.loop-count.invariant.rest)
    ]
