-- No holes up to `k`, and each slot was read once.
use Rattle.std.proofs.Common.{◌≡◌, ◌≤◌, ◌+◌}
use denote.Param.Always.{always_mut}
use Rattle.arena_base.specs.GatheredSlots.{with_totals}
use Rattle.arena_base.proofs.HoleClosingLemmas.{IsClosing}
use Rattle.arena_base.proofs.compress.compact_entries.Given as goal

abbrev pub invariant-loop-k : goal.invariant-loop-k
invariant-loop-k g l = record {
  few : l.count ≤ l.k;
  callable : always_mut g.F.FnMut l.map;
  same_reference : l.compactor.arena.ghost_name ≡ l.fn.compactor.arena.ghost_name;
  capacity : l.compactor.detached.stack_capacity ≡ l.fn.compactor.detached.stack_capacity;
  maximum : l.compactor.detached.maximum ≡ l.fn.compactor.detached.maximum;
  closing : IsClosing g.F.FnMut g.P.PtrKey.key l.generation l.fn.map l.fn.compactor.detached.slots l.k l.count l.map l.compactor.detached.slots;
  totals : l.compactor.arena.now ≡ with_totals l.fn.compactor.arena.now l.count (l.k + l.count);
}
