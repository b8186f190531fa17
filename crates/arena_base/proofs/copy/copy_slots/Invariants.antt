use Rattle.std.proofs.Common.{◌≡◌}
use Rattle.arena_base.proofs.SlotCopyLemmas.{IsCopying}
use Rattle.arena_base.proofs.copy.copy_slots.Given as goal

abbrev pub invariant-loop-k : goal.invariant-loop-k
invariant-loop-k g l = record {
  ready : g.M.ValueMap.is_ready l.values;
  capacity : g.S.SlotStack.capacity l.slots ≡ g.S.SlotStack.capacity l.fn.slots;
  most : g.S.SlotStack.maximum l.slots ≡ g.S.SlotStack.maximum l.fn.slots;
  copying : IsCopying g.M.ValueMap.makes g.P.PtrKey.key l.fn.values (g.S1.SlotStack.items l.fn.source) l.k l.values (g.S.SlotStack.items l.slots);
}
