use Rattle.std.proofs.Common.{◌≡◌, ◌≤◌, length, map}
use Rattle.arena_base.specs.Slots.{entry_of}
use Rattle.arena_base.proofs.TrimLemmas.{IsListing}
use Rattle.arena_base.proofs.free_list.relist.Given as goal

abbrev pub invariant-loop-k : goal.invariant-loop-k
invariant-loop-k g l = record {
  long : length (g.S.SlotStack.items l.slots) ≡ length (g.S.SlotStack.items l.fn.slots);
  few : l.k ≤ length (g.S.SlotStack.items l.fn.slots);
  capacity : g.S.SlotStack.capacity l.slots ≡ g.S.SlotStack.capacity l.fn.slots;
  most : g.S.SlotStack.maximum l.slots ≡ g.S.SlotStack.maximum l.fn.slots;
  listing : IsListing g.P.Inx.InxKey.packed_number (g.S.SlotStack.items l.slots) (map entry_of (g.S.SlotStack.items l.fn.slots)) l.k l.len l.head;
}
