use Rattle.std.proofs.Common.{◌≡◌, ◌≤◌, length, map, take}
use Rattle.arena_base.specs.Slots.{entry_of}
use Rattle.arena_base.specs.DetachedSlots.{without_free_end}
use Rattle.arena_base.proofs.free_list.trim.Given as goal

abbrev pub invariant-loop-count : goal.invariant-loop-count
invariant-loop-count g l = record {
  within : l.count ≤ length (g.S.SlotStack.items l.slots);
  rest : without_free_end (take l.count (map entry_of (g.S.SlotStack.items l.slots))) ≡ without_free_end (map entry_of (g.S.SlotStack.items l.slots));
}

abbrev pub decreases-loop-count : goal.decreases-loop-count
decreases-loop-count g l = l.count
