-- The moves so far, the positions that are left, and the work.
use Rattle.std.proofs.Common.{◌≡◌, ◌+◌, ◌-◌}
use Rattle.arena_traits.specs.Arena.{slot_at}
use Rattle.chain_compaction.specs.WorkCounts.{ChangesOnlySlots}
use Rattle.chain_compaction.specs.Permutations.{IsInBlock, IsSettling, ListsWaiting, waiting_count, Settles, IsWorkInRounds}
use Rattle.chain_compaction.proofs.permute.move_block.Given as goal
use Rattle.chain_links.specs.Links.{destination_of}

abbrev pub invariant-loop-left : goal.invariant-loop-left
invariant-loop-left g l =
    let packed_number = g.P.Inx.InxKey.packed_number in
    record {
      settles : IsSettling (destination_of packed_number) (Settles packed_number l.generation) (IsInBlock l.start l.count) l.fn.compactor.detached.slots l.compactor.detached.slots;
      lists : ListsWaiting (destination_of packed_number) l.start l.count l.positions l.left (slot_at l.compactor.detached.slots);
      kept : ChangesOnlySlots l.fn.compactor l.compactor;
      work : IsWorkInRounds l.fn.compactor.arena.now l.compactor.arena.now (waiting_count (destination_of packed_number) l.fn.compactor.detached.slots) (waiting_count (destination_of packed_number) l.compactor.detached.slots) (l.count - l.left) l.left;
      unplaced : l.unplaced ≡ waiting_count (destination_of packed_number) l.compactor.detached.slots;
    }

abbrev pub decreases-loop-left : goal.decreases-loop-left
decreases-loop-left g l = waiting_count (destination_of g.P.Inx.InxKey.packed_number) l.compactor.detached.slots + l.left
