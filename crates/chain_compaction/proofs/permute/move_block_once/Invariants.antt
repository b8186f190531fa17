-- The moves so far, the list of the slots at which a link may still wait, and the work.
use Rattle.std.proofs.Common.{◌≡◌, ◌≤◌, ◌+◌, ◌-◌}
use Rattle.arena_traits.specs.Arena.{slot_at}
use Rattle.chain_compaction.specs.WorkCounts.{ChangesOnlySlots}
use Rattle.chain_compaction.specs.Permutations.{IsInBlock, IsSettling, ListsWaiting, waiting_count, Settles, IsWorkOn}
use Rattle.chain_compaction.proofs.permute.move_block_once.Given as goal
use Rattle.chain_links.specs.Links.{destination_of}

abbrev pub invariant-loop-k : goal.invariant-loop-k
invariant-loop-k g l =
    let packed_number = g.P.Inx.InxKey.packed_number in
    record {
      settles : IsSettling (destination_of packed_number) (Settles packed_number l.generation) (IsInBlock l.start l.count) l.fn.compactor.detached.slots l.compactor.detached.slots;
      lists : ListsWaiting (destination_of packed_number) l.start l.k l.positions l.left (slot_at l.compactor.detached.slots);
      moved : l.left + waiting_count (destination_of packed_number) l.compactor.detached.slots ≤ waiting_count (destination_of packed_number) l.fn.compactor.detached.slots;
      kept : ChangesOnlySlots l.fn.compactor l.compactor;
      work : IsWorkOn l.fn.compactor.arena.now l.compactor.arena.now (waiting_count (destination_of packed_number) l.fn.compactor.detached.slots) (waiting_count (destination_of packed_number) l.compactor.detached.slots) (l.k - l.left);
      unplaced : l.unplaced ≡ waiting_count (destination_of packed_number) l.compactor.detached.slots;
    }
