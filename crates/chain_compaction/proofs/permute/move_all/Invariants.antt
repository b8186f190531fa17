-- The slots up to start are settled.
use Rattle.std.proofs.Common.{◌≡◌, ◌≤◌, ◌-◌}
use Rattle.chain_compaction.specs.WorkCounts.{ChangesOnlySlots}
use Rattle.chain_compaction.specs.Permutations.{ArePassed, waiting_count, Settles, IsWorkInRounds}
use Rattle.chain_compaction.proofs.permute.move_all.Given as goal
use Rattle.chain_links.specs.Links.{destination_of}

abbrev pub invariant-loop-start : goal.invariant-loop-start
invariant-loop-start g l =
    let packed_number = g.P.Inx.InxKey.packed_number in
    record {
      reached : l.start ≤ l.slots;
      passed : ArePassed (destination_of packed_number) (Settles packed_number l.generation) l.fn.compactor.detached.slots l.compactor.detached.slots l.start;
      kept : ChangesOnlySlots l.fn.compactor l.compactor;
      work : IsWorkInRounds l.fn.compactor.arena.now l.compactor.arena.now (waiting_count (destination_of packed_number) l.fn.compactor.detached.slots) (waiting_count (destination_of packed_number) l.compactor.detached.slots) l.start 0;
      unplaced : l.unplaced ≡ waiting_count (destination_of packed_number) l.compactor.detached.slots;
    }

abbrev pub decreases-loop-start : goal.decreases-loop-start
decreases-loop-start g l = l.slots - l.start
