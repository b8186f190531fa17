-- The links that were read, and the number of walks that are left.
use Rattle.std.proofs.Common.{◌≤◌, ◌-◌}
use Rattle.chain_compaction.specs.SlotReads.{AreBelow, HasReadSlots}
use Rattle.chain_compaction.proofs.read_ahead.read_along.Given as goal

abbrev pub invariant-loop-left : goal.invariant-loop-left
invariant-loop-left g l = record {
  left : l.left ≤ 16;
  few : l.reads ≤ l.limit;
  within : AreBelow g.P.Inx.InxKey.greatest l.now l.left;
  read : HasReadSlots l.fn.compactor l.compactor l.reads;
}

abbrev pub decreases-loop-left : goal.decreases-loop-left
decreases-loop-left g l = l.limit - l.reads
