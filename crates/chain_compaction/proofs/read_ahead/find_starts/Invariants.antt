-- The walks that are left, the starts that were found, and the links that were read.
use Rattle.std.proofs.Common.{◌≤◌, ◌-◌}
use Rattle.chain_compaction.specs.SlotReads.{HasReadSlots}
use Rattle.chain_compaction.specs.FoundStarts.{AreWalksBack, AreStartsOfFresh}
use Rattle.chain_compaction.proofs.read_ahead.find_starts.Given as goal

abbrev pub invariant-loop-left : goal.invariant-loop-left
invariant-loop-left g l =
    let slots = l.fn.compactor.detached.slots in
    record {
      left : l.left ≤ 16;
      few : l.reads ≤ l.limit;
      back : AreWalksBack g.P.Inx.InxKey.packed_number g.P.Inx.InxKey.greatest slots l.first l.links l.now l.left;
      starts : AreStartsOfFresh g.P.Inx.InxKey.packed_number slots l.first l.starts;
      read : HasReadSlots l.fn.compactor l.compactor l.reads;
    }

abbrev pub decreases-loop-left : goal.decreases-loop-left
decreases-loop-left g l = l.limit - l.reads
