-- The slots that were read.
use Rattle.std.proofs.Common.{◌*◌}
use Rattle.chain_compaction.specs.SlotReads.{HasReadSlots}
use Rattle.chain_compaction.proofs.read_ahead.read_destinations.Given as goal

abbrev pub invariant-loop-p : goal.invariant-loop-p
invariant-loop-p g l = record { read : HasReadSlots l.fn.compactor l.compactor (2 * l.p) }
