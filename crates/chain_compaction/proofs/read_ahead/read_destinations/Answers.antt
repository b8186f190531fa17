use Rattle.std.proofs.Common.{◌+◌, ◌*◌, arith}
use Rattle.chain_compaction.proofs.ReadAheadLemmas.{reads_then}
use Rattle.chain_compaction.proofs.read_ahead.read_destinations.Goals as goal

pub loop-p-preserved : goal.loop-p-preserved
loop-p-preserved g c = record {
  read = reads_then c.args.compactor.now c.loop-p.compactor c.has_further_destination.new.compactor (2 * c.loop-p.p) 2 (2 * (c.loop-p.p + 1)) c.loop-p.invariant.read c.has_further_destination.ensures (omega arith);
}
