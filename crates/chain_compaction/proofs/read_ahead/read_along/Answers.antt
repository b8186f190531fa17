use Rattle.std.proofs.Common.{◌+◌, arith}
use Rattle.chain_compaction.proofs.ReadAheadLemmas.{reads_then}
use Rattle.chain_compaction.proofs.read_ahead.read_along.Goals as goal

pub loop-left-preserved : goal.loop-left-preserved
loop-left-preserved g c =
    let at = c.loop-left in
    record {
      left = omega (arith, c.step_each-left.ensures.fewer, at.invariant.left);
      few = omega (arith, c.if-left-limit.true, at.invariant.few);
      within = c.step_each-left.ensures.within;
      read = reads_then c.args.compactor.now at.compactor c.step_each-left.new.compactor at.reads at.left (at.reads + at.left) at.invariant.read c.step_each-left.ensures.read (omega arith);
    }
