use Rattle.std.proofs.Common.{◌+◌, ◌-◌, ◌<◌, ◌≤◌, ◌∙◌, slice_index, arith}
use Rattle.std.proofs.lemmas.List.{length-set}
use Rattle.chain_compaction.proofs.ReadAheadLemmas.{reads_more, reads_few, below_replaced, below_fewer}
use Rattle.chain_compaction.proofs.read_ahead.step_each.Goals as goal

pub loop-turn-preserved-in-Some : goal.loop-turn-preserved-in-Some
loop-turn-preserved-in-Some g c =
    let at = c.loop-turn in
    let passed = at.turn + (c.args.left - at.rest) in
    record {
      length = length-set at.now at.turn c.in-Some.k ∙ at.invariant.length;
      reached = omega (arith, c.loop-turn-test.true);
      few = at.invariant.few;
      within = below_replaced g.P.Inx.InxKey.greatest at.now at.rest at.turn c.in-Some.k (omega (arith, at.invariant.length, c.loop-turn-test.true, at.invariant.few, c.requires.few)) c.in-Some.ensures.within at.invariant.within;
      read = reads_few c.args.compactor.now c.step_at.new.compactor (passed + 1) (at.turn + 1 + (c.args.left - at.rest)) (reads_more c.args.compactor.now at.compactor c.step_at.new.compactor passed at.invariant.read c.in-Some.ensures.read) (omega arith);
    }

pub loop-turn-preserved : goal.loop-turn-preserved
loop-turn-preserved g c =
    let at = c.loop-turn in
    let greatest = g.P.Inx.InxKey.greatest in
    let last = at.rest - 1 in
    let passed = at.turn + (c.args.left - at.rest) in
    let is_last : last < at.rest = omega (arith, c.loop-turn-test.true) in
    let fewer : last ≤ at.rest = omega arith in
    record {
      length = length-set at.now at.turn (slice_index at.now last) ∙ at.invariant.length;
      reached = omega (arith, c.loop-turn-test.true);
      few = omega (arith, at.invariant.few);
      within = below_replaced greatest at.now last at.turn (slice_index at.now last) (omega (arith, at.invariant.length, c.loop-turn-test.true, at.invariant.few, c.requires.few)) (at.invariant.within last is_last) (below_fewer greatest at.now at.rest last fewer at.invariant.within);
      read = reads_few c.args.compactor.now c.step_at.new.compactor (passed + 1) (at.turn + (c.args.left - last)) (reads_more c.args.compactor.now at.compactor c.step_at.new.compactor passed at.invariant.read c.in-None.ensures.read) (omega (arith, at.invariant.few, at.invariant.reached, c.loop-turn-test.true));
    }
