use Rattle.std.proofs.Common.{◌+◌, ap, sym, subst, arith}
use Rattle.std.specs.Prelude.{replicate}
use Rattle.chain_compaction.specs.FoundStarts.{AreWalksBack, AreStartsOfFresh}
use Rattle.chain_compaction.proofs.ReadAheadLemmas.{reads_none, reads_then}
use Rattle.chain_compaction.proofs.FoundStartLemmas.{zeros, walks_begin, starts_none}
use Rattle.chain_compaction.proofs.read_ahead.find_starts.Goals as goal

pub loop-left-init : goal.loop-left-init
loop-left-init g c =
    let number = g.P.Inx.InxKey.packed_number in
    let slots = c.args.compactor.now.detached.slots in
    record {
      left = c.requires.count;
      few = omega arith;
      back = walks_begin number slots g.P.Inx.InxKey.greatest c.args.first c.args.links c.args.count c.requires.fresh c.requires.within;
      starts = starts_none number slots c.args.first (replicate 64 0) (zeros 64);
      read = reads_none c.args.compactor.now;
    }

pub step_back_each-left-requires-clause-back : goal.step_back_each-left-requires-clause-back
step_back_each-left-requires-clause-back g c =
    let at = c.loop-left in
    subst (λ h. AreWalksBack g.P.Inx.InxKey.packed_number g.P.Inx.InxKey.greatest h.slots c.args.first at.links at.now at.left) (sym at.invariant.read.detached) at.invariant.back

pub step_back_each-left-requires-clause-starts : goal.step_back_each-left-requires-clause-starts
step_back_each-left-requires-clause-starts g c =
    let at = c.loop-left in
    subst (λ h. AreStartsOfFresh g.P.Inx.InxKey.packed_number h.slots c.args.first at.starts) (sym at.invariant.read.detached) at.invariant.starts

pub loop-left-preserved : goal.loop-left-preserved
loop-left-preserved g c =
    let number = g.P.Inx.InxKey.packed_number in
    let at = c.loop-left in
    let round = c.step_back_each-left in
    record {
      left = omega (arith, round.ensures.fewer, at.invariant.left);
      few = omega (arith, c.if-left-limit.true, at.invariant.few);
      back = subst (λ h. AreWalksBack number g.P.Inx.InxKey.greatest h.slots c.args.first round.new.links round.new.now round.result) at.invariant.read.detached round.ensures.back;
      starts = subst (λ h. AreStartsOfFresh number h.slots c.args.first round.new.starts) at.invariant.read.detached round.ensures.starts;
      read = reads_then c.args.compactor.now at.compactor round.new.compactor at.reads at.left (at.reads + at.left) at.invariant.read round.ensures.read (omega arith);
    }
