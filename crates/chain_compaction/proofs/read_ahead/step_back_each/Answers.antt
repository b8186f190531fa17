use Rattle.std.proofs.Common.{◌≡◌, ◌+◌, ◌-◌, ◌<◌, ◌≤◌, ◌∙◌, slice_index, sym, subst, arith}
use Rattle.std.specs.Prelude.{MatchBool}
use Rattle.std.proofs.lemmas.List.{length-set}
use Rattle.chain_laws.specs.ChainStart.{IsStart}
use Rattle.chain_compaction.specs.DetachedLinks.{link_map_in}
use Rattle.chain_compaction.specs.FoundStarts.{IsWalkBack, AreWalksBack}
use Rattle.chain_compaction.proofs.ReadAheadLemmas.{reads_more, reads_few}
use Rattle.chain_compaction.proofs.FoundStartLemmas.{walks_step, walks_drop, starts_more}
use Rattle.chain_compaction.proofs.read_ahead.step_back_each.Goals as goal

pub step_back_at-k-requires-clause-within : goal.step_back_at-k-requires-clause-within
step_back_at-k-requires-clause-within g c = (c.loop-turn.invariant.back c.loop-turn.turn c.loop-turn-test.true).2

pub step_back_at-k-requires-clause-back : goal.step_back_at-k-requires-clause-back
step_back_at-k-requires-clause-back g c =
    let at = c.loop-turn in
    subst (λ h. IsWalkBack g.P.Inx.InxKey.packed_number h.slots (slice_index at.links at.turn) (slice_index at.now at.turn)) (sym at.invariant.read.detached) (at.invariant.back at.turn c.loop-turn-test.true).1

pub loop-turn-preserved-then-goes_on : goal.loop-turn-preserved-then-goes_on
loop-turn-preserved-then-goes_on g c =
    let number = g.P.Inx.InxKey.packed_number in
    let at = c.loop-turn in
    let k = c.step_back_at-k.result.0 in
    let link = slice_index at.links at.turn in
    let passed = at.turn + (c.args.left - at.rest) in
    let walk = subst (λ b. MatchBool b (IsWalkBack number at.compactor.detached.slots link k) (IsStart (link_map_in number at.compactor.detached.slots) (link + 1) (k + 1))) c.if-goes_on.true c.step_back_at-k.ensures.back in
    record {
      now_length = length-set at.now at.turn k ∙ at.invariant.now_length;
      links_length = at.invariant.links_length;
      starts_length = at.invariant.starts_length;
      reached = omega (arith, c.loop-turn-test.true);
      few = at.invariant.few;
      back = walks_step number c.args.compactor.now.detached.slots g.P.Inx.InxKey.greatest c.args.first at.links at.now at.rest at.turn k
          (omega (arith, at.invariant.now_length, c.loop-turn-test.true, at.invariant.few, c.requires.few))
          (subst (λ h. IsWalkBack number h.slots link k) at.invariant.read.detached walk)
          c.step_back_at-k.ensures.within at.invariant.back;
      starts = at.invariant.starts;
      read = reads_few c.args.compactor.now c.step_back_at-k.new.compactor (passed + 1) (at.turn + 1 + (c.args.left - at.rest)) (reads_more c.args.compactor.now at.compactor c.step_back_at-k.new.compactor passed at.invariant.read c.step_back_at-k.ensures.read) (omega arith);
    }

pub loop-turn-preserved : goal.loop-turn-preserved
loop-turn-preserved g c =
    let number = g.P.Inx.InxKey.packed_number in
    let slots = c.args.compactor.now.detached.slots in
    let at = c.loop-turn in
    let k = c.step_back_at-k.result.0 in
    let link = slice_index at.links at.turn in
    let last = at.rest - 1 in
    let passed = at.turn + (c.args.left - at.rest) in
    let fewer : last + 1 ≡ at.rest = omega (arith, c.loop-turn-test.true) in
    let start = subst (λ b. MatchBool b (IsWalkBack number at.compactor.detached.slots link k) (IsStart (link_map_in number at.compactor.detached.slots) (link + 1) (k + 1))) c.if-goes_on.false c.step_back_at-k.ensures.back in
    record {
      now_length = length-set at.now at.turn (slice_index at.now last) ∙ at.invariant.now_length;
      links_length = length-set at.links at.turn (slice_index at.links last) ∙ at.invariant.links_length;
      starts_length = length-set at.starts (link - c.args.first) (k + 1) ∙ at.invariant.starts_length;
      reached = omega (arith, c.loop-turn-test.true);
      few = omega (arith, at.invariant.few);
      back = walks_drop number slots g.P.Inx.InxKey.greatest c.args.first at.links at.now last at.turn
          (omega (arith, at.invariant.links_length, c.loop-turn-test.true, at.invariant.few, c.requires.few))
          (omega (arith, at.invariant.now_length, c.loop-turn-test.true, at.invariant.few, c.requires.few))
          (subst (AreWalksBack number g.P.Inx.InxKey.greatest slots c.args.first at.links at.now) (sym fewer) at.invariant.back);
      starts = starts_more number slots c.args.first link (k + 1) at.starts (at.invariant.back at.turn c.loop-turn-test.true).0
          (subst (λ h. IsStart (link_map_in number h.slots) (link + 1) (k + 1)) at.invariant.read.detached start) at.invariant.starts_length at.invariant.starts;
      read = reads_few c.args.compactor.now c.step_back_at-k.new.compactor (passed + 1) (at.turn + (c.args.left - last)) (reads_more c.args.compactor.now at.compactor c.step_back_at-k.new.compactor passed at.invariant.read c.step_back_at-k.ensures.read) (omega (arith, at.invariant.few, at.invariant.reached, c.loop-turn-test.true));
    }
