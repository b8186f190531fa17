use Rattle.std.proofs.Common.{ap, ◌∙◌, arith, length}
use Rattle.chain_arena.specs.Drains.{walk_left, without_each}
use Rattle.chain_arena.proofs.ChainDrainLemmas.{without_each-step}
use Rattle.chain_arena.proofs.calls.take_links.Goals as goal

pub loop-left-preserved : goal.loop-left-preserved
loop-left-preserved g c =
    let step = c.in-Some.ensures.steps.1 in
    let longer = ap length step.walk in
    let counted = c.loop-left.invariant.counted in
    record {
      within = omega arith;
      counted = omega (arith, longer, counted);
      state = without_each-step g.P.PtrKey.key g.P.Inx.InxKey.packed_number g.P.Gen.GenKey.following g.P.Gen.GenKey.wraps _ _ _ _ _ step ∙ c.loop-left.invariant.state;
      same_reference = c.in-Some.ensures.steps.0 ∙ c.loop-left.invariant.same_reference;
    }

pub returns-in-None : goal.returns-in-None
returns-in-None g c =
    let following = g.P.Gen.GenKey.following in
    let stays = c.in-None.ensures.steps.1 in
    let empty = ap length stays.0 in
    let counted = c.loop-left.invariant.counted in
    record {
      same_reference = c.in-None.ensures.steps.0 ∙ c.loop-left.invariant.same_reference;
      count = omega (arith, empty, counted, c.saturating_sub.ensures);
      state = ap (λ at. without_each following c.next.new.self.arena.now (walk_left c.next.new.self.arena.now at)) stays.2
          ∙ (ap (λ a. without_each following a (walk_left a c.loop-left.links.at)) stays.1 ∙ c.loop-left.invariant.state);
    }

pub returns : goal.returns
returns g c =
    let counted = c.loop-left.invariant.counted in
    record {
      same_reference = c.loop-left.invariant.same_reference;
      count = omega (arith, counted);
      state = c.loop-left.invariant.state;
    }
