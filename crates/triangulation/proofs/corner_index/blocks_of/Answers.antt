use Rattle.std.proofs.Common.{◌+◌, length, [], ◌∷◌, ap, ◌∙◌}
use Rattle.std.proofs.lemmas.List.{length-append}
use Rattle.std.proofs.lemmas.Option.{slice_get_within}
use Rattle.triangulation.specs.CornerIndexes.{IsInBox}
use Rattle.triangulation.proofs.CornerIndexLemmas.{boxes_more, block_below}
use Rattle.triangulation.proofs.corner_index.blocks_of.Goals as goal

pub loop-block-preserved : goal.loop-block-preserved
loop-block-preserved c =
    let now = c.loop-block.invariant in
    let pushed = c.in_ok-push.ensures.items in
    record {
      number = ap length pushed ∙ (length-append c.loop-block.blocks.items (c.of_ring.result ∷ []) ∙ ap (λ n. n + 1) now.number);
      below = boxes_more IsInBox c.args.corners.now c.loop-block.blocks.items c.push.new.self.items c.of_ring.result c.loop-block.block c.block_range-first.result.0 c.block_range-first.result.1 now.below now.number pushed c.of_ring.ensures c.block_range-first.ensures.all;
    }

pub returns : goal.returns
returns c = λ n x is. c.loop-block.invariant.below n x is (block_below n (length c.args.corners.now) c.loop-block.block (slice_get_within c.args.corners.now n x is) c.loop-block-test.false)
