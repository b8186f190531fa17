use Rattle.std.proofs.Common.{◌+◌, length, [], ◌∷◌, ap, ◌∙◌}
use Rattle.std.proofs.lemmas.List.{length-append}
use Rattle.std.proofs.lemmas.Option.{slice_get_within}
use Rattle.triangulation.specs.CornerIndexes.{BoxHasAllOf}
use Rattle.triangulation.proofs.CornerIndexLemmas.{boxes_more, block_below}
use Rattle.triangulation.proofs.corner_index.groups_of.Goals as goal

pub loop-group-preserved : goal.loop-group-preserved
loop-group-preserved c =
    let now = c.loop-group.invariant in
    let pushed = c.in_ok-push.ensures.items in
    record {
      number = ap length pushed ∙ (length-append c.loop-group.groups.items (c.of_boxes.result ∷ []) ∙ ap (λ n. n + 1) now.number);
      below = boxes_more BoxHasAllOf c.args.blocks.now c.loop-group.groups.items c.push.new.self.items c.of_boxes.result c.loop-group.group c.block_range-first.result.0 c.block_range-first.result.1 now.below now.number pushed c.of_boxes.ensures c.block_range-first.ensures.all;
    }

pub returns : goal.returns
returns c = λ n x is. c.loop-group.invariant.below n x is (block_below n (length c.args.blocks.now) c.loop-group.group (slice_get_within c.args.blocks.now n x is) c.loop-group-test.false)
