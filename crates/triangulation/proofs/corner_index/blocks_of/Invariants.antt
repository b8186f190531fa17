use Rattle.std.proofs.Common.{◌≡◌, length}
use Rattle.triangulation.specs.CornerIndexes.{IsInBox}
use Rattle.triangulation.proofs.CornerIndexLemmas.{AreBoxesBelow}
use Rattle.triangulation.proofs.corner_index.blocks_of.Given as goal

abbrev pub invariant-loop-block : goal.invariant-loop-block
invariant-loop-block l = record {
  number : length l.blocks.items ≡ l.block;
  below : AreBoxesBelow IsInBox l.corners l.blocks.items l.block;
}
