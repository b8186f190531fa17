use Rattle.std.proofs.Common.{◌≡◌, length}
use Rattle.triangulation.specs.CornerIndexes.{BoxHasAllOf}
use Rattle.triangulation.proofs.CornerIndexLemmas.{AreBoxesBelow}
use Rattle.triangulation.proofs.corner_index.groups_of.Given as goal

abbrev pub invariant-loop-group : goal.invariant-loop-group
invariant-loop-group l = record {
  number : length l.groups.items ≡ l.group;
  below : AreBoxesBelow BoxHasAllOf l.blocks l.groups.items l.group;
}
