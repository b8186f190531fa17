-- What is left of each list of the ring.
use Rattle.std.proofs.Common.{◌≤◌, List, length, map}
use Rattle.chain_lists.specs.Lists.{Item}
use Rattle.triangulation.specs.declared.points.Point.{Point}
use Rattle.triangulation.specs.Clippings.{IsRingFrom, IsWholeRing, IsRemaining}
use Rattle.triangulation.specs.CornerIndexes.{IsIndexOf}
use Rattle.triangulation.proofs.clipping.clip_ears.Given as goal

abbrev pub invariant-loop-left : goal.invariant-loop-left
invariant-loop-left g l = record {
  remaining : (items : List (Item g.row.P-Gen.Denot Point)) → IsRingFrom g.A.ArenaTrait.state g.A.ChainArenaTrait.interlinks l.fn.ring (g.P.PtrKey.key l.fn.start) items → IsWholeRing g.A.ArenaTrait.state g.A.ChainArenaTrait.interlinks l.fn.ring items (length l.corners)
      → IsRemaining g.A.ArenaTrait.state g.A.ChainArenaTrait.interlinks l.ring items l.triangles.items (g.P.PtrKey.key l.start) l.left;
  index : IsIndexOf (g.A.ArenaTrait.entry l.ring) (map g.P.PtrKey.key l.index.pointers.items) l.corners l.index.blocks.items l.index.groups.items;
  enough : 2 ≤ length l.corners → 2 ≤ l.left;
}

abbrev pub decreases-loop-left : goal.decreases-loop-left
decreases-loop-left g l = l.left
