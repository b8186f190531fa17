-- Each list of the ring can be turned to the present corner, and none before begins with an ear.
use Rattle.std.proofs.Common.{◌<◌, ℕ, List, ◌++◌, take, drop, length}
use Rattle.chain_lists.specs.Lists.{Item}
use Rattle.triangulation.specs.declared.points.Point.{Point}
use Rattle.triangulation.specs.Triangulations.{BeginsWithEar}
use Rattle.triangulation.specs.Clippings.{points, IsRingFrom, IsWholeRing, IsTurned}
use Rattle.triangulation.proofs.EarSearchLemmas.{IsReached}
use Rattle.triangulation.proofs.clipping.find_ear.Given as goal

abbrev pub invariant-loop : goal.invariant-loop
invariant-loop g l = (items : List (Item g.row.P-Gen.Denot Point)) → IsRingFrom g.A.ArenaTrait.state g.A.ChainArenaTrait.interlinks l.ring (g.P.PtrKey.key l.fn.start) items → record {
  turned : IsTurned g.A.ArenaTrait.state g.A.ChainArenaTrait.interlinks l.ring items (g.P.PtrKey.key l.before);
  reached : l.counter < length items → IsReached items (g.P.PtrKey.key l.before) l.counter;
  none : IsWholeRing g.A.ArenaTrait.state g.A.ChainArenaTrait.interlinks l.ring items l.fn.left → (n : ℕ) → n < l.counter → BeginsWithEar (points (drop n items ++ take n items)) → ⊥;
}
