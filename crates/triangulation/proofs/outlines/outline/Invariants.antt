-- The corners so far have been read.
use Rattle.std.proofs.Common.{List}
use Rattle.chain_lists.specs.Lists.{Item}
use Rattle.triangulation.specs.declared.points.Point.{Point}
use Rattle.triangulation.specs.Clippings.{IsRingFrom}
use Rattle.triangulation.proofs.ReadingLemmas.{IsRead}
use Rattle.triangulation.proofs.outlines.outline.Given as goal

abbrev pub invariant-loop : goal.invariant-loop
invariant-loop g l = (items : List (Item g.row.P-Gen.Denot Point)) → IsRingFrom g.A.ArenaTrait.state g.A.ChainArenaTrait.interlinks l.polygons (g.P.PtrKey.key l.fn.start) items → IsRead items (g.P.PtrKey.key l.at) l.points.items l.counter
