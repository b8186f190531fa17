-- A part of the ring is removed, and the rest is listed from `at` on.
use Rattle.arena_traits.specs.Entries.{count}
use Rattle.polygons.proofs.RingRemovalLemmas.{IsPartlyRemoved}
use Rattle.polygons.proofs.polygons.Polygons.remove_polygon.Given as goal

abbrev pub invariant-loop-next : goal.invariant-loop-next
invariant-loop-next g l = IsPartlyRemoved g.A.ArenaTrait.state g.A.ChainArenaTrait.interlinks g.P.Gen.GenKey.following l.fn.self l.self (g.P.PtrKey.key l.fn.corner) (g.P.PtrKey.key l.at)

abbrev pub decreases-loop-next : goal.decreases-loop-next
decreases-loop-next g l = count (g.A.ArenaTrait.view l.self)
