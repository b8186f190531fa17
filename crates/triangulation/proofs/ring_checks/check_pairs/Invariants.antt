-- The holes so far and the hole are disjoint.
use Rattle.std.proofs.Common.{ℕ, ◌<◌, List, get_or}
use Rattle.triangulation.specs.declared.points.Point.{Point}
use Rattle.triangulation.specs.Polygons.{rings_of, AreDisjoint}
use Rattle.triangulation.proofs.ring_checks.check_pairs.Given as goal

abbrev pub invariant-loop-j : goal.invariant-loop-j
invariant-loop-j l = (k : ℕ) → k < l.j → (d : List Point) → AreDisjoint (get_or (rings_of l.holes) k d) (get_or (rings_of l.holes) l.i d)
