-- No corner of the groups so far is in the triangle.
use Rattle.std.proofs.Common.{◌≡◌, ℕ, ◌<◌, ◌/◌, map}
use Rattle.triangulation.specs.CornerIndexes.{IsClearAt}
use Rattle.triangulation.proofs.corner_index.holds_corner.Given as goal

abbrev pub invariant-loop-group : goal.invariant-loop-group
invariant-loop-group g l = (k : ℕ) → k < l.group → (n : ℕ) → n / 32 / 32 ≡ k → IsClearAt (g.A.ArenaTrait.entry l.ring) (map g.P.PtrKey.key l.index.pointers.items) l.corners l.triangle n
