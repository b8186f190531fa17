-- No corner so far is in the triangle.
use Rattle.std.proofs.Common.{◌≡◌, ℕ, ◌<◌, ◌/◌, map}
use Rattle.triangulation.specs.CornerIndexes.{IsClearAt}
use Rattle.triangulation.proofs.corner_index.block_holds_corner.Given as goal

abbrev pub invariant-loop-i : goal.invariant-loop-i
invariant-loop-i g l = (n : ℕ) → n < l.i → n / 32 ≡ l.fn.block → IsClearAt (g.A.ArenaTrait.entry l.ring) (map g.P.PtrKey.key l.index.pointers.items) l.corners l.triangle n
