-- No corner of the blocks so far is in the triangle.
use Rattle.std.proofs.Common.{◌≡◌, ℕ, ◌<◌, ◌/◌, map}
use Rattle.triangulation.specs.CornerIndexes.{IsClearAt}
use Rattle.triangulation.proofs.corner_index.group_holds_corner.Given as goal

abbrev pub invariant-loop-block : goal.invariant-loop-block
invariant-loop-block g l = (k : ℕ) → k < l.block → k / 32 ≡ l.fn.group → (n : ℕ) → n / 32 ≡ k → IsClearAt (g.A.ArenaTrait.entry l.ring) (map g.P.PtrKey.key l.index.pointers.items) l.corners l.triangle n
