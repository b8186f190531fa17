-- The holes so far are in the outline and disjoint.
use Rattle.std.proofs.Common.{ℕ, ◌<◌, take}
use Rattle.std.specs.Prelude.{All}
use Rattle.triangulation.specs.Polygons.{rings_of, IsHoleIn, IsDisjointFromEarlier}
use Rattle.triangulation.proofs.ring_checks.check_places.Given as goal

abbrev pub invariant-loop-i : goal.invariant-loop-i
invariant-loop-i l = record {
  inside : All (λ hole. IsHoleIn l.outline hole.items) (take l.i l.holes);
  apart : (k : ℕ) → k < l.i → IsDisjointFromEarlier (rings_of l.holes) k;
}
