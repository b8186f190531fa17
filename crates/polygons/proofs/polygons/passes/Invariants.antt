-- The corners ahead are in the walk, and `v` is ahead if it is in the walk.
use Rattle.std.proofs.Common.{ℕ}
use Rattle.chain_laws.specs.Chains.{IsMember}
use Rattle.chain_laws.specs.Walks.{passes_ahead}
use Rattle.polygons.proofs.polygons.passes.Given as goal

abbrev pub invariant-loop-q : goal.invariant-loop-q
invariant-loop-q g l =
    let links = g.A.ChainArenaTrait.interlinks l.corners in
    let walker = g.A.ChainArenaTrait.walker in
    record {
      in_walk : (i : ℕ) → IsMember (passes_ahead links (walker l.along)) i → IsMember (passes_ahead links (walker l.initial.along)) i;
      not_passed : IsMember (passes_ahead links (walker l.initial.along)) (g.P.PtrKey.key l.fn.v).0 → IsMember (passes_ahead links (walker l.along)) (g.P.PtrKey.key l.fn.v).0;
    }

abbrev pub decreases-loop-q : goal.decreases-loop-q
decreases-loop-q g l = (g.A.ChainArenaTrait.walker l.along).left
