-- The passed links are without q, and there are steps left to count.
use Rattle.std.proofs.Common.{◌≤◌, ◌+◌}
use Rattle.chain_laws.specs.Walks.{passes_ahead}
use Rattle.chain_examples.proofs.PlaceLemmas.{IsPassed}
use Rattle.chain_examples.proofs.tutorial.place_in_walk.Given as goal

abbrev pub invariant-loop-r : goal.invariant-loop-r
invariant-loop-r g l =
    let links = g.A.ChainArenaTrait.interlinks l.arena in
    let walker = g.A.ChainArenaTrait.walker in
    record {
      passed : IsPassed (g.A.ArenaTrait.entry l.arena) (g.P.PtrKey.key l.q) (passes_ahead links (walker l.along)) (passes_ahead links (walker l.initial.along)) l.n;
      fits : l.n + (walker l.along).left ≤ (walker l.initial.along).left;
    }

abbrev pub decreases-loop-r : goal.decreases-loop-r
decreases-loop-r g l = (g.A.ChainArenaTrait.walker l.along).left
