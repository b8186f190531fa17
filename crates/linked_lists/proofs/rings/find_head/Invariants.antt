-- The links ahead are in the walk, and each head of the walk is ahead.
use Rattle.std.proofs.Common.{ℕ}
use Rattle.chain_laws.specs.Chains.{IsMember}
use Rattle.chain_laws.specs.Walks.{passes_ahead}
use Rattle.linked_lists.specs.LinkedLists.{IsHandle}
use Rattle.linked_lists.proofs.rings.find_head.Given as goal

abbrev pub invariant-loop-q : goal.invariant-loop-q
invariant-loop-q g l =
    let links = g.A.ChainArenaTrait.interlinks l.arena in
    let walker = g.A.ChainArenaTrait.walker in
    record {
      in_walk : (i : ℕ) → IsMember (passes_ahead links (walker l.along)) i → IsMember (passes_ahead links (walker l.initial.along)) i;
      not_passed : (k : ℕ × g.row.P-Gen.Denot) → IsHandle (g.A.ArenaTrait.entry l.arena) k → IsMember (passes_ahead links (walker l.initial.along)) k.0 → IsMember (passes_ahead links (walker l.along)) k.0;
    }

abbrev pub decreases-loop-q : goal.decreases-loop-q
decreases-loop-q g l = (g.A.ChainArenaTrait.walker l.along).left
