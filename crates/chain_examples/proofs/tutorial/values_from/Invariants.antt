-- The values are those of the passed links.
use Rattle.chain_laws.specs.Walks.{passes_ahead}
use Rattle.chain_examples.proofs.PlaceLemmas.{AreRead}
use Rattle.chain_examples.proofs.tutorial.values_from.Given as goal

abbrev pub invariant-loop-q : goal.invariant-loop-q
invariant-loop-q g l =
    let links = g.A.ChainArenaTrait.interlinks l.arena in
    let walker = g.A.ChainArenaTrait.walker in
    record { read : AreRead (g.A.ArenaTrait.entry l.arena) (passes_ahead links (walker l.along)) (passes_ahead links (walker l.initial.along)) l.values.items }

abbrev pub decreases-loop-q : goal.decreases-loop-q
decreases-loop-q g l = (g.A.ChainArenaTrait.walker l.along).left
