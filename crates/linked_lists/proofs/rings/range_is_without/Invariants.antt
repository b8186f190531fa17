-- The walk has passed items that are not `last` or `q`, and the others are ahead.
use Rattle.linked_lists.proofs.RangeTestLemmas.{Passes}
use Rattle.linked_lists.proofs.rings.range_is_without.Given as goal

abbrev pub invariant-loop-p : goal.invariant-loop-p
invariant-loop-p g l = Passes g.A.ArenaTrait.state g.A.ChainArenaTrait.interlinks l.arena (g.P.PtrKey.key l.fn.first) (g.P.PtrKey.key l.last) (g.P.PtrKey.key l.q) (g.A.ChainArenaTrait.walker l.along)

abbrev pub decreases-loop-p : goal.decreases-loop-p
decreases-loop-p g l = (g.A.ChainArenaTrait.walker l.along).left
