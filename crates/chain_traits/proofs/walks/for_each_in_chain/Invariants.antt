-- The links visited so far and those ahead are together the walk.
use denote.Param.Always.{always_mut}
use Rattle.chain_laws.specs.Walks.{passes_ahead}
use Rattle.chain_traits.proofs.ChainVisitLemmas.{IsVisiting}
use Rattle.chain_traits.proofs.walks.for_each_in_chain.Given as goal

abbrev pub invariant-loop-q : goal.invariant-loop-q
invariant-loop-q g l = record {
  callable : always_mut g.F.FnMut l.f;
  visiting : IsVisiting g.A.ArenaTrait.state g.A.ChainArenaTrait.interlinks g.F.FnMut g.P.PtrKey.key l.fn.f l.fn.arena (passes_ahead (g.A.ChainArenaTrait.interlinks l.fn.arena) (g.A.ChainArenaTrait.walker l.initial.along)) l.f l.arena
      (passes_ahead (g.A.ChainArenaTrait.interlinks l.fn.arena) (g.A.ChainArenaTrait.walker l.along));
}

abbrev pub decreases-loop-q : goal.decreases-loop-q
decreases-loop-q g l = (g.A.ChainArenaTrait.walker l.along).left
