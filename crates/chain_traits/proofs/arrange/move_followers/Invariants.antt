-- The followers from here on are still to be moved.
use Rattle.std.proofs.Common.{drop}
use Rattle.chain_traits.proofs.LinkOrderLemmas.{IsPutting}
use Rattle.chain_traits.proofs.arrange.move_followers.Given as goal

abbrev pub invariant-loop-q : goal.invariant-loop-q
invariant-loop-q g l = IsPutting g.A.ArenaTrait.state g.A.ChainArenaTrait.interlinks g.P.PtrKey.key g.A.ChainArenaTrait.moves l.fn.arena l.arena l.fn.first l.before l.fn.followers (drop l.q-index l.followers)
