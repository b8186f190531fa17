-- The walk back has made `step` steps.
use Rattle.std.specs.Prelude.{IsSome}
use Rattle.chain_laws.specs.ChainStart.{IsBack}
use Rattle.chain_traits.proofs.drain_in_order.start_of.Given as goal

abbrev pub invariant-loop-step : goal.invariant-loop-step
invariant-loop-step g l = record {
  back : IsBack (g.A.ChainArenaTrait.interlinks l.source) (g.Q.Inx.InxKey.number l.i) l.step (g.Q.Inx.InxKey.number l.at);
  some : IsSome (g.A.ArenaTrait.entry l.source (g.Q.Inx.InxKey.number l.at));
}
