use Rattle.arena_core.proofs.PointerKindLemmas.{kind_by}
use Rattle.run_queues.proofs.FairnessLemmas.{same_or_not}
use Rattle.run_queues.proofs.HistoryLemmas.{calls_fair}
use Rattle.run_queues.proofs.run_queues.calls_are_fair.Goals as goal

pub returns : goal.returns
returns g c = calls_fair g.A.ArenaTrait.state g.A.ChainArenaTrait.interlinks (kind_by g.P.PtrKey g.P.Inx.InxKey g.P.Gen.GenKey) (same_or_not g.P.Gen.GenKey.same g.met.P.Gen.GenKey.same_is_equal)
