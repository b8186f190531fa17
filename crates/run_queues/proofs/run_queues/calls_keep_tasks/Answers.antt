use Rattle.arena_core.proofs.PointerKindLemmas.{kind_by}
use Rattle.run_queues.proofs.KeptTaskLemmas.{calls_keep}
use Rattle.run_queues.proofs.run_queues.calls_keep_tasks.Goals as goal

pub returns : goal.returns
returns g c = calls_keep g.A.ArenaTrait.state g.A.ChainArenaTrait.interlinks (kind_by g.P.PtrKey g.P.Inx.InxKey g.P.Gen.GenKey)
