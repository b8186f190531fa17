use Rattle.run_queues.proofs.FairnessLemmas.{same_or_not}
use Rattle.run_queues.proofs.WakingLemmas.{takes_turn}
use Rattle.run_queues.proofs.run_queues.RunQueues.next.Goals as goal

pub returns : goal.returns
returns g c = takes_turn g.A.ArenaTrait.state g.A.ChainArenaTrait.interlinks g.P.PtrKey.key (same_or_not g.P.Gen.GenKey.same g.met.P.Gen.GenKey.same_is_equal) c.args.self.now c.wake_one.new.self c.args.queue.head c.wake_one.result c.wake_one.ensures
