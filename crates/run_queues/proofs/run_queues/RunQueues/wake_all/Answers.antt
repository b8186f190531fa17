use Rattle.run_queues.proofs.run_queues.RunQueues.wake_all.Goals as goal

pub returns : goal.returns
returns g c = rw (← c.self.view_is) c.join.ensures
