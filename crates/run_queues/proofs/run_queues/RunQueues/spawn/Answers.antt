use Rattle.run_queues.proofs.run_queues.RunQueues.spawn.Goals as goal

pub returns-clause-outcome : goal.returns-clause-outcome
returns-clause-outcome g c = rw (← c.self.view_is) c.push_back.ensures.outcome
