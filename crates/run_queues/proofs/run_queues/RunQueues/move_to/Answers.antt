use Rattle.run_queues.proofs.run_queues.RunQueues.move_to.Goals as goal

pub returns : goal.returns
returns g c = rw (← c.self.view_is) c.move_to_back.ensures
