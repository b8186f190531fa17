use Rattle.run_queues.proofs.run_queues.RunQueues.remove_queue.Goals as goal

pub returns : goal.returns
returns g c = rw (← c.self.view_is) c.remove_list.ensures
