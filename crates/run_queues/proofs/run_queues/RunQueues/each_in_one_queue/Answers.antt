use Rattle.run_queues.proofs.run_queues.RunQueues.each_in_one_queue.Goals as goal

pub returns : goal.returns
returns g c = rw (← c.self.view_is) c.all_in_lists.ensures
