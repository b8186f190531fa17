use Rattle.std.proofs.Common.{refl}
use Rattle.run_queues.proofs.FairnessLemmas.{same_or_not}
use Rattle.run_queues.proofs.WakingLemmas.{none_first, wakes_moved, wakes_refused}
use Rattle.run_queues.proofs.run_queues.RunQueues.wake_one.Goals.{in-Some-move_to_back, in-None-move_to_back}
use Rattle.run_queues.proofs.run_queues.RunQueues.wake_one.Goals as goal

pub returns-after-move_to_back : goal.returns-after-move_to_back
returns-after-move_to_back g c =
    let state = g.A.ArenaTrait.state in
    let interlinks = g.A.ChainArenaTrait.interlinks in
    let decide = same_or_not g.P.Gen.GenKey.same g.met.P.Gen.GenKey.same_is_equal in
    let old = c.self.inside.lists in
    rw (← c.self.view_is) (elim c.match-move_to_back.branch [
      | in-Some-move_to_back w ↦ rw w.result-is (wakes_moved state interlinks g.P.PtrKey.key decide old c.all_in_lists.ensures c.args.list.head c.args.queue.head c.in-Some.task c.move_to_back.new.self c.in-Some.ensures w.in-Some-move_to_back.ensures)
      | in-None-move_to_back w ↦ rw w.result-is (wakes_refused state interlinks g.P.PtrKey.key decide old c.all_in_lists.ensures c.args.list.head c.args.queue.head c.in-Some.task c.move_to_back.new.self c.in-Some.ensures w.in-None-move_to_back.ensures)
    ])

pub returns-in-None : goal.returns-in-None
returns-in-None g c =
    let state = g.A.ArenaTrait.state in
    let interlinks = g.A.ChainArenaTrait.interlinks in
    let decide = same_or_not g.P.Gen.GenKey.same g.met.P.Gen.GenKey.same_is_equal in
    let old = c.self.inside.lists in
    let none = none_first state interlinks g.P.PtrKey.key decide old c.all_in_lists.ensures c.args.list.head c.in-None.ensures in
    rw (← c.self.view_is) ((λ head. none), refl)
