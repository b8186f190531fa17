-- The queues so far have no task, and nothing has changed.
use Rattle.std.specs.Prelude.{◌≡◌}
use Rattle.schedule_commands.specs.LeastTurns.{AreEmptyBelow}
use Rattle.schedule_commands.proofs.turns.next_of_first.Given as goal

abbrev pub invariant-loop-queue : goal.invariant-loop-queue
invariant-loop-queue g l = record {
  below : AreEmptyBelow g.A.ArenaTrait.state g.A.ChainArenaTrait.interlinks (λ q. g.P.PtrKey.key q.head) l.fn.queues l.ready l.queue-index;
  same : l.queues ≡ l.fn.queues;
}
