-- The rest of the walk marks its links, and finds the head among them.
use Rattle.std.proofs.Common.{true}
use Rattle.chain_arena.proofs.ChainHeadLemmas.{head_view, IsMarking}
use Rattle.chain_arena.proofs.chains.mark_walk.Given as goal

abbrev pub invariant-loop-q : goal.invariant-loop-q
invariant-loop-q g l = IsMarking l.initial.marks (g.P.PtrKey.key l.fn.p, true) l.initial.q-iterator l.marks (head_view g.P.PtrKey.key l.head) l.q-iterator
