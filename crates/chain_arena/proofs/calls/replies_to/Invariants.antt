-- The calls so far are a run, and the capacity suffices for the other replies.
use Rattle.std.proofs.Common.{◌≤◌, ◌+◌, vec_len, vec_capacity}
use Rattle.std.specs.Vec.Iter.{into_iter_items, into_iter_len}
use Rattle.arena_core.proofs.PointerKindLemmas.{kind_by}
use Rattle.chain_arena.proofs.CallRunLemmas.{IsUnderWay}
use Rattle.chain_arena.proofs.calls.replies_to.Given as goal

abbrev pub invariant-loop-call : goal.invariant-loop-call
invariant-loop-call g l =
    IsUnderWay (kind_by g.P.PtrKey g.P.Inx.InxKey g.P.Gen.GenKey) l.fn.arena l.arena l.fn.calls.items (into_iter_items l.call-iterator) l.replies.items
    × (vec_len l.replies + into_iter_len l.call-iterator ≤ vec_capacity l.replies)
