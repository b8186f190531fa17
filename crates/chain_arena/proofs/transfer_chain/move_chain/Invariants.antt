-- The links before the next one are transferred.
use Rattle.std.proofs.Common.{length}
use denote.Param.Always.{always_mut}
use Rattle.chain_arena.specs.Drains.{walk_left}
use Rattle.chain_arena.proofs.ChainTransferLemmas.{IsTransferUnderWay}
use Rattle.chain_arena.proofs.transfer_chain.move_chain.Given as goal

abbrev pub invariant-loop-next : goal.invariant-loop-next
invariant-loop-next g l = record {
  callable : always_mut g.F.FnMut l.map;
  under_way : IsTransferUnderWay g.P.PtrKey.key g.Q.PtrKey.key g.P.Gen.GenKey.following g.P.Gen.GenKey.wraps g.F.FnMut g.Q.Inx.InxKey.number l.fn.source (g.P.PtrKey.key l.fn.p).0 l.fn.map l.fn.target l.source l.at l.is_back l.ends l.map l.target;
}

abbrev pub decreases-loop-next : goal.decreases-loop-next
decreases-loop-next g l = length (walk_left l.source l.at)
