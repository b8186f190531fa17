-- The first k links are transferred over.
use Rattle.std.specs.Option.{option_map}
use denote.Param.Always.{always_mut}
use Rattle.chain_arena.proofs.TransferLoopLemmas.{IsCarrying}
use Rattle.chain_arena.proofs.transfer.transfer_links.Given as goal

abbrev pub invariant-loop-k : goal.invariant-loop-k
invariant-loop-k g l = record {
  callable : always_mut g.F.FnMut l.map;
  carrying : IsCarrying g.Q.PtrKey.key g.P.PtrKey.key g.Q.Gen.GenKey.following g.Q.Gen.GenKey.wraps g.F.FnMut g.P.Inx.InxKey.number (g.A.ArenaTrait.view l.fn.source) (g.A.ChainArenaTrait.interlinks l.fn.source) l.fn.map l.fn.target
      l.k (g.A.ArenaTrait.view l.source) (g.A.ChainArenaTrait.interlinks l.source) (g.A.ArenaTrait.cursor l.advancer) (option_map g.Q.Inx.InxKey.number l.on) l.is_cyclic l.ends l.map l.target;
}
