use Rattle.chain_arena.proofs.PointerTransferLemmas.{transfer_moves_pointers as of_transfer}
use Rattle.chain_arena.proofs.transfer.transfer_moves_pointers.Goals as goal

pub returns : goal.returns
returns g c = of_transfer g.Q.PtrKey.key g.P.PtrKey.key g.Q.Gen.GenKey.following g.Q.Gen.GenKey.wraps g.F.FnMut
