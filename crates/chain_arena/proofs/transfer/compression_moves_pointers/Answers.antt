use Rattle.chain_compaction.proofs.PointerMoveLemmas.{compression_moves_pointers as of_compression, compression_has_moves}
use Rattle.chain_arena.proofs.transfer.compression_moves_pointers.Goals as goal

pub returns : goal.returns
returns g c =
    let first = g.P.Gen.GenKey.first in
    let following = g.P.Gen.GenKey.following in
    record { moves = of_compression g.P.PtrKey.key first following; exists = compression_has_moves first following }
