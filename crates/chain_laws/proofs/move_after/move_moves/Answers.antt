use Rattle.chain_laws.proofs.MoveAfterLemmas.{move_moves}
use Rattle.chain_laws.proofs.move_after.move_moves.Goals as goal

pub returns : goal.returns
returns c = move_moves
