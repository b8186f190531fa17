use Rattle.chain_laws.proofs.MoveAfterLemmas.{move_back_restores}
use Rattle.chain_laws.proofs.move_after.move_back_restores.Goals as goal

pub returns : goal.returns
returns c = move_back_restores
