use Rattle.chain_laws.proofs.MoveAfterLemmas.{move_agrees}
use Rattle.chain_laws.proofs.move_after.move_agrees.Goals as goal

pub returns : goal.returns
returns c = move_agrees
