use Rattle.chain_laws.proofs.WalkLemmas.Steps.{steps_pass}
use Rattle.chain_laws.proofs.walks.walker_moves_by_steps.Goals as goal

pub returns : goal.returns
returns c = steps_pass
