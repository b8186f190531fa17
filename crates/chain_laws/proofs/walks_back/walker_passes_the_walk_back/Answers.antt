use Rattle.chain_laws.proofs.WalkLemmas.Backward.{walks_back_ahead}
use Rattle.chain_laws.proofs.walks_back.walker_passes_the_walk_back.Goals as goal

pub returns : goal.returns
returns c = walks_back_ahead
