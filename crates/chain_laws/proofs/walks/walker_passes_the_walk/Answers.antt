use Rattle.chain_laws.proofs.WalkLemmas.Members.{walks_ahead}
use Rattle.chain_laws.proofs.walks.walker_passes_the_walk.Goals as goal

pub returns : goal.returns
returns c = walks_ahead
