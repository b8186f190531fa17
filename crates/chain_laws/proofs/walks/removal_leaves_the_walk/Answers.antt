use Rattle.chain_laws.proofs.WalkLemmas.Drains.{removal_leaves_the_walk}
use Rattle.chain_laws.proofs.walks.removal_leaves_the_walk.Goals as goal

pub returns : goal.returns
returns c = removal_leaves_the_walk
