use Rattle.chain_laws.proofs.WalkLemmas.Walker.{no_other_walk}
use Rattle.chain_laws.proofs.walks.one_walk.Goals as goal

pub returns : goal.returns
returns c = no_other_walk
