use Rattle.chain_laws.proofs.WalkLemmas.Backward.{no_other_walk_back}
use Rattle.chain_laws.proofs.walks_back.one_walk_back.Goals as goal

pub returns : goal.returns
returns c = no_other_walk_back
