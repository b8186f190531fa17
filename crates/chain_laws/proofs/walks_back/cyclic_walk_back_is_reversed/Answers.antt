use Rattle.chain_laws.proofs.WalkLemmas.Backward.{cyclic_reversed}
use Rattle.chain_laws.proofs.walks_back.cyclic_walk_back_is_reversed.Goals as goal

pub returns : goal.returns
returns c = cyclic_reversed
