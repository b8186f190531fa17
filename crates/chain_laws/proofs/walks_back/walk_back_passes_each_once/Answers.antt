use Rattle.chain_laws.proofs.WalkLemmas.Backward.{back_once}
use Rattle.chain_laws.proofs.walks_back.walk_back_passes_each_once.Goals as goal

pub returns : goal.returns
returns c = back_once
