use Rattle.chain_laws.proofs.WalkLemmas.Backward.{back_has}
use Rattle.chain_laws.proofs.walks_back.walk_back_passes_the_chain.Goals as goal

pub returns : goal.returns
returns c = back_has
