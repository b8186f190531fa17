use Rattle.chain_laws.proofs.ChainLemmas.Determinacy.{chains_decide}
use Rattle.chain_laws.proofs.join.chains_decide.Goals as goal

pub returns : goal.returns
returns c = chains_decide
