use Rattle.chain_laws.proofs.ChainLemmas.Determinacy.{pairs_decide}
use Rattle.chain_laws.proofs.join.pairs_decide.Goals as goal

pub returns : goal.returns
returns c = pairs_decide
