use Rattle.chain_laws.proofs.ChainLemmas.Determinacy.{join_is_determined}
use Rattle.chain_laws.proofs.join.join_is_determined.Goals as goal

pub returns : goal.returns
returns c = join_is_determined
