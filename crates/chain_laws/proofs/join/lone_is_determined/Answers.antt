use Rattle.chain_laws.proofs.ChainLemmas.Determinacy.{lone_is_determined}
use Rattle.chain_laws.proofs.join.lone_is_determined.Goals as goal

pub returns : goal.returns
returns c = lone_is_determined
