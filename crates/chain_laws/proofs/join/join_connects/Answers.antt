use Rattle.chain_laws.proofs.JoinLemmas.Chains.{joined_connects}
use Rattle.chain_laws.proofs.join.join_connects.Goals as goal

pub returns : goal.returns
returns c = joined_connects
