use Rattle.chain_laws.proofs.JoinLemmas.Chains.{joined_agrees}
use Rattle.chain_laws.proofs.join.join_agrees.Goals as goal

pub returns : goal.returns
returns c = joined_agrees
