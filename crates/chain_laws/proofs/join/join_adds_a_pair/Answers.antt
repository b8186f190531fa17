use Rattle.chain_laws.proofs.JoinLemmas.Chains.{joined_adds_a_pair}
use Rattle.chain_laws.proofs.join.join_adds_a_pair.Goals as goal

pub returns : goal.returns
returns c = joined_adds_a_pair
