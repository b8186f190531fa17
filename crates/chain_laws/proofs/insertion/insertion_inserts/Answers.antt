use Rattle.chain_laws.proofs.InsertionLemmas.Chains.{inserted_inserts}
use Rattle.chain_laws.proofs.insertion.insertion_inserts.Goals as goal

pub returns : goal.returns
returns c = inserted_inserts
