use Rattle.chain_laws.proofs.InsertionLemmas.Pairs.{inserted_agrees}
use Rattle.chain_laws.proofs.insertion.insertion_agrees.Goals as goal

pub returns : goal.returns
returns c = inserted_agrees
