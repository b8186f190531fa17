use Rattle.chain_laws.proofs.InsertionLemmas.Pairs.{inserted_in_pairs}
use Rattle.chain_laws.proofs.insertion.insertion_in_pairs.Goals as goal

pub returns : goal.returns
returns c = inserted_in_pairs
