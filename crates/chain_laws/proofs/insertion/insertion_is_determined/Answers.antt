use Rattle.chain_laws.proofs.InsertionLemmas.Pairs.{insertion_is_determined_by_pairs}
use Rattle.chain_laws.proofs.InsertionLemmas.Determinacy.{insertion_is_determined}
use Rattle.chain_laws.proofs.insertion.insertion_is_determined.Goals as goal

pub returns-clause-by_chains : goal.returns-clause-by_chains
returns-clause-by_chains c = insertion_is_determined

pub returns-clause-by_pairs : goal.returns-clause-by_pairs
returns-clause-by_pairs c = insertion_is_determined_by_pairs
