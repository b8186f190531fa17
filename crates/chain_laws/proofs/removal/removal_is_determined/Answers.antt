use Rattle.chain_laws.proofs.RemovalLemmas.Determinacy.{removal_is_determined, removal_leaves_each_without, removal_is_determined_by_pairs}
use Rattle.chain_laws.proofs.removal.removal_is_determined.Goals as goal

pub returns-clause-by_chains : goal.returns-clause-by_chains
returns-clause-by_chains c = removal_is_determined

pub returns-clause-each : goal.returns-clause-each
returns-clause-each c = removal_leaves_each_without

pub returns-clause-by_pairs : goal.returns-clause-by_pairs
returns-clause-by_pairs c = removal_is_determined_by_pairs
