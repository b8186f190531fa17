use Rattle.chain_laws.proofs.CutLemmas.Pairs.{cut_is_determined_by_pairs}
use Rattle.chain_laws.proofs.CutLemmas.Chains.{cut_is_determined}
use Rattle.chain_laws.proofs.cut.cut_is_determined.Goals as goal

pub returns-clause-by_chains : goal.returns-clause-by_chains
returns-clause-by_chains c = cut_is_determined

pub returns-clause-by_pairs : goal.returns-clause-by_pairs
returns-clause-by_pairs c = cut_is_determined_by_pairs
