use Rattle.chain_laws.proofs.ChainLemmas.Partitions.{chain_of_each, no_other_of_each}
use Rattle.chain_laws.proofs.partition.one_chain_each.Goals as goal

pub returns : goal.returns
returns c = (chain_of_each, no_other_of_each)
