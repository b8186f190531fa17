use Rattle.chain_laws.proofs.ChainLemmas.Partitions.{the_chains, no_others}
use Rattle.chain_laws.proofs.partition.one_set_of_chains.Goals as goal

pub returns : goal.returns
returns c = (the_chains, no_others)
