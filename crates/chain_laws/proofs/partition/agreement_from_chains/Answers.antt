use Rattle.chain_laws.proofs.ChainLemmas.NeighborPairs.{agrees_from_pairs, agrees_from_chains}
use Rattle.chain_laws.proofs.partition.agreement_from_chains.Goals as goal

pub returns : goal.returns
returns c = (agrees_from_pairs, agrees_from_chains)
