use Rattle.chain_laws.proofs.ChainLemmas.NeighborPairs.{chains_by_pairs}
use Rattle.chain_laws.proofs.partition.chains_by_neighbors.Goals as goal

pub returns : goal.returns
returns c = chains_by_pairs
