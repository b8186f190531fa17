use Rattle.chain_laws.proofs.ChainLemmas.Partitions.{same_members, same_rotated}
use Rattle.chain_laws.proofs.partition.same_chains_in_any_order.Goals as goal

pub returns : goal.returns
returns c = (same_members, same_rotated)
