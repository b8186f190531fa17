use Rattle.chain_laws.proofs.ChainLemmas.Rotations.{rotations, one_rotated}
use Rattle.chain_laws.proofs.partition.cycles_rotate.Goals as goal

pub returns : goal.returns
returns c = (rotations, one_rotated)
