use Rattle.chain_laws.proofs.RemovalLemmas.Pairs.{removed_of_lone}
use Rattle.chain_laws.proofs.removal.removal_of_lone_restores.Goals as goal

pub returns : goal.returns
returns c = removed_of_lone
