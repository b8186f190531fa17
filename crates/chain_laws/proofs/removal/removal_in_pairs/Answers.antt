use Rattle.chain_laws.proofs.RemovalLemmas.Pairs.{removed_in_pairs}
use Rattle.chain_laws.proofs.removal.removal_in_pairs.Goals as goal

pub returns : goal.returns
returns c = removed_in_pairs
