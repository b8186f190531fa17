use Rattle.chain_laws.proofs.RemovalLemmas.Pairs.{removed_agrees}
use Rattle.chain_laws.proofs.removal.removal_agrees.Goals as goal

pub returns : goal.returns
returns c = removed_agrees
