use Rattle.chain_laws.proofs.RemovalLemmas.Chains.{removed_removes}
use Rattle.chain_laws.proofs.removal.removal_relinks.Goals as goal

pub returns : goal.returns
returns c = removed_removes
