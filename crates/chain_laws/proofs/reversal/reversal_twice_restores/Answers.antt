use Rattle.chain_laws.proofs.ReversalLemmas.Chains.{reversal_twice_restores}
use Rattle.chain_laws.proofs.reversal.reversal_twice_restores.Goals as goal

pub returns : goal.returns
returns c = reversal_twice_restores
