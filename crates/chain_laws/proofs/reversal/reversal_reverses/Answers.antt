use Rattle.chain_laws.proofs.ReversalLemmas.Chains.{reversal_reverses}
use Rattle.chain_laws.proofs.reversal.reversal_reverses.Goals as goal

pub returns : goal.returns
returns c = reversal_reverses
