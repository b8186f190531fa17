use Rattle.chain_laws.proofs.ReversalLemmas.Turns.{reversal_agrees}
use Rattle.chain_laws.proofs.reversal.reversal_agrees.Goals as goal

pub returns : goal.returns
returns c = reversal_agrees
