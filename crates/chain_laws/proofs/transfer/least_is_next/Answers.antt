use Rattle.chain_laws.proofs.TransferLemmas.Source.{least_is_next}
use Rattle.chain_laws.proofs.transfer.least_is_next.Goals as goal

pub returns : goal.returns
returns c = least_is_next
