use Rattle.chain_laws.proofs.TransferLemmas.Source.{first_is_taken}
use Rattle.chain_laws.proofs.transfer.first_is_taken.Goals as goal

pub returns : goal.returns
returns c = first_is_taken
