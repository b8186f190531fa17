use Rattle.chain_laws.proofs.TransferLemmas.Target.{last_is_appended}
use Rattle.chain_laws.proofs.transfer.last_is_appended.Goals as goal

pub returns : goal.returns
returns c = last_is_appended
