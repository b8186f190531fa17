use Rattle.chain_laws.proofs.ChainLemmas.Frame.{removal_makes_no_others}
use Rattle.chain_laws.proofs.frame.removal_makes_no_others.Goals as goal

pub returns : goal.returns
returns c = removal_makes_no_others
