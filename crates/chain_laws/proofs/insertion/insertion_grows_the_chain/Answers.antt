use Rattle.chain_laws.proofs.InsertionLemmas.Growth.{insertion_grows_the_chain}
use Rattle.chain_laws.proofs.insertion.insertion_grows_the_chain.Goals as goal

pub returns : goal.returns
returns c = insertion_grows_the_chain
