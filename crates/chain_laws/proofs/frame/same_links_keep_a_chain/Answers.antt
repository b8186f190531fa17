use Rattle.chain_laws.proofs.ChainLemmas.Frame.{same_links_keep_a_chain}
use Rattle.chain_laws.proofs.frame.same_links_keep_a_chain.Goals as goal

pub returns : goal.returns
returns c = same_links_keep_a_chain
