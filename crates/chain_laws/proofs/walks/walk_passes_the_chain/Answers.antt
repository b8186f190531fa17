use Rattle.chain_laws.proofs.WalkLemmas.Members.{walk_has}
use Rattle.chain_laws.proofs.walks.walk_passes_the_chain.Goals as goal

pub returns : goal.returns
returns c = walk_has
