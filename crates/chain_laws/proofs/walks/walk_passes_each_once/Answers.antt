use Rattle.chain_laws.proofs.WalkLemmas.Members.{walk_once}
use Rattle.chain_laws.proofs.walks.walk_passes_each_once.Goals as goal

pub returns : goal.returns
returns c = walk_once
