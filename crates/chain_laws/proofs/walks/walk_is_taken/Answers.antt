use Rattle.chain_laws.proofs.WalkLemmas.Drains.{walk_is_taken}
use Rattle.chain_laws.proofs.walks.walk_is_taken.Goals as goal

pub returns : goal.returns
returns c = walk_is_taken
