use Rattle.chain_laws.proofs.JoinLemmas.LoneLinks.{with_lone_adds}
use Rattle.chain_laws.proofs.join.lone_adds.Goals as goal

pub returns : goal.returns
returns c = with_lone_adds
