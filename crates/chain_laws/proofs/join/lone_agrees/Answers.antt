use Rattle.chain_laws.proofs.JoinLemmas.LoneLinks.{with_lone_agrees}
use Rattle.chain_laws.proofs.join.lone_agrees.Goals as goal

pub returns : goal.returns
returns c = with_lone_agrees
