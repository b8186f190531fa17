use Rattle.chain_laws.proofs.ChainLemmas.Frame.{cut_keeps_others, join_makes_no_others}
use Rattle.chain_laws.proofs.frame.cut_and_join_keep_others.Goals as goal

pub returns-clause-cut : goal.returns-clause-cut
returns-clause-cut c = cut_keeps_others

pub returns-clause-joined : goal.returns-clause-joined
returns-clause-joined c = join_makes_no_others
