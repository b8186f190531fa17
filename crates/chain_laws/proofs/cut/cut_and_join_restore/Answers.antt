use Rattle.chain_laws.proofs.CutLemmas.Pairs.{join_of_cut, cut_of_join}
use Rattle.chain_laws.proofs.cut.cut_and_join_restore.Goals as goal

pub returns-clause-join_of_cut : goal.returns-clause-join_of_cut
returns-clause-join_of_cut c = join_of_cut

pub returns-clause-cut_of_join : goal.returns-clause-cut_of_join
returns-clause-cut_of_join c = cut_of_join
