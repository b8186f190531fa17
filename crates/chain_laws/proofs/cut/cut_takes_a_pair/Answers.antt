use Rattle.chain_laws.proofs.CutLemmas.Pairs.{cut_takes_a_pair}
use Rattle.chain_laws.proofs.cut.cut_takes_a_pair.Goals as goal

pub returns : goal.returns
returns c = cut_takes_a_pair
