use Rattle.chain_laws.proofs.CutLemmas.Pairs.{cut_agrees}
use Rattle.chain_laws.proofs.cut.cut_agrees.Goals as goal

pub returns : goal.returns
returns c = cut_agrees
