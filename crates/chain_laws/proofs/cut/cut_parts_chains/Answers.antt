use Rattle.chain_laws.proofs.CutLemmas.Chains.{cut_cuts}
use Rattle.chain_laws.proofs.cut.cut_parts_chains.Goals as goal

pub returns : goal.returns
returns c = cut_cuts
