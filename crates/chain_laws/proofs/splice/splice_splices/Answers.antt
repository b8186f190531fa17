use Rattle.chain_laws.proofs.SpliceLemmas.Chains.{splice_splices}
use Rattle.chain_laws.proofs.splice.splice_splices.Goals as goal

pub returns : goal.returns
returns c = splice_splices
