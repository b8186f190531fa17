use Rattle.chain_laws.proofs.SpliceLemmas.Interlinks.{splice_agrees}
use Rattle.chain_laws.proofs.splice.splice_agrees.Goals as goal

pub returns : goal.returns
returns c = splice_agrees
