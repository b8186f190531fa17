use Rattle.chain_laws.proofs.SpliceLemmas.Undo.{splice_back_restores}
use Rattle.chain_laws.proofs.splice.splice_back_restores.Goals as goal

pub returns : goal.returns
returns c = splice_back_restores
