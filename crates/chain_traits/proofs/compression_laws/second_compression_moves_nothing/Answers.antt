use Rattle.chain_traits.proofs.SecondCompressionLemmas.{moves_nothing}
use Rattle.chain_traits.proofs.compression_laws.second_compression_moves_nothing.Goals as goal

pub returns : goal.returns
returns g c = moves_nothing
