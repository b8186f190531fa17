use Rattle.chain_compaction.proofs.FoundStartLemmas.{zeros}
use Rattle.chain_compaction.proofs.read_ahead.ReadAhead.new.Goals as goal

pub returns-clause-starts : goal.returns-clause-starts
returns-clause-starts c = zeros 64
