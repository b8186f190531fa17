use Rattle.chain_laws.proofs.ExchangeLemmas.Merges.{merged_cycle_has_both}
use Rattle.chain_laws.proofs.exchange.merged_cycle_has_both.Goals as goal

pub returns : goal.returns
returns c = merged_cycle_has_both
