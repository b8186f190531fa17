use Rattle.chain_laws.proofs.ExchangeLemmas.Determinacy.{exchange_splits, exchange_merges}
use Rattle.chain_laws.proofs.exchange.exchange_of_cycles.Goals as goal

pub returns : goal.returns
returns c = (exchange_splits, exchange_merges)
