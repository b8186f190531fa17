use Rattle.chain_laws.proofs.ExchangeLemmas.Determinacy.{exchange_is_determined}
use Rattle.chain_laws.proofs.ExchangeLemmas.Pairs.{exchange_is_determined_by_pairs}
use Rattle.chain_laws.proofs.exchange.exchange_is_determined.Goals as goal

pub returns : goal.returns
returns c = (exchange_is_determined, exchange_is_determined_by_pairs)
