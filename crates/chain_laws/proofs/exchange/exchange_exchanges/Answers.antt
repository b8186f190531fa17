use Rattle.chain_laws.proofs.ExchangeLemmas.Chains.{exchanged_exchanges}
use Rattle.chain_laws.proofs.exchange.exchange_exchanges.Goals as goal

pub returns : goal.returns
returns c = exchanged_exchanges
