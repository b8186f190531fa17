use Rattle.chain_laws.proofs.ExchangeLemmas.Pairs.{exchanged_agrees}
use Rattle.chain_laws.proofs.exchange.exchange_agrees.Goals as goal

pub returns : goal.returns
returns c = exchanged_agrees
