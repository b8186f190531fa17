use Rattle.chain_laws.proofs.ExchangeLemmas.Pairs.{exchanged_twice, exchanged_with_itself, exchanged_mutually}
use Rattle.chain_laws.proofs.exchange.exchange_restores.Goals as goal

pub returns : goal.returns
returns c = (exchanged_twice, exchanged_with_itself, exchanged_mutually)
