use Rattle.chain_laws.proofs.ExchangeLemmas.Pairs.{exchanged_in_pairs}
use Rattle.chain_laws.proofs.exchange.exchange_in_pairs.Goals as goal

pub returns : goal.returns
returns c = exchanged_in_pairs
