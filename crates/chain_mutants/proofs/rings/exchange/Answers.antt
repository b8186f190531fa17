use Rattle.std.proofs.Common.{rules}
use Rattle.chain_mutants.proofs.rings.exchange.Goals as goal

pub returns : goal.returns
returns g c = search rules fits 100
