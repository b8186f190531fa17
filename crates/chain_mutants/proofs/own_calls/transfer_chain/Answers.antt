use Rattle.std.proofs.Common.{rules}
use Rattle.chain_mutants.proofs.own_calls.transfer_chain.Goals as goal

pub returns : goal.returns
returns g c = search rules fits 100
