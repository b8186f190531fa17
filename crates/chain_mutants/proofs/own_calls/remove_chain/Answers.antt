use Rattle.std.proofs.Common.{rules}
use Rattle.chain_mutants.proofs.own_calls.remove_chain.Goals as goal

pub returns-in-Some : goal.returns-in-Some
returns-in-Some g c = search rules fits 100

pub returns-in-None : goal.returns-in-None
returns-in-None g c = search rules fits 100
