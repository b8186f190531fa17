use Rattle.std.proofs.Common.{rules}
use Rattle.lower_mutants.proofs.trait_calls.break_next.Goals as goal

pub returns : goal.returns
returns g c = search rules fits 100
