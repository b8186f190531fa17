use Rattle.std.proofs.Common.{rules}
use Rattle.lower_mutants.proofs.trait_calls.compress_canonical.Goals as goal

pub returns : goal.returns
returns g c = search rules fits 100
