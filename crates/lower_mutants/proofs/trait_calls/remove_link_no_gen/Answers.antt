use Rattle.std.proofs.Common.{rules}
use Rattle.lower_mutants.proofs.trait_calls.remove_link_no_gen.Goals as goal

pub returns : goal.returns
returns g c = search rules fits 100
