use Rattle.std.proofs.Common.{rules}
use Rattle.chain_mutants.proofs.lists.move_after.Goals as goal

pub returns : goal.returns
returns g c = search rules fits 100
