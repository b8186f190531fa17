use Rattle.std.proofs.Common.{rules}
use Rattle.lower_mutants.proofs.layouts.arrange.Goals as goal

pub arrange-done-requires-clause-ready : goal.arrange-done-requires-clause-ready
arrange-done-requires-clause-ready g c = c.requires.ready

pub arrange-done-requires-clause-links : goal.arrange-done-requires-clause-links
arrange-done-requires-clause-links g c = c.requires.links

pub returns : goal.returns
returns g c = search rules fits 100
