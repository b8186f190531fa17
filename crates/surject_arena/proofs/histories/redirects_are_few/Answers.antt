use Rattle.surject_arena.proofs.RedirectBoundLemmas.{redirects_are_few}
use Rattle.surject_arena.proofs.histories.redirects_are_few.Goals as goal

pub returns : goal.returns
returns g c = redirects_are_few g.row.Gen.Denot g.row.K.Denot g.row.V.Denot
