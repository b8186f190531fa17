use Rattle.surject_arena.proofs.HistoryLemmas.{sets_are_the_classes}
use Rattle.surject_arena.proofs.histories.sets_are_the_classes.Goals as goal

pub returns : goal.returns
returns g c = sets_are_the_classes g.row.Gen.Denot g.row.K.Denot g.row.V.Denot
