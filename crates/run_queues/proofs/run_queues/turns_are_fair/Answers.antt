use Rattle.run_queues.proofs.FairnessLemmas.{same_or_not}
use Rattle.run_queues.proofs.TurnLemmas.{stay_ahead, turns_fair}
use Rattle.run_queues.proofs.run_queues.turns_are_fair.Goals as goal

pub returns : goal.returns
returns g c =
    let decide = same_or_not g.P.Gen.GenKey.same g.met.P.Gen.GenKey.same_is_equal in
    record { ahead = stay_ahead decide; fair = turns_fair decide }
