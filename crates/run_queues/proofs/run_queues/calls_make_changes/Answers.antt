use Rattle.std.proofs.Common.{Option}
use Rattle.std.specs.Prelude.{Bool, IsSome}
use Rattle.arena_core.specs.Invalidation.{value_within}
use Rattle.arena_core.specs.declared.invalidation.InvalidationResult.{InvalidationResult}
use Rattle.arena_core.specs.declared.invalidation.InvalidationResult.TheVariants.{Success, GenerationOverflow, InvalidPtr}
use Rattle.arena_traits.specs.CallOutcomes.{ReportsOverflow}
use Rattle.run_queues.proofs.run_queues.calls_make_changes.Goals as goal

done_anyway : {X Gen : Type 0} (wraps : Gen → Bool) (counter : Option Gen) (invalid : Type 0) (done : X → Type 0) (r : InvalidationResult X) → IsSome (value_within r) → ReportsOverflow wraps counter invalid done r → (x : X) × done x
done_anyway wraps counter invalid done InvalidPtr some is = absurd (cc)
done_anyway wraps counter invalid done (Success x) some is = (x, is.1)
done_anyway wraps counter invalid done (GenerationOverflow x) some is = (x, is.1)

pub returns : goal.returns
returns g c = record {
  new_queue = λ greatest old new q is. is.outcome.0;
  spawn = λ greatest old new q p t is. (is.outcome.0, t, is.outcome.1.0);
  next = λ old new q p is. is;
  move_to = λ old new p q is. is;
  wake_one = λ old new l q p is. is;
  wake_all = λ old new l q is. is;
  replace = λ old new p t former is. (t, former, is.0, is.1);
  cancel = λ old new p result some is. done_anyway _ _ _ _ result some is;
  remove_queue = λ old new q result some is. (is.0, (done_anyway _ _ _ _ result some is.1).1.0);
  reserve = λ greatest additional old new done is. is.kept;
}
