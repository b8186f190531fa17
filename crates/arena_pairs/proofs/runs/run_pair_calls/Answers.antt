use Rattle.std.proofs.Common.{Result, Ok, Err}
use Rattle.std.specs.Prelude.{IfOk, OnErr, MatchResult}
use Rattle.arena_pairs.proofs.runs.run_pair_calls.Goals as goal

in_both : {A E : Type 0} (F : A → Type 0) (X : Type 0) (r : Result A E) → IfOk r F → OnErr r X → MatchResult r F (λ _. X)
in_both F X (Ok a) run err = run
in_both F X (Err e) run err = err

pub returns : goal.returns
returns g c =
    let made = c.replies_to-replies in
    record { ends = (c.invariants.ensures.one, c.invariants-2.ensures.one, in_both _ _ made.result made.ensures.run made.ensures.err) }
