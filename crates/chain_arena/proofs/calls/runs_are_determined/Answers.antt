use Rattle.arena_core.proofs.PointerKindLemmas.{kind_by}
use Rattle.chain_arena.proofs.DeterminismLemmas.{run_same, step_alike, run_in_capacity}
use Rattle.chain_arena.proofs.calls.runs_are_determined.Goals as goal

pub returns-clause-runs_determined : goal.returns-clause-runs_determined
returns-clause-runs_determined g c = run_same (kind_by g.P.PtrKey g.P.Inx.InxKey g.P.Gen.GenKey) g.met.P.PtrKey.same_key

pub returns-clause-step : goal.returns-clause-step
returns-clause-step g c = step_alike (kind_by g.P.PtrKey g.P.Inx.InxKey g.P.Gen.GenKey) g.met.P.PtrKey.same_key

pub returns-clause-by_capacity : goal.returns-clause-by_capacity
returns-clause-by_capacity g c = run_in_capacity (kind_by g.P.PtrKey g.P.Inx.InxKey g.P.Gen.GenKey) g.met.P.PtrKey.same_key
