use Rattle.std.proofs.Common.{inl, inr, refl}
use Rattle.surject_arena.specs.Partitions.{member_view, counted_view}
use Rattle.surject_arena.proofs.ViewLemmas.{new-each}
use Rattle.surject_arena.proofs.surject.SurjectArena.with_capacity.Goals as goal

pub returns-in-Err : goal.returns-in-Err
returns-in-Err g c = inl c.in-Err.ensures.outcome

pub returns-in-Ok-with_min_capacity : goal.returns-in-Ok-with_min_capacity
returns-in-Ok-with_min_capacity g c =
    let keys = c.in-Ok.ensures.outcome in
    let values = c.in-Ok-with_min_capacity.ensures.outcome in (
      (new-each (member_view g.P.PtrKey.key) g.P.Gen.GenKey.first (g.A.ArenaTrait.view c.in-Ok.keys) keys.0, keys.1, keys.2, keys.3),
      (new-each counted_view g.P.Gen.GenKey.first (g.B.ArenaTrait.view c.in-Ok-with_min_capacity.values) values.0, values.1, values.2, values.3),
      refl,
    )

pub returns-in-Err-with_min_capacity : goal.returns-in-Err-with_min_capacity
returns-in-Err-with_min_capacity g c = inr c.in-Err-with_min_capacity.ensures.outcome
