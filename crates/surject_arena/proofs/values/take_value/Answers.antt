use Rattle.std.proofs.Common.{sym, ◌∙◌}
use Rattle.arena_core.specs.Invalidation.{value_within}
use Rattle.arena_core.proofs.PointerKindLemmas.{kind_by}
use Rattle.arena_traits.specs.Arena.{IsValid}
use Rattle.arena_traits.specs.CallOutcomes.{IsEntryRemoved}
use Rattle.arena_traits.proofs.CallOutcomeLemmas.{where_none, reports_none}
use Rattle.surject_arena.specs.Partitions.{counted}
use Rattle.surject_arena.proofs.values.take_value.Goals as goal

pub returns-in-None : goal.returns-in-None
returns-in-None g c = λ t n stored.
    let old = c.args.values.now in
    let w = g.P.PtrKey.key c.args.w in
    let invalid = where_none (value_within c.remove.result)
    (reports_none g.P.Gen.GenKey.wraps (IsValid (g.B.ArenaTrait.entry old) w → ⊥) (λ x. IsEntryRemoved g.B.ArenaTrait.state (kind_by g.P.PtrKey g.P.Inx.InxKey g.P.Gen.GenKey) old w.0 w.1 x c.remove.new.self)
    (g.B.ArenaTrait.view old).counter c.remove.result c.remove.ensures.outcome (λ none. none)) (sym c.allow.ensures ∙ c.in-None.is) in
    absurd (invalid (record { value = counted t n; stored = stored }))
