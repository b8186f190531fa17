use Rattle.std.proofs.Common.{sym, ap, ◌∙◌}
use Rattle.arena_traits.specs.Entries.{found}
use Rattle.surject_arena.proofs.SetChangeLemmas.{no_sets}
use Rattle.surject_arena.proofs.surject.SurjectArena.clear.Goals as goal

pub invariant_of-self : goal.invariant_of-self
invariant_of-self g c =
    let a = c.clear-2.new.self in
    let b = c.clear.new.self in
    no_sets g.P.PtrKey.key (g.A.ArenaTrait.entry a) (g.B.ArenaTrait.entry b) (g.A.ChainArenaTrait.interlinks a)
    (λ i. sym ((g.A.ArenaTrait.state a).finds i) ∙ ap (λ s. found i s.entries) c.clear-2.ensures.outcome.after) (λ j. sym ((g.B.ArenaTrait.state b).finds j) ∙ ap (λ s. found j s.entries) c.clear.ensures.outcome.after)
