use Rattle.std.proofs.Common.{sym, ap, ◌∙◌}
use Rattle.arena_traits.specs.Entries.{found}
use Rattle.surject_arena.proofs.SetChangeLemmas.{no_sets}
use Rattle.surject_arena.proofs.surject.SurjectArena.new.Goals as goal

pub invariant_of-result : goal.invariant_of-result
invariant_of-result g c =
    no_sets g.P.PtrKey.key (g.A.ArenaTrait.entry c.new.result) (g.B.ArenaTrait.entry c.new-2.result) (g.A.ChainArenaTrait.interlinks c.new.result)
    (λ i. sym ((g.A.ArenaTrait.state c.new.result).finds i) ∙ ap (found i) c.new.ensures.new.entries) (λ j. sym ((g.B.ArenaTrait.state c.new-2.result).finds j) ∙ ap (found j) c.new-2.ensures.new.entries)
