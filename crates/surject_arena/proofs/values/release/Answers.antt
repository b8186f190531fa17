use Rattle.std.proofs.Common.{◌-◌, refl, ap, ◌∙◌, arith}
use Rattle.arena_traits.specs.Entries.{view_with_value}
use Rattle.surject_arena.specs.Partitions.{counted}
use Rattle.surject_arena.proofs.SetReadLemmas.{size_stored}
use Rattle.surject_arena.proofs.values.release.Goals as goal

pub returns-then-n-gt1-clause-many : goal.returns-then-n-gt1-clause-many
returns-then-n-gt1-clause-many g c = λ t n stored more.
    let w = g.P.PtrKey.key c.args.w in
    let same = c.size_of-n.ensures n (size_stored (g.B.ArenaTrait.entry c.args.values.now) w.0 w.1 t n stored) in
    (refl, c.set_size.ensures t n stored ∙ ap (λ m. view_with_value (g.B.ArenaTrait.view c.args.values.now) w.0 (counted t (m - 1))) same)

pub returns-then-n-gt1-clause-last : goal.returns-then-n-gt1-clause-last
returns-then-n-gt1-clause-last g c = λ t n stored few.
    let w = g.P.PtrKey.key c.args.w in
    let same = c.size_of-n.ensures n (size_stored (g.B.ArenaTrait.entry c.args.values.now) w.0 w.1 t n stored) in
    absurd (omega (arith, same, few, c.if-n-gt1.true))

pub returns-clause-many : goal.returns-clause-many
returns-clause-many g c = λ t n stored more.
    let w = g.P.PtrKey.key c.args.w in
    let same = c.size_of-n.ensures n (size_stored (g.B.ArenaTrait.entry c.args.values.now) w.0 w.1 t n stored) in
    absurd (omega (arith, same, more, c.if-n-gt1.false))
