use Rattle.std.proofs.Common.{sym, ap, ◌∙◌}
use Rattle.arena_traits.specs.Entries.{view_with_value}
use Rattle.surject_arena.specs.Partitions.{counted}
use Rattle.surject_arena.proofs.OptionLemmas.{same_some}
use Rattle.surject_arena.proofs.values.set_size.Goals as goal

pub returns-in-Some : goal.returns-in-Some
returns-in-Some g c = λ t m stored.
    let w = g.P.PtrKey.key c.args.w in
    let e = c.in-Some.e.now in
    let held = rw c.in-Some.is at (c.get_mut.follows.holds (counted e.value c.args.n)) in
    let same = same_some (w.1, e) (w.1, counted t m) (sym c.in-Some.ensures.value ∙ stored) in
    held.0 ∙ ap (λ x. view_with_value (g.B.ArenaTrait.view c.args.values.now) w.0 (counted x.1.value c.args.n)) same

pub returns-in-None : goal.returns-in-None
returns-in-None g c = λ t m stored. absurd (let some = c.in-None.ensures.some.1 (record { value = counted t m; stored = stored }) in cc)
