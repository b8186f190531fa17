use Rattle.std.proofs.Common.{Some, sym, ap, ◌∙◌}
use Rattle.arena_traits.specs.Entries.{view_with_value}
use Rattle.surject_arena.specs.Partitions.{counted}
use Rattle.surject_arena.proofs.OptionLemmas.{same_some}
use Rattle.surject_arena.proofs.values.replace_value.Goals as goal

pub returns-in-Some : goal.returns-in-Some
returns-in-Some g c = λ was n stored.
    let w = g.P.PtrKey.key c.args.w in
    let e = c.in-Some.e.now in
    let view = g.B.ArenaTrait.view c.args.values.now in
    let held = rw c.in-Some.is at (c.get_mut.follows.holds (counted c.replace.new.dest e.size)) in
    let same = same_some (w.1, e) (w.1, counted was n) (sym c.in-Some.ensures.value ∙ stored) in (
      ap Some (c.replace.ensures.value ∙ ap (λ x. x.1.value) same),
      held.0 ∙ (ap (λ t. view_with_value view w.0 (counted t e.size)) c.replace.ensures.after ∙ ap (λ x. view_with_value view w.0 (counted c.args.t x.1.size)) same),
    )

pub returns-in-None : goal.returns-in-None
returns-in-None g c = λ t m stored. absurd (let some = c.in-None.ensures.some.1 (record { value = counted t m; stored = stored }) in cc)
