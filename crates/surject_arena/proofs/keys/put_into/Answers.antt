use Rattle.std.proofs.Common.{sym, ap, ◌∙◌}
use Rattle.arena_traits.specs.Entries.{view_with_value}
use Rattle.surject_arena.specs.Partitions.{member}
use Rattle.surject_arena.proofs.OptionLemmas.{same_some}
use Rattle.surject_arena.proofs.keys.put_into.Goals as goal

pub returns-in-Some : goal.returns-in-Some
returns-in-Some g c = λ m stored.
    let p = g.P.PtrKey.key c.args.p in
    let e = c.in-Some.e.now in
    let held = rw c.in-Some.is at (c.get_mut.follows.holds (member e.key c.args.w)) in
    let same = same_some (p.1, e) (p.1, m) (sym c.in-Some.ensures.value ∙ stored) in (
      held.0 ∙ ap (λ x. view_with_value (g.A.ArenaTrait.view c.args.keys.now) p.0 (member x.1.key c.args.w)) same,
      g.met.A.ChainArenaTrait.write_keeps _ _ _ _ held.1,
    )

pub returns-in-None : goal.returns-in-None
returns-in-None g c = λ m stored. absurd (let some = c.in-None.ensures.some.1 (record { value = m; stored = stored }) in cc)
