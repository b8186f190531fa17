use Rattle.std.proofs.Common.{Some, refl, sym, ap, ◌∙◌}
use Rattle.surject_arena.proofs.OptionLemmas.{same_some}
use Rattle.surject_arena.proofs.SetReadLemmas.{set_stored}
use Rattle.surject_arena.proofs.keys.is_in_set.Goals as goal

pub returns-in-Some : goal.returns-in-Some
returns-in-Some g c =
    let key = g.P.PtrKey.key in
    let p = key c.args.p in
    let e = c.in-Some.e.now in
    let own = set_stored key (g.A.ArenaTrait.entry c.args.keys.now) p.0 p.1 e c.in-Some.ensures.value in
    let equal = g.met.P.PtrKey.same_is_equal e.set c.args.w in (
      λ yes. (c.in-Some.ensures.some.0 refl, own ∙ ap (λ u. Some (key u)) (equal.0 (sym c.is_same.ensures ∙ yes))),
      λ both. c.is_same.ensures ∙ equal.1 (g.met.P.PtrKey.same_key e.set c.args.w (same_some (key e.set) (key c.args.w) (sym own ∙ both.1))),
    )
