use Rattle.std.proofs.Common.{Some, ap, sym, ◌∙◌, subst}
use Rattle.arena_traits.specs.Entries.{view_with_value}
use Rattle.arena_traits.proofs.traits.ArenaTrait.replace.Goals as goal

pub returns-in-Some-clause-outcome : goal.returns-in-Some-clause-outcome
returns-in-Some-clause-outcome g c =
    let old = c.args.self.now in
    let p = g.P.PtrKey.key c.args.p in
    let held = rw c.in-Some.is at (c.get_mut.follows.holds c.replace.new.dest) in (
      c.in-Some.ensures.value ∙ ap (λ former. Some (p.1, former)) (sym c.replace.ensures.value),
      held.0 ∙ ap (view_with_value (g.Self.ArenaTrait.view old) p.0) c.replace.ensures.after,
    )

pub returns-in-Some-clause-implementation : goal.returns-in-Some-clause-implementation
returns-in-Some-clause-implementation g c =
    let new = c.get_mut.follows.lender c.replace.new.dest in
    let held = rw c.in-Some.is at (c.get_mut.follows.holds c.replace.new.dest) in
    subst (λ t. g.Self.ArenaTrait.writes c.args.self.now (g.P.PtrKey.key c.args.p).0 t new) c.replace.ensures.after held.1
