use Rattle.std.proofs.Common.{◌≢◌, Some, refl, sym, ap, ◌∙◌}
use Rattle.surject_arena.specs.Partitions.{member_view}
use Rattle.surject_arena.proofs.ViewLemmas.{each-valid}
use Rattle.surject_arena.proofs.BesideLemmas.{another_after, alone_after, some_after}
use Rattle.surject_arena.proofs.surject.SurjectArena.beside.Goals as goal

pub returns-in_err-q-clause-none : goal.returns-in_err-q-clause-none
returns-in_err-q-clause-none g c =
    let key = g.P.PtrKey.key in
    let a = c.self.inside.keys in
    rw (← c.self.view_is) (rw c.from_residual.ensures (λ is_key. absurd (
    let valid = each-valid (member_view key) g.A.ArenaTrait.state a (key c.args.p) is_key in
    some_after key g.A.ArenaTrait.state g.A.ChainArenaTrait.interlinks g.B.ArenaTrait.state a c.self.inside.values c.self.inside.redirected c.self.invariant (key c.args.p) valid (c.in_err-q.ensures.after valid))))

pub returns-then-is_same-clause-none : goal.returns-then-is_same-clause-none
returns-then-is_same-clause-none g c =
    let key = g.P.PtrKey.key in
    let a = c.self.inside.keys in
    rw (← c.self.view_is) (λ is_key.
    let valid = each-valid (member_view key) g.A.ArenaTrait.state a (key c.args.p) is_key in
    let equal = (g.met.P.PtrKey.same_is_equal c.in_ok-q.q c.args.p).0 (sym c.is_same.ensures ∙ c.if-is_same.true) in
    alone_after key g.A.ArenaTrait.state g.A.ChainArenaTrait.interlinks g.B.ArenaTrait.state a c.self.inside.values c.self.inside.redirected c.self.invariant (key c.args.p) valid (ap (λ q. Some (key q)) (sym equal) ∙ c.in_ok-q.ensures.after valid))

pub returns-clause-some : goal.returns-clause-some
returns-clause-some g c =
    let key = g.P.PtrKey.key in
    let a = c.self.inside.keys in
    let valid = c.in_ok-q.ensures.some refl in
    let differ : key c.in_ok-q.q ≢ key c.args.p = λ same. absurd (
    let yes = c.is_same.ensures ∙ (g.met.P.PtrKey.same_is_equal c.in_ok-q.q c.args.p).1 (g.met.P.PtrKey.same_key c.in_ok-q.q c.args.p same) in
    let no = c.if-is_same.false in
    cc) in
    rw (← c.self.view_is) (another_after key g.A.ArenaTrait.state g.A.ChainArenaTrait.interlinks g.B.ArenaTrait.state a c.self.inside.values c.self.inside.redirected c.self.invariant (key c.args.p) valid (key c.in_ok-q.q) (c.in_ok-q.ensures.after valid) differ)
