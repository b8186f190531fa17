use Rattle.std.proofs.Common.{◌≡◌, refl, sym, subst}
use Rattle.std.specs.Prelude.{IfNone}
use Rattle.surject_arena.specs.Partitions.{member_view}
use Rattle.surject_arena.specs.SetCalls.{ReplacesValueOf}
use Rattle.surject_arena.proofs.ViewLemmas.{each-valid}
use Rattle.surject_arena.proofs.SetReadLemmas.{seen, valued}
use Rattle.surject_arena.proofs.WriteLemmas.{same_sizes, value_replaced}
use Rattle.surject_arena.proofs.surject.SurjectArena.replace_val.Goals as goal

pub invariant_of-self : goal.invariant_of-self
invariant_of-self g c =
    let key = g.P.PtrKey.key in
    let a = c.self.inside.keys in
    let b = c.self.inside.values in
    let w = key c.in-Some.w in
    let known = valued key g.A.ArenaTrait.state g.B.ArenaTrait.state a b 0 (g.A.ChainArenaTrait.interlinks a) c.self.invariant (key c.args.p).0 w c.in-Some.ensures.set in
    let replaced = c.replace_value.ensures known.0 known.1 known.2 in
    same_sizes key g.A.ArenaTrait.state g.A.ChainArenaTrait.interlinks g.B.ArenaTrait.state a b 0 c.self.invariant (key c.args.p) c.replace_value.new.values w known.0 c.args.v known.1 known.2 replaced.1 g.P.Gen.GenKey.following

pub returns-in-Some-clause-outcome : goal.returns-in-Some-clause-outcome
returns-in-Some-clause-outcome g c =
    let key = g.P.PtrKey.key in
    let a = c.self.inside.keys in
    let b = c.self.inside.values in
    let r = c.self.inside.redirected in
    let p = key c.args.p in
    let w = key c.in-Some.w in
    let known = valued key g.A.ArenaTrait.state g.B.ArenaTrait.state a b r (g.A.ChainArenaTrait.interlinks a) c.self.invariant p.0 w c.in-Some.ensures.set in
    let replaced = c.replace_value.ensures known.0 known.1 known.2 in
    rw (← c.self.view_is) (subst (λ o. ReplacesValueOf key (seen key g.A.ArenaTrait.state g.B.ArenaTrait.state a b r) c.args.p c.args.v o (seen key g.A.ArenaTrait.state g.B.ArenaTrait.state a c.replace_value.new.values r)) (sym replaced.0) (
    value_replaced key g.A.ArenaTrait.state g.A.ChainArenaTrait.interlinks g.B.ArenaTrait.state a b r c.self.invariant p c.replace_value.new.values w known.0 c.args.v known.1 known.2 replaced.1 (c.in-Some.ensures.some.0 refl) c.in-Some.ensures.set))

pub returns-in-Some-clause-none : goal.returns-in-Some-clause-none
returns-in-Some-clause-none g c =
    let key = g.P.PtrKey.key in
    let a = c.self.inside.keys in
    let known = valued key g.A.ArenaTrait.state g.B.ArenaTrait.state a c.self.inside.values 0 (g.A.ChainArenaTrait.interlinks a) c.self.invariant (key c.args.p).0 (key c.in-Some.w) c.in-Some.ensures.set in
    let replaced = c.replace_value.ensures known.0 known.1 known.2 in
    subst (λ o. IfNone o (seen key g.A.ArenaTrait.state g.B.ArenaTrait.state a c.replace_value.new.values c.self.inside.redirected ≡ c.args.self.now)) (sym replaced.0) tt

pub returns-in-None-clause-outcome : goal.returns-in-None-clause-outcome
returns-in-None-clause-outcome g c = rw (← c.self.view_is) (λ valid. absurd (let some = c.in-None.ensures.some.1 (each-valid (member_view g.P.PtrKey.key) g.A.ArenaTrait.state c.self.inside.keys (g.P.PtrKey.key c.args.p) valid) in cc))
