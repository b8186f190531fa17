use Rattle.std.proofs.Common.{inl, inr, refl, sym, ap, ◌∙◌, subst, arith}
use Rattle.surject_arena.specs.SetCalls.{UnitesSets}
use Rattle.surject_arena.proofs.OptionLemmas.{same_some}
use Rattle.surject_arena.proofs.SetReadLemmas.{seen, key_of, of_key, has_value, size_read}
use Rattle.surject_arena.proofs.surject.SurjectArena.union.Goals as goal

pub returns-in_err-v-clause-outcome : goal.returns-in_err-v-clause-outcome
returns-in_err-v-clause-outcome g c =
    let key = g.P.PtrKey.key in
    let s = seen key g.A.ArenaTrait.state g.B.ArenaTrait.state c.self.inside.keys c.self.inside.values c.self.inside.redirected in
    rw (← c.self.view_is) (subst (λ o. UnitesSets key g.P.Gen.GenKey.following s c.args.p c.args.q o s) (sym c.from_residual.ensures) (λ v w first second. absurd (
    let some = c.in_err-v.ensures.some.1 (of_key key g.A.ArenaTrait.state g.B.ArenaTrait.state c.self.inside.keys c.self.inside.values c.self.inside.redirected (key c.args.p) v first).0 in
    cc)))

pub returns-in_err-w-clause-outcome : goal.returns-in_err-w-clause-outcome
returns-in_err-w-clause-outcome g c =
    let key = g.P.PtrKey.key in
    let s = seen key g.A.ArenaTrait.state g.B.ArenaTrait.state c.self.inside.keys c.self.inside.values c.self.inside.redirected in
    rw (← c.self.view_is) (subst (λ o. UnitesSets key g.P.Gen.GenKey.following s c.args.p c.args.q o s) (sym c.from_residual-in_err-w.ensures) (λ v w first second. absurd (
    let some = c.in_err-w.ensures.some.1 (of_key key g.A.ArenaTrait.state g.B.ArenaTrait.state c.self.inside.keys c.self.inside.values c.self.inside.redirected (key c.args.q) w second).0 in
    cc)))

pub returns-then-is_same-clause-outcome : goal.returns-then-is_same-clause-outcome
returns-then-is_same-clause-outcome g c =
    let key = g.P.PtrKey.key in
    let a = c.self.inside.keys in
    let b = c.self.inside.values in
    let r = c.self.inside.redirected in
    rw (← c.self.view_is) (λ v w first second.
    let at_p = (of_key key g.A.ArenaTrait.state g.B.ArenaTrait.state a b r (key c.args.p) v first).1 in
    let at_q = (of_key key g.A.ArenaTrait.state g.B.ArenaTrait.state a b r (key c.args.q) w second).1 in
    let equal = (g.met.P.PtrKey.same_is_equal c.in_ok-v.v c.in_ok-w.w).0 (sym c.is_same.ensures ∙ c.if-is_same.true) in
    same_some v (key c.in_ok-v.v) (sym at_p ∙ c.in_ok-v.ensures.set) ∙ (ap key equal ∙ sym (same_some w (key c.in_ok-w.w) (sym at_q ∙ c.in_ok-w.ensures.set))))

pub absorb-requires-clause-first : goal.absorb-requires-clause-first
absorb-requires-clause-first g c =
    rw (← c.self.view_is) (key_of g.P.PtrKey.key g.A.ArenaTrait.state g.B.ArenaTrait.state c.self.inside.keys c.self.inside.values c.self.inside.redirected (g.P.PtrKey.key c.args.q) (g.P.PtrKey.key c.in_ok-w.w) (c.in_ok-w.ensures.some.0 refl) c.in_ok-w.ensures.set)

pub absorb-requires-clause-second : goal.absorb-requires-clause-second
absorb-requires-clause-second g c =
    rw (← c.self.view_is) (key_of g.P.PtrKey.key g.A.ArenaTrait.state g.B.ArenaTrait.state c.self.inside.keys c.self.inside.values c.self.inside.redirected (g.P.PtrKey.key c.args.p) (g.P.PtrKey.key c.in_ok-v.v) (c.in_ok-v.ensures.some.0 refl) c.in_ok-v.ensures.set)

pub returns-then-size_of-clause-outcome : goal.returns-then-size_of-clause-outcome
returns-then-size_of-clause-outcome g c =
    let key = g.P.PtrKey.key in
    let a = c.self.inside.keys in
    let b = c.self.inside.values in
    let r = c.self.inside.redirected in
    let p = key c.args.p in
    let q = key c.args.q in
    let v = key c.in_ok-v.v in
    let w = key c.in_ok-w.w in
    let t = size_read key g.A.ArenaTrait.state g.B.ArenaTrait.state a b r (g.A.ChainArenaTrait.interlinks a) c.self.invariant p.0 v c.size_of.result c.in_ok-v.ensures.set c.size_of.ensures in
    let u = size_read key g.A.ArenaTrait.state g.B.ArenaTrait.state a b r (g.A.ChainArenaTrait.interlinks a) c.self.invariant q.0 w c.size_of-2.result c.in_ok-w.ensures.set c.size_of-2.ensures in
    rw (← c.self.view_is) (record {
      v = v;
      w = w;
      first = key_of key g.A.ArenaTrait.state g.B.ArenaTrait.state a b r p v (c.in_ok-v.ensures.some.0 refl) c.in_ok-v.ensures.set;
      second = key_of key g.A.ArenaTrait.state g.B.ArenaTrait.state a b r q w (c.in_ok-w.ensures.some.0 refl) c.in_ok-w.ensures.set;
      first_value = t.0;
      first_size = c.size_of.result;
      first_valued = has_value key g.A.ArenaTrait.state g.B.ArenaTrait.state a b r v t.0 c.size_of.result t.1;
      second_value = u.0;
      second_size = c.size_of-2.result;
      second_valued = has_value key g.A.ArenaTrait.state g.B.ArenaTrait.state a b r w u.0 c.size_of-2.result u.1;
      absorbed = inr (omega (arith, c.if-size_of.true), rw (← c.self.view_is) at c.absorb.ensures, refl);
    })

pub absorb-requires-2-clause-first : goal.absorb-requires-2-clause-first
absorb-requires-2-clause-first g c =
    rw (← c.self.view_is) (key_of g.P.PtrKey.key g.A.ArenaTrait.state g.B.ArenaTrait.state c.self.inside.keys c.self.inside.values c.self.inside.redirected (g.P.PtrKey.key c.args.p) (g.P.PtrKey.key c.in_ok-v.v) (c.in_ok-v.ensures.some.0 refl) c.in_ok-v.ensures.set)

pub absorb-requires-2-clause-second : goal.absorb-requires-2-clause-second
absorb-requires-2-clause-second g c =
    rw (← c.self.view_is) (key_of g.P.PtrKey.key g.A.ArenaTrait.state g.B.ArenaTrait.state c.self.inside.keys c.self.inside.values c.self.inside.redirected (g.P.PtrKey.key c.args.q) (g.P.PtrKey.key c.in_ok-w.w) (c.in_ok-w.ensures.some.0 refl) c.in_ok-w.ensures.set)

pub returns-clause-outcome : goal.returns-clause-outcome
returns-clause-outcome g c =
    let key = g.P.PtrKey.key in
    let a = c.self.inside.keys in
    let b = c.self.inside.values in
    let r = c.self.inside.redirected in
    let p = key c.args.p in
    let q = key c.args.q in
    let v = key c.in_ok-v.v in
    let w = key c.in_ok-w.w in
    let t = size_read key g.A.ArenaTrait.state g.B.ArenaTrait.state a b r (g.A.ChainArenaTrait.interlinks a) c.self.invariant p.0 v c.size_of.result c.in_ok-v.ensures.set c.size_of.ensures in
    let u = size_read key g.A.ArenaTrait.state g.B.ArenaTrait.state a b r (g.A.ChainArenaTrait.interlinks a) c.self.invariant q.0 w c.size_of-2.result c.in_ok-w.ensures.set c.size_of-2.ensures in
    rw (← c.self.view_is) (record {
      v = v;
      w = w;
      first = key_of key g.A.ArenaTrait.state g.B.ArenaTrait.state a b r p v (c.in_ok-v.ensures.some.0 refl) c.in_ok-v.ensures.set;
      second = key_of key g.A.ArenaTrait.state g.B.ArenaTrait.state a b r q w (c.in_ok-w.ensures.some.0 refl) c.in_ok-w.ensures.set;
      first_value = t.0;
      first_size = c.size_of.result;
      first_valued = has_value key g.A.ArenaTrait.state g.B.ArenaTrait.state a b r v t.0 c.size_of.result t.1;
      second_value = u.0;
      second_size = c.size_of-2.result;
      second_valued = has_value key g.A.ArenaTrait.state g.B.ArenaTrait.state a b r w u.0 c.size_of-2.result u.1;
      absorbed = inl (omega (arith, c.if-size_of.false), rw (← c.self.view_is) at c.absorb-2.ensures, refl);
    })
