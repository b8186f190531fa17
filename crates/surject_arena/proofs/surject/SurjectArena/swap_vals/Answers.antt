use Rattle.std.proofs.Common.{◌≡◌, false, true, inl, inr, refl, sym, ap, ◌∙◌, subst}
use Rattle.surject_arena.specs.SetCalls.{SwapsValuesOf}
use Rattle.surject_arena.proofs.OptionLemmas.{same_some}
use Rattle.surject_arena.proofs.SetReadLemmas.{seen, key_of, of_key, has_value, valued}
use Rattle.surject_arena.specs.Partitions.{member_view}
use Rattle.surject_arena.proofs.SetChangeLemmas.{same_partition}
use Rattle.surject_arena.proofs.ViewLemmas.{each-valid}
use Rattle.surject_arena.proofs.SwapLemmas.{swapped_sizes, swapped_view, values_apart}
use Rattle.surject_arena.proofs.surject.SurjectArena.swap_vals.Goals as goal

pub returns-in_err-v-clause-outcome : goal.returns-in_err-v-clause-outcome
returns-in_err-v-clause-outcome g c =
    let key = g.P.PtrKey.key in
    let s = seen key g.A.ArenaTrait.state g.B.ArenaTrait.state c.self.inside.keys c.self.inside.values c.self.inside.redirected in
    rw (← c.self.view_is) (subst (λ o. SwapsValuesOf key s c.args.p c.args.q o s) (sym c.from_residual.ensures) (λ first second. absurd (
    let some = c.in_err-v.ensures.some.1 (each-valid (member_view key) g.A.ArenaTrait.state c.self.inside.keys (key c.args.p) first) in
    cc)))

pub returns-in_err-w-clause-outcome : goal.returns-in_err-w-clause-outcome
returns-in_err-w-clause-outcome g c =
    let key = g.P.PtrKey.key in
    let s = seen key g.A.ArenaTrait.state g.B.ArenaTrait.state c.self.inside.keys c.self.inside.values c.self.inside.redirected in
    rw (← c.self.view_is) (subst (λ o. SwapsValuesOf key s c.args.p c.args.q o s) (sym c.from_residual-in_err-w.ensures) (λ first second. absurd (
    let some = c.in_err-w.ensures.some.1 (each-valid (member_view key) g.A.ArenaTrait.state c.self.inside.keys (key c.args.q) second) in
    cc)))

pub returns-then-is_same-clause-outcome : goal.returns-then-is_same-clause-outcome
returns-then-is_same-clause-outcome g c =
    let key = g.P.PtrKey.key in
    let a = c.self.inside.keys in
    let b = c.self.inside.values in
    let r = c.self.inside.redirected in
    let equal = (g.met.P.PtrKey.same_is_equal c.in_ok-v.v c.in_ok-w.w).0 (sym c.is_same.ensures ∙ c.if-is_same.true) in
    rw (← c.self.view_is) (record {
      v = key c.in_ok-v.v;
      w = key c.in_ok-w.w;
      first = key_of key g.A.ArenaTrait.state g.B.ArenaTrait.state a b r (key c.args.p) (key c.in_ok-v.v) (c.in_ok-v.ensures.some.0 refl) c.in_ok-v.ensures.set;
      second = key_of key g.A.ArenaTrait.state g.B.ArenaTrait.state a b r (key c.args.q) (key c.in_ok-w.w) (c.in_ok-w.ensures.some.0 refl) c.in_ok-w.ensures.set;
      swapped = inl (ap key equal, refl);
    })

pub invariant_of-self : goal.invariant_of-self
invariant_of-self g c =
    let key = g.P.PtrKey.key in
    let a = c.self.inside.keys in
    let b = c.self.inside.values in
    let links = g.A.ChainArenaTrait.interlinks a in
    let v = key c.in_ok-v.v in
    let w = key c.in_ok-w.w in
    let t = valued key g.A.ArenaTrait.state g.B.ArenaTrait.state a b 0 links c.self.invariant (key c.args.p).0 v c.in_ok-v.ensures.set in
    let u = valued key g.A.ArenaTrait.state g.B.ArenaTrait.state a b 0 links c.self.invariant (key c.args.q).0 w c.in_ok-w.ensures.set in
    let other = values_apart (g.B.ArenaTrait.entry b) v w t.0 u.0 t.1 u.1 t.2 u.2 (λ same. let equal : false ≡ true = c.if-is_same.ensures ∙ (g.met.P.PtrKey.same_is_equal c.in_ok-v.v c.in_ok-w.w).1 (g.met.P.PtrKey.same_key c.in_ok-v.v c.in_ok-w.w same) in cc) in
    same_partition _ _ _ _ _ _ c.self.invariant (λ i. refl) refl (swapped_sizes g.B.ArenaTrait.state b c.swap_values.new.values v w t.0 u.0 t.1 u.1 other t.2 u.2 (c.swap_values.ensures other t.0 u.0 t.1 u.1 t.2 u.2))

pub returns-clause-outcome : goal.returns-clause-outcome
returns-clause-outcome g c =
    let key = g.P.PtrKey.key in
    let a = c.self.inside.keys in
    let b = c.self.inside.values in
    let r = c.self.inside.redirected in
    let links = g.A.ChainArenaTrait.interlinks a in
    let v = key c.in_ok-v.v in
    let w = key c.in_ok-w.w in
    let t = valued key g.A.ArenaTrait.state g.B.ArenaTrait.state a b r links c.self.invariant (key c.args.p).0 v c.in_ok-v.ensures.set in
    let u = valued key g.A.ArenaTrait.state g.B.ArenaTrait.state a b r links c.self.invariant (key c.args.q).0 w c.in_ok-w.ensures.set in
    let other = values_apart (g.B.ArenaTrait.entry b) v w t.0 u.0 t.1 u.1 t.2 u.2 (λ same. let equal : false ≡ true = c.if-is_same.ensures ∙ (g.met.P.PtrKey.same_is_equal c.in_ok-v.v c.in_ok-w.w).1 (g.met.P.PtrKey.same_key c.in_ok-v.v c.in_ok-w.w same) in cc) in
    rw (← c.self.view_is) (record {
      v = v;
      w = w;
      first = key_of key g.A.ArenaTrait.state g.B.ArenaTrait.state a b r (key c.args.p) v (c.in_ok-v.ensures.some.0 refl) c.in_ok-v.ensures.set;
      second = key_of key g.A.ArenaTrait.state g.B.ArenaTrait.state a b r (key c.args.q) w (c.in_ok-w.ensures.some.0 refl) c.in_ok-w.ensures.set;
      swapped = inr (
        other,
        record {
          first_value = t.0;
          first_size = t.1;
          first_valued = has_value key g.A.ArenaTrait.state g.B.ArenaTrait.state a b r v t.0 t.1 t.2;
          second_value = u.0;
          second_size = u.1;
          second_valued = has_value key g.A.ArenaTrait.state g.B.ArenaTrait.state a b r w u.0 u.1 u.2;
          values = swapped_view g.B.ArenaTrait.state b c.swap_values.new.values v w t.0 u.0 t.1 u.1 other t.2 u.2 (c.swap_values.ensures other t.0 u.0 t.1 u.1 t.2 u.2);
          keys = refl;
          redirected = refl;
        },
      );
    })
