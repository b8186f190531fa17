use Rattle.std.proofs.Common.{refl}
use Rattle.surject_arena.specs.Partitions.{member_view, counted}
use Rattle.surject_arena.proofs.ViewLemmas.{valid-each, each-valid}
use Rattle.surject_arena.proofs.SetReadLemmas.{key_of, has_value, valued}
use Rattle.surject_arena.proofs.WriteLemmas.{same_sizes, value_replaced}
use Rattle.surject_arena.proofs.surject.SurjectArena.get_val_mut.Goals as goal

pub invariant_of-self-lent : goal.invariant_of-self-lent
invariant_of-self-lent g c t =
    let key = g.P.PtrKey.key in
    let e = c.in-Some-get_mut.e.now in
    let held = rw c.in-Some-get_mut.is at (c.get_mut.follows.holds (counted t e.size)) in
    same_sizes key g.A.ArenaTrait.state g.A.ChainArenaTrait.interlinks g.B.ArenaTrait.state c.self.inside.keys c.self.inside.values c.self.inside.redirected c.self.invariant (key c.args.p)
    (c.get_mut.follows.lender (counted t e.size)) (key c.in-Some.w) e.value t e.size c.in-Some-get_mut.ensures.value held.0 g.P.Gen.GenKey.following

pub returns-in-Some-get_mut : goal.returns-in-Some-get_mut
returns-in-Some-get_mut g c =
    let key = g.P.PtrKey.key in
    let a = c.self.inside.keys in
    let b = c.self.inside.values in
    let r = c.self.inside.redirected in
    let p = key c.args.p in
    let w = key c.in-Some.w in
    let e = c.in-Some-get_mut.e.now in
    let valid = c.in-Some.ensures.some.0 refl in (
      (
        refl,
        (λ t.
            let held = rw c.in-Some-get_mut.is at (c.get_mut.follows.holds (counted t e.size)) in
            rw (← c.self.view_is) (value_replaced key g.A.ArenaTrait.state g.A.ChainArenaTrait.interlinks g.B.ArenaTrait.state a b r c.self.invariant p (c.get_mut.follows.lender (counted t e.size)) w e.value t e.size c.in-Some-get_mut.ensures.value held.0 valid c.in-Some.ensures.set)),
        refl,
      ),
      record {
        writes_back = tt;
        some = rw (← c.self.view_is) (λ some. valid-each (member_view key) g.A.ArenaTrait.state a p valid, λ is. refl);
        value = rw (← c.self.view_is) (
          w,
          e.size,
          key_of key g.A.ArenaTrait.state g.B.ArenaTrait.state a b r p w valid c.in-Some.ensures.set,
          has_value key g.A.ArenaTrait.state g.B.ArenaTrait.state a b r w e.value e.size c.in-Some-get_mut.ensures.value,
        );
      },
    )

pub returns-in-None-get_mut : goal.returns-in-None-get_mut
returns-in-None-get_mut g c =
    let key = g.P.PtrKey.key in
    let a = c.self.inside.keys in
    let known = valued key g.A.ArenaTrait.state g.B.ArenaTrait.state a c.self.inside.values c.self.inside.redirected (g.A.ChainArenaTrait.interlinks a) c.self.invariant (key c.args.p).0 (key c.in-Some.w) c.in-Some.ensures.set in
    absurd (let some = c.in-None-get_mut.ensures.some.1 (record { value = counted known.0 known.1; stored = known.2 }) in cc)

pub returns-in-None : goal.returns-in-None
returns-in-None g c =
    let key = g.P.PtrKey.key in
    let a = c.self.inside.keys in (
      (refl, (λ w. tt), c.self.view_is),
      record {
        writes_back = tt;
        some = rw (← c.self.view_is) (λ some. absurd (cc), λ valid. c.in-None.ensures.some.1 (each-valid (member_view key) g.A.ArenaTrait.state a (key c.args.p) valid));
        value = tt;
      },
    )
