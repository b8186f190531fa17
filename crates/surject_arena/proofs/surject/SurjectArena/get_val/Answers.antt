use Rattle.std.proofs.Common.{refl}
use Rattle.surject_arena.specs.Partitions.{member_view, counted}
use Rattle.surject_arena.proofs.ViewLemmas.{valid-each, each-valid}
use Rattle.surject_arena.proofs.SetReadLemmas.{key_of, has_value, valued}
use Rattle.surject_arena.proofs.surject.SurjectArena.get_val.Goals as goal

pub returns-in-Some-get : goal.returns-in-Some-get
returns-in-Some-get g c =
    let key = g.P.PtrKey.key in
    let a = c.self.inside.keys in
    let b = c.self.inside.values in
    let r = c.self.inside.redirected in
    let p = key c.args.p in
    let w = key c.in-Some.w in
    let valid = c.in-Some.ensures.some.0 refl in
    rw (← c.self.view_is) (record {
      some = (λ some. valid-each (member_view key) g.A.ArenaTrait.state a p valid, λ is. refl);
      value = (
        w,
        c.in-Some-get.e.now.size,
        key_of key g.A.ArenaTrait.state g.B.ArenaTrait.state a b r p w valid c.in-Some.ensures.set,
        has_value key g.A.ArenaTrait.state g.B.ArenaTrait.state a b r w c.in-Some-get.e.now.value c.in-Some-get.e.now.size c.in-Some-get.ensures.value,
      );
    })

pub returns-in-None-get : goal.returns-in-None-get
returns-in-None-get g c =
    let key = g.P.PtrKey.key in
    let a = c.self.inside.keys in
    let b = c.self.inside.values in
    let known = valued key g.A.ArenaTrait.state g.B.ArenaTrait.state a b c.self.inside.redirected (g.A.ChainArenaTrait.interlinks a) c.self.invariant (key c.args.p).0 (key c.in-Some.w) c.in-Some.ensures.set in
    absurd (let some = c.in-None-get.ensures.some.1 (record { value = counted known.0 known.1; stored = known.2 }) in cc)

pub returns-in-None : goal.returns-in-None
returns-in-None g c =
    let key = g.P.PtrKey.key in
    rw (← c.self.view_is) (record {
      some = (λ some. absurd (cc), λ valid. c.in-None.ensures.some.1 (each-valid (member_view key) g.A.ArenaTrait.state c.self.inside.keys (key c.args.p) valid));
      value = tt;
    })
