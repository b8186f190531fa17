use Rattle.std.proofs.Common.{refl}
use Rattle.surject_arena.specs.Partitions.{member_view}
use Rattle.surject_arena.proofs.ViewLemmas.{valid-each, each-valid}
use Rattle.surject_arena.proofs.SetReadLemmas.{key_of, has_value, size_read}
use Rattle.surject_arena.proofs.surject.SurjectArena.len_key_set.Goals as goal

pub returns-in-Some : goal.returns-in-Some
returns-in-Some g c =
    let key = g.P.PtrKey.key in
    let a = c.self.inside.keys in
    let b = c.self.inside.values in
    let r = c.self.inside.redirected in
    let p = key c.args.p in
    let w = key c.in-Some.w in
    let valid = c.in-Some.ensures.some.0 refl in
    let known = size_read key g.A.ArenaTrait.state g.B.ArenaTrait.state a b r (g.A.ChainArenaTrait.interlinks a) c.self.invariant p.0 w c.size_of.result c.in-Some.ensures.set c.size_of.ensures in
    rw (← c.self.view_is) (record {
      some = (λ some. valid-each (member_view key) g.A.ArenaTrait.state a p valid, λ is. refl);
      size = (w, known.0, key_of key g.A.ArenaTrait.state g.B.ArenaTrait.state a b r p w valid c.in-Some.ensures.set, has_value key g.A.ArenaTrait.state g.B.ArenaTrait.state a b r w known.0 c.size_of.result known.1);
    })

pub returns-in-None : goal.returns-in-None
returns-in-None g c =
    let key = g.P.PtrKey.key in
    rw (← c.self.view_is) (record {
      some = (λ some. absurd (cc), λ valid. c.in-None.ensures.some.1 (each-valid (member_view key) g.A.ArenaTrait.state c.self.inside.keys (key c.args.p) valid));
      size = tt;
    })
