use Rattle.std.proofs.Common.{refl, sym, ◌∙◌}
use Rattle.surject_arena.proofs.SetReadLemmas.{key_of, of_key}
use Rattle.surject_arena.proofs.surject.SurjectArena.in_same_set.Goals as goal

pub returns-in-Some : goal.returns-in-Some
returns-in-Some g c =
    let key = g.P.PtrKey.key in
    let a = c.self.inside.keys in
    let b = c.self.inside.values in
    let r = c.self.inside.redirected in
    let p = key c.args.p in
    let q = key c.args.q in
    let w = key c.in-Some.w in
    rw (← c.self.view_is) (
      λ yes.
          let both = c.is_in_set.ensures.0 yes in
          (w, key_of key g.A.ArenaTrait.state g.B.ArenaTrait.state a b r p w (c.in-Some.ensures.some.0 refl) c.in-Some.ensures.set, key_of key g.A.ArenaTrait.state g.B.ArenaTrait.state a b r q w both.0 both.1),
      λ one.
          let first = of_key key g.A.ArenaTrait.state g.B.ArenaTrait.state a b r p one.0 one.1 in
          let second = of_key key g.A.ArenaTrait.state g.B.ArenaTrait.state a b r q one.0 one.2 in
          c.is_in_set.ensures.1 (second.0, second.1 ∙ (sym first.1 ∙ c.in-Some.ensures.set)),
    )

pub returns-in-None : goal.returns-in-None
returns-in-None g c =
    let key = g.P.PtrKey.key in
    rw (← c.self.view_is) (
      λ yes. absurd (cc),
      λ one. absurd (
          let first = of_key key g.A.ArenaTrait.state g.B.ArenaTrait.state c.self.inside.keys c.self.inside.values c.self.inside.redirected (key c.args.p) one.0 one.1 in
          let some = c.in-None.ensures.some.1 first.0 in
          cc),
    )
