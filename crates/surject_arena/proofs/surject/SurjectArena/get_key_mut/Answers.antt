use Rattle.std.proofs.Common.{refl, ap, ◌∙◌}
use Rattle.std.specs.Option.{option_map}
use Rattle.surject_arena.specs.Partitions.{member, member_view}
use Rattle.surject_arena.proofs.ViewLemmas.{valid-each, each-valid}
use Rattle.surject_arena.proofs.SetReadLemmas.{seen, key_seen}
use Rattle.surject_arena.proofs.WriteLemmas.{same_sets, key_replaced}
use Rattle.surject_arena.proofs.surject.SurjectArena.get_key_mut.Goals as goal

pub invariant_of-self-lent : goal.invariant_of-self-lent
invariant_of-self-lent g c w =
    let e = c.in-Some.e.now in
    let held = rw c.in-Some.is at (c.get_mut.follows.holds (member w e.set)) in
    same_sets g.P.PtrKey.key g.A.ArenaTrait.state g.A.ChainArenaTrait.interlinks g.B.ArenaTrait.state c.self.inside.keys c.self.inside.values c.self.inside.redirected c.self.invariant (g.P.PtrKey.key c.args.p)
    (c.get_mut.follows.lender (member w e.set)) e c.in-Some.ensures.value w held.0 (g.met.A.ChainArenaTrait.write_keeps _ _ _ _ held.1)

pub returns-in-Some : goal.returns-in-Some
returns-in-Some g c =
    let key = g.P.PtrKey.key in
    let a = c.self.inside.keys in
    let b = c.self.inside.values in
    let r = c.self.inside.redirected in
    let p = key c.args.p in
    let e = c.in-Some.e.now in (
      (
        refl,
        (λ w.
            let held = rw c.in-Some.is at (c.get_mut.follows.holds (member w e.set)) in
            rw (← c.self.view_is) (key_replaced key g.A.ArenaTrait.state g.A.ChainArenaTrait.interlinks g.B.ArenaTrait.state a b r c.self.invariant p (c.get_mut.follows.lender (member w e.set)) e c.in-Some.ensures.value w held.0)),
        refl,
      ),
      record {
        writes_back = tt;
        some = rw (← c.self.view_is) (λ some. valid-each (member_view key) g.A.ArenaTrait.state a p (c.in-Some.ensures.some.0 refl), λ valid. refl);
        key = rw (← c.self.view_is) (key_seen key g.A.ArenaTrait.state g.B.ArenaTrait.state a b r p.0 ∙ ap (option_map (λ e. (e.0, e.1.key))) c.in-Some.ensures.value);
      },
    )

pub returns-in-None : goal.returns-in-None
returns-in-None g c =
    let key = g.P.PtrKey.key in
    let a = c.self.inside.keys in (
      (refl, (λ w. tt), ap (λ x. seen key g.A.ArenaTrait.state g.B.ArenaTrait.state x c.self.inside.values c.self.inside.redirected) c.get_mut.follows.holds-at-none ∙ c.self.view_is),
      record {
        writes_back = tt;
        some = rw (← c.self.view_is) (λ some. absurd (cc), λ valid. c.in-None.ensures.some.1 (each-valid (member_view key) g.A.ArenaTrait.state a (key c.args.p) valid));
        key = tt;
      },
    )
