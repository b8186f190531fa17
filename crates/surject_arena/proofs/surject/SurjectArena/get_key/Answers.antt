use Rattle.std.proofs.Common.{refl, ap, ◌∙◌}
use Rattle.std.specs.Option.{option_map}
use Rattle.surject_arena.specs.Partitions.{member_view}
use Rattle.surject_arena.proofs.ViewLemmas.{valid-each, each-valid}
use Rattle.surject_arena.proofs.SetReadLemmas.{key_seen}
use Rattle.surject_arena.proofs.surject.SurjectArena.get_key.Goals as goal

pub returns-in-Some : goal.returns-in-Some
returns-in-Some g c =
    let key = g.P.PtrKey.key in
    let a = c.self.inside.keys in
    let p = key c.args.p in
    rw (← c.self.view_is) (record {
      some = (λ some. valid-each (member_view key) g.A.ArenaTrait.state a p (c.in-Some.ensures.some.0 refl), λ valid. refl);
      key = key_seen key g.A.ArenaTrait.state g.B.ArenaTrait.state a c.self.inside.values c.self.inside.redirected p.0 ∙ ap (option_map (λ e. (e.0, e.1.key))) c.in-Some.ensures.value;
    })

pub returns-in-None : goal.returns-in-None
returns-in-None g c =
    let key = g.P.PtrKey.key in
    rw (← c.self.view_is) (record {
      some = (λ some. absurd (cc), λ valid. c.in-None.ensures.some.1 (each-valid (member_view key) g.A.ArenaTrait.state c.self.inside.keys (key c.args.p) valid));
      key = tt;
    })
