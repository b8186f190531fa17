use Rattle.std.proofs.Common.{refl, sym, ◌∙◌}
use Rattle.std.proofs.lemmas.Bool.{false≢true}
use Rattle.polygons.proofs.polygons.Polygons.points.Goals as goal

pub returns-clause-some : goal.returns-clause-some
returns-clause-some g c = rw (← c.self.view_is) (
  λ _. (
    c.in_ok-a.ensures.some.0 refl,
    c.in_ok-b.ensures.some.0 refl,
    λ equal. false≢true (sym c.if-is_same.false ∙ (c.is_same.ensures ∙ (g.met.P.PtrKey.same_is_equal c.args.u c.args.v).1 (g.met.P.PtrKey.same_key c.args.u c.args.v equal))),
  ),
  λ _. refl,
)

pub returns-clause-points : goal.returns-clause-points
returns-clause-points g c = rw (← c.self.view_is) (c.in_ok-a.ensures.value, c.in_ok-b.ensures.value)
