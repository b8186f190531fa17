use Rattle.std.proofs.Common.{sym, ap, ◌∙◌, subst}
use Rattle.std.proofs.lemmas.Bool.{false≢true}
use Rattle.chain_laws.proofs.InterlinkLemmas.Inverses.{one_some}
use Rattle.triangulation.specs.declared.points.Point.{Point}
use Rattle.triangulation.specs.Triangulations.{IsInTriangle}
use Rattle.triangulation.proofs.corner_index.is_there.Goals as goal

pub returns-in-Some : goal.returns-in-Some
returns-in-Some g c = record {
  some = λ true. record {
    at = g.P.PtrKey.key c.args.corner;
    point = c.in-Some.point.now;
    stored = c.in-Some.ensures.value;
    inside = c.is_in_triangle.ensures.0 true;
  };
  none = λ false point is inside.
      let same = ap (λ (e : g.row.P-Gen.Denot × Point). e.1) (one_some (sym is ∙ c.in-Some.ensures.value)) in
      false≢true (sym false ∙ c.is_in_triangle.ensures.1 (subst (λ (q : Point). IsInTriangle c.args.triangle q) same inside));
}
