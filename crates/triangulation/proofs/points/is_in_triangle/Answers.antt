use Rattle.std.proofs.Common.{◌≡◌, ◌&&◌, true, int_eq, sym, ◌∙◌, rules}
use Rattle.std.proofs.lemmas.Bool.{false≢true}
use Rattle.triangulation.specs.declared.points.Point.{Point}
use Rattle.triangulation.proofs.points.is_in_triangle.Goals.{then-eq-via-then-eq, then-eq-via-else-eq+then-eq-2, then-eq-via-else-eq+else-eq-2+then-eq-3}
use Rattle.triangulation.proofs.points.is_in_triangle.Goals as goal

same_point : (p q : Point) → (int_eq p.x q.x && int_eq p.y q.y) ≡ true → p ≡ q
same_point p q is = search rules

pub returns-then-eq : goal.returns-then-eq
returns-then-eq c = (
  λ lie. absurd (false≢true lie),
  λ inside. elim c.then-eq.branch [
    | then-eq-via-then-eq w ↦ absurd (inside.not_first (same_point c.args.p c.args.t.a (sym c.eq.ensures ∙ w.if-eq.true)))
    | then-eq-via-else-eq+then-eq-2 w ↦ absurd (inside.not_second (same_point c.args.p c.args.t.b (sym w.eq-else-eq.ensures ∙ w.if-eq-2.true)))
    | then-eq-via-else-eq+else-eq-2+then-eq-3 w ↦ absurd (inside.not_third (same_point c.args.p c.args.t.c (sym w.eq-else-eq-2.ensures ∙ w.if-eq-3.true)))
  ],
)
