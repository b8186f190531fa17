use Rattle.std.proofs.Common.{◌≡◌, ℤ, to_z, of_z, inl, inr, sym, subst, arith, rules, w32}
use Rattle.std.proofs.lemmas.Int.{to_z-of_z}
use Rattle.std.proofs.lemmas.Result.{err_from_is_err_and}
use Rattle.triangulate.specs.RingTexts.{IsNumberAt}
use Rattle.triangulate.proofs.RingTextLemmas.{points_more, fault_at_x, fault_at_y}
use Rattle.triangulate.proofs.rings.ring.Goals as goal

pub loop-points-preserved : goal.loop-points-preserved
loop-points-preserved c =
    let line = c.args.line.now in
    let at = c.loop-points.at in
    let middle = c.in_ok-x.x.1 in
    let to = c.in_ok-y.y.1 in
    let x = c.in_ok-x.ensures in
    let y = c.in_ok-y.ensures in
    let px : to_z w32 (of_z w32 c.in_ok-x.x.0) ≡ c.in_ok-x.x.0 = to_z-of_z w32 c.in_ok-x.x.0 (search rules) in
    let py : to_z w32 (of_z w32 c.in_ok-y.y.0) ≡ c.in_ok-y.y.0 = to_z-of_z w32 c.in_ok-y.y.0 (search rules) in
    record {
      read = points_more line at middle to c.loop-points.points.items c.push.new.self.items (record { x = to_z w32 (of_z w32 c.in_ok-x.x.0); y = to_z w32 (of_z w32 c.in_ok-y.y.0) }) c.loop-points.invariant.read
          (subst (λ (z : ℤ). IsNumberAt line at middle z) (sym px) x) (subst (λ (z : ℤ). IsNumberAt line middle to z) (sym py) y) c.in_ok-push.ensures.items;
      within = y.place.within;
    }

pub loop-points-smaller : goal.loop-points-smaller
loop-points-smaller c =
    let x = c.in_ok-x.ensures.place in
    let y = c.in_ok-y.ensures.place in
    omega (arith, x.order, x.some, y.order, y.some, y.within)

pub returns : goal.returns
returns c = record { end = c.loop-points.at; numbers = c.loop-points.invariant.read; rest = λ k low high. c.end_of_spaces.ensures.spaces k low (omega (arith, high, c.loop-points-test.false)) }

pub returns-in_err-x : goal.returns-in_err-x
returns-in_err-x c =
    let next = c.end_of_spaces in
    let p = err_from_is_err_and c.from_residual.result c.from_residual.ensures.1 in rw (p.1, p.2) (inr (fault_at_x c.args.line.now c.loop-points.at next.result c.loop-points.points.items _ c.loop-points.invariant.read next.ensures.order c.loop-points-test.true (next.ensures.after c.loop-points-test.true) c.in_err-x.ensures))

pub returns-in_err-y : goal.returns-in_err-y
returns-in_err-y c = let p = err_from_is_err_and c.from_residual-in_err-y.result c.from_residual-in_err-y.ensures.1 in rw (p.1, p.2) (inr (fault_at_y c.args.line.now c.loop-points.at c.in_ok-x.x.1 c.loop-points.points.items c.in_ok-x.x.0 _ c.loop-points.invariant.read c.in_ok-x.ensures c.in_err-y.ensures))
