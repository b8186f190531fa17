use Rattle.std.proofs.Common.{◌++◌, take, drop, refl, sym, subst, arith}
use Rattle.triangulation.specs.Triangulations.{BeginsWithEar}
use Rattle.triangulation.specs.Clippings.{points, HasEar, FindsNoEar}
use Rattle.triangulation.proofs.RingClippingLemmas.{turn_starts, turn_goes_on, ear_seen}
use Rattle.triangulation.proofs.EarSearchLemmas.{reach_starts, reach_next, next_there, none_there, none_of_points, below_more, if_none}
use Rattle.triangulation.proofs.clipping.find_ear.Goals as goal

pub loop-init : goal.loop-init
loop-init g c = λ items from. record {
  turned = turn_starts g.A.ArenaTrait.state g.A.ChainArenaTrait.interlinks c.args.ring.now items (g.P.PtrKey.key c.args.start) from;
  reached = λ less. reach_starts g.A.ArenaTrait.state g.A.ChainArenaTrait.interlinks c.args.ring.now (g.P.PtrKey.key c.args.start) items from;
  none = λ number n less. absurd (omega (arith, less));
}

pub loop-preserved : goal.loop-preserved
loop-preserved g c = λ items from.
    let state = g.A.ArenaTrait.state in
    let links = g.A.ChainArenaTrait.interlinks in
    let arena = c.args.ring.now in
    let key = g.P.PtrKey.key in
    let start = key c.args.start in
    let before = key c.loop.before in
    let now = c.loop.invariant items from in
    record {
      turned = turn_goes_on state links key arena items c.loop.before c.in_ok-before.before c.next.result c.next.ensures c.in_ok-before.was now.turned;
      reached = λ less. reach_next state links arena start items from before c.loop.counter (now.reached (omega (arith, less))) key c.loop.before refl c.next.result c.next.ensures c.in_ok-before.before c.in_ok-before.was less;
      none = λ number. below_more (λ n. BeginsWithEar (points (drop n items ++ take n items)) → ⊥) c.loop.counter (now.none number)
          (none_there state links arena start items from before c.loop.counter (now.reached (omega (arith, number.number, c.loop-test.true))) (omega (arith, number.alone, number.number)) c.in-None.ensures.none);
    }

pub returns-in-Some-clause-ear : goal.returns-in-Some-clause-ear
returns-in-Some-clause-ear g c = λ items from long.
    let state = g.A.ArenaTrait.state in
    let links = g.A.ChainArenaTrait.interlinks in
    let arena = c.args.ring.now in
    let key = g.P.PtrKey.key in
    let ear = c.in-Some.ear in
    subst (λ p. HasEar state links arena items (key p) (key ear.corner) (key ear.after) ear.triangle) (sym c.in-Some.ensures.before)
    (ear_seen state links arena items (key c.loop.before) (key ear.corner) (key ear.after) ear.triangle (c.loop.invariant items from).turned long c.in-Some.ensures.ear)

pub returns-clause-none : goal.returns-clause-none
returns-clause-none g c = λ items from number. none_of_points items (λ n less. (c.loop.invariant items from).none number n (omega (arith, less, number.number, c.loop-test.false)))

pub returns-in_err-before-clause-none : goal.returns-in_err-before-clause-none
returns-in_err-before-clause-none g c =
    let state = g.A.ArenaTrait.state in
    let links = g.A.ChainArenaTrait.interlinks in
    let arena = c.args.ring.now in
    let key = g.P.PtrKey.key in
    if_none (FindsNoEar state links arena (key c.args.start) c.args.left) c.from_residual.result (λ items from number.
    let now = c.loop.invariant items from in
    absurd (next_there state links arena (key c.args.start) items from (key c.loop.before) c.loop.counter (now.reached (omega (arith, number.number, c.loop-test.true))) key c.loop.before refl c.next.result c.next.ensures c.in_err-before.was))
