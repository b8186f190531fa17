use Rattle.std.proofs.Common.{List, subst, arith}
use Rattle.std.specs.Prelude.{All}
use Rattle.std.specs.declared.vec.Vec.{Vec}
use Rattle.std.specs.declared.alloc.Global.{Global}
use Rattle.std.proofs.lemmas.List.{take_all}
use Rattle.std.proofs.lemmas.List.Elements.{All-more, All-weaker, All-map}
use Rattle.triangulation.specs.declared.points.Point.{Point}
use Rattle.triangulation.specs.Polygons.{HasArea, HasCorner}
use Rattle.triangulation.proofs.ring_checks.check_holes.Goals as goal

abbrev HoleHasArea : Vec Point Global → Type 0
HoleHasArea hole = HasArea hole.items

pub loop-i-preserved : goal.loop-i-preserved
loop-i-preserved c =
    let holes = c.args.holes.now in
    let hole = c.index-holes-i.result in
    let has : HoleHasArea hole = subst HasArea c.deref.ensures.value c.in-Ok.ensures.area in
    All-more HoleHasArea holes c.loop-i.i hole c.loop-i-test.true c.loop-i.invariant (subst HoleHasArea c.index-holes-i.is has)

pub returns-clause-corners : goal.returns-clause-corners
returns-clause-corners c =
    let all = subst (λ (l : List (Vec Point Global)). All HoleHasArea l) (take_all c.loop-i.i c.args.holes.now c.loop-i-test.false) c.loop-i.invariant in
    All-weaker HoleHasArea HasCorner (λ hole has. omega (arith, has.three)) c.args.holes.now all

pub returns-clause-areas : goal.returns-clause-areas
returns-clause-areas c =
    let all = subst (λ (l : List (Vec Point Global)). All HoleHasArea l) (take_all c.loop-i.i c.args.holes.now c.loop-i-test.false) c.loop-i.invariant in
    All-map HasArea (λ hole. hole.items) c.args.holes.now all
