use Rattle.std.proofs.Common.{List, get_or, sym, subst, arith, below_more}
use Rattle.std.specs.Prelude.{All}
use Rattle.std.specs.declared.vec.Vec.{Vec}
use Rattle.std.specs.declared.alloc.Global.{Global}
use Rattle.std.proofs.lemmas.Bool.{both_ways}
use Rattle.std.proofs.lemmas.List.{take_all, length-map}
use Rattle.std.proofs.lemmas.List.Elements.{All-get_or, All-more, All-map}
use Rattle.triangulation.specs.declared.points.Point.{Point}
use Rattle.triangulation.specs.Polygons.{rings_of, HasCorner, HasCornerThat, IsInside, IsOutside, IsHoleIn, IsDisjointFromEarlier}
use Rattle.triangulation.proofs.RingPathLemmas.{origin}
use Rattle.triangulation.proofs.RingCheckLemmas.{holds_at, first_that}
use Rattle.triangulation.proofs.ring_checks.check_places.Goals as goal

pub returns-then-not-is_inside-clause-reason : goal.returns-then-not-is_inside-clause-reason
returns-then-not-is_inside-clause-reason c =
    let outline = c.args.outline.now in
    let holes = c.args.holes.now in
    let hole = c.index-holes-i.result in
    let some : HasCorner hole = subst HasCorner (sym c.index-holes-i.is) (All-get_or HasCorner holes c.loop-i.i hole c.loop-i-test.true c.requires.holes) in
    let outside : IsOutside (get_or hole.items 0 origin) outline = subst (λ (l : List Point). IsOutside (get_or l 0 origin) outline) c.deref-hole.ensures.value (c.is_inside.ensures.outside.0 c.if-not-is_inside.true) in
    holds_at (HasCornerThat (λ p. IsOutside p outline)) holes c.loop-i.i hole c.loop-i-test.true c.index-holes-i.is (first_that (λ p. IsOutside p outline) hole.items some outside)

pub returns-in-Err-clause-reason : goal.returns-in-Err-clause-reason
returns-in-Err-clause-reason c = c.in-Err.ensures.reason c.args.outline.now

pub loop-i-preserved : goal.loop-i-preserved
loop-i-preserved c =
    let outline = c.args.outline.now in
    let holes = c.args.holes.now in
    let hole = c.index-holes-i.result in
    let ring = c.deref-hole.result.now in
    let some : HasCorner hole = subst HasCorner (sym c.index-holes-i.is) (All-get_or HasCorner holes c.loop-i.i hole c.loop-i-test.true c.requires.holes) in
    let is : IsHoleIn outline ring = record {
      apart = λ meet. both_ways c.rings_meet.result c.if-rings_meet.false (c.rings_meet.ensures.found c.of_ring.ensures meet);
      inside = first_that (λ p. IsInside p outline) ring (omega (arith, some, c.deref-hole.ensures.len)) (c.is_inside.ensures.inside.0 c.if-not-is_inside.false);
    } in
    let items : IsHoleIn outline hole.items = subst (IsHoleIn outline) c.deref-hole.ensures.value is in
    record {
      inside = All-more (λ (r : Vec Point Global). IsHoleIn outline r.items) holes c.loop-i.i hole c.loop-i-test.true c.loop-i.invariant.inside (subst (λ (r : Vec Point Global). IsHoleIn outline r.items) c.index-holes-i.is items);
      apart = below_more (IsDisjointFromEarlier (rings_of holes)) c.loop-i.i c.loop-i.invariant.apart c.in-Ok.ensures.apart;
    }

pub returns-clause-inside : goal.returns-clause-inside
returns-clause-inside c =
    let inside = λ (r : Vec Point Global). IsHoleIn c.args.outline.now r.items in
    All-map (IsHoleIn c.args.outline.now) (λ r. r.items) c.args.holes.now
    (subst (λ (l : List (Vec Point Global)). All inside l) (take_all c.loop-i.i c.args.holes.now c.loop-i-test.false) c.loop-i.invariant.inside)

pub returns-clause-apart : goal.returns-clause-apart
returns-clause-apart c = λ j k d less within. c.loop-i.invariant.apart k (omega (arith, c.loop-i-test.false, within, simp length-map at within)) j less d
