use Rattle.std.proofs.Common.{◌<◌, List, length, get_or, sym, subst, arith, below_more}
use Rattle.std.specs.Prelude.{HoldsAt}
use Rattle.std.proofs.lemmas.Bool.{both_ways}
use Rattle.std.proofs.lemmas.List.Elements.{All-get_or}
use Rattle.triangulation.specs.declared.points.Point.{Point}
use Rattle.triangulation.specs.Polygons.{rings_of, HasCorner, HasCornerThat, IsInside, AreDisjoint}
use Rattle.triangulation.proofs.RingPathLemmas.{origin}
use Rattle.triangulation.proofs.RingCheckLemmas.{holds_at, first_that, disjoint, disjoint_at}
use Rattle.triangulation.proofs.ring_checks.check_pairs.Goals as goal

pub returns-then-is_inside-clause-reason : goal.returns-then-is_inside-clause-reason
returns-then-is_inside-clause-reason c =
    let holes = c.args.holes.now in
    let hole = c.index-holes-i.result in
    let other = c.index-holes-j.result in
    let less : c.loop-j.j < length holes = omega (arith, c.loop-j-test.true, c.requires.index) in
    let some : HasCorner hole = subst HasCorner (sym c.index-holes-i.is) (All-get_or HasCorner holes c.args.i hole c.requires.index c.requires.corners) in
    let inside : IsInside (get_or hole.items 0 origin) other.items = subst (λ (l : List Point). IsInside (get_or hole.items 0 origin) l) c.deref-other.ensures.value (subst (λ (l : List Point). IsInside (get_or l 0 origin) c.deref-other.result.now) c.deref-hole.ensures.value (c.is_inside.ensures.inside.0 c.if-is_inside.true)) in
    λ outline. (
      omega arith,
      holds_at (λ ring. HoldsAt (HasCornerThat (λ p. IsInside p ring)) (rings_of holes) c.args.i) holes c.loop-j.j other less c.index-holes-j.is
          (holds_at (HasCornerThat (λ p. IsInside p other.items)) holes c.args.i hole c.requires.index c.index-holes-i.is (first_that (λ p. IsInside p other.items) hole.items some inside)),
    )

pub returns-then-is_inside-2-clause-reason : goal.returns-then-is_inside-2-clause-reason
returns-then-is_inside-2-clause-reason c =
    let holes = c.args.holes.now in
    let hole = c.index-holes-i.result in
    let other = c.index-holes-j.result in
    let less : c.loop-j.j < length holes = omega (arith, c.loop-j-test.true, c.requires.index) in
    let some : HasCorner other = subst HasCorner (sym c.index-holes-j.is) (All-get_or HasCorner holes c.loop-j.j other less c.requires.corners) in
    let inside : IsInside (get_or other.items 0 origin) hole.items = subst (λ (l : List Point). IsInside (get_or other.items 0 origin) l) c.deref-hole.ensures.value (subst (λ (l : List Point). IsInside (get_or l 0 origin) c.deref-hole.result.now) c.deref-other.ensures.value (c.is_inside-in-loop-j.ensures.inside.0 c.if-is_inside-2.true)) in
    λ outline. (
      omega arith,
      holds_at (λ ring. HoldsAt (HasCornerThat (λ p. IsInside p ring)) (rings_of holes) c.loop-j.j) holes c.args.i hole c.requires.index c.index-holes-i.is
          (holds_at (HasCornerThat (λ p. IsInside p hole.items)) holes c.loop-j.j other less c.index-holes-j.is (first_that (λ p. IsInside p hole.items) other.items some inside)),
    )

pub loop-j-preserved : goal.loop-j-preserved
loop-j-preserved c =
    let holes = c.args.holes.now in
    let hole = c.index-holes-i.result in
    let other = c.index-holes-j.result in
    let one = c.deref-other.result.now in
    let two = c.deref-hole.result.now in
    let less : c.loop-j.j < length holes = omega (arith, c.loop-j-test.true, c.requires.index) in
    let some : HasCorner hole = subst HasCorner (sym c.index-holes-i.is) (All-get_or HasCorner holes c.args.i hole c.requires.index c.requires.corners) in
    let some_other : HasCorner other = subst HasCorner (sym c.index-holes-j.is) (All-get_or HasCorner holes c.loop-j.j other less c.requires.corners) in
    let are : AreDisjoint one two = disjoint one two (omega (arith, some_other, c.deref-other.ensures.len)) (omega (arith, some, c.deref-hole.ensures.len))
    (λ meet. both_ways c.rings_meet.result c.if-rings_meet.false (c.rings_meet.ensures.found c.of_ring-around.ensures meet))
    (c.is_inside-in-loop-j.ensures.outside.0 c.if-is_inside-2.false) (c.is_inside.ensures.outside.0 c.if-is_inside.false) in
    let items : AreDisjoint other.items hole.items = subst (λ (l : List Point). AreDisjoint l hole.items) c.deref-other.ensures.value (subst (λ (l : List Point). AreDisjoint one l) c.deref-hole.ensures.value are) in
    below_more (λ k. (d : List Point) → AreDisjoint (get_or (rings_of holes) k d) (get_or (rings_of holes) c.args.i d)) c.loop-j.j c.loop-j.invariant
    (disjoint_at holes c.loop-j.j c.args.i other hole less c.requires.index c.index-holes-j.is c.index-holes-i.is items)
