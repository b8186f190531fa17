use Rattle.std.proofs.Common.{List, map, sym, subst, arith}
use Rattle.triangulation.specs.declared.points.Point.{Point}
use Rattle.triangulation.specs.Clippings.{IsRingOf}
use Rattle.triangulation.specs.CornerIndexes.{AreListed}
use Rattle.triangulation.proofs.CornerIndexLemmas.{first_and_rest}
use Rattle.triangulation.proofs.OutlineLemmas.{points_triangulated}
use Rattle.triangulation.proofs.RingPathLemmas.{origin}
use Rattle.triangulation.proofs.triangulation.triangulate_points.Goals as goal

pub clip_ears-requires : goal.clip_ears-requires
clip_ears-requires g c =
    let entry = g.A.ArenaTrait.entry c.insert_ring.new.ring in
    let key = g.P.PtrKey.key in
    let index = c.in_ok-index-in-Ok.ensures in
    record {
      listed = subst (λ ps. AreListed entry (map key ps.items) c.args.corners.now) (sym index.0)
          (subst (λ (l : List Point). AreListed entry (map key c.insert_ring.new.pointers.items) l) (first_and_rest c.args.corners.now origin (omega (arith, c.if-corners-lt3.false))) c.in-Ok.ensures.listed);
      blocks_of = index.1;
      groups_of = index.2;
    }

pub returns-in-Ok : goal.returns-in-Ok
returns-in-Ok g c = points_triangulated g.A.ArenaTrait.state g.A.ChainArenaTrait.interlinks c.insert_ring.new.ring (g.P.PtrKey.key c.in-Ok.start) c.args.corners.now c.clip_ears.result (omega (arith, c.if-corners-lt3.false))
    (subst (λ (l : List Point). IsRingOf g.A.ArenaTrait.state g.A.ChainArenaTrait.interlinks c.insert_ring.new.ring (g.P.PtrKey.key c.in-Ok.start) l) (first_and_rest c.args.corners.now origin (omega (arith, c.if-corners-lt3.false))) c.in-Ok.ensures.ring)
    c.clip_ears.ensures
