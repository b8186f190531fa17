use Rattle.std.proofs.Common.{List, subst, rules}
use Rattle.std.proofs.lemmas.List.Elements.{All-cons}
use Rattle.triangulation.specs.declared.points.Point.{Point}
use Rattle.triangulation.specs.Triangulations.{IsTriangulation}
use Rattle.triangulation.specs.Polygons.{rings_of, HasArea, IsPolygonWithHoles}
use Rattle.triangulation.proofs.JoiningLemmas.{polygon_triangulated}
use Rattle.triangulation.proofs.with_holes.triangulate_polygon.Goals as goal

pub returns-in_err-check_outline : goal.returns-in_err-check_outline
returns-in_err-check_outline g c = let reason = c.in_err-check_outline.ensures.reason (rings_of c.args.holes.now) in search rules

pub returns-in-Ok-triangulate_points : goal.returns-in-Ok-triangulate_points
returns-in-Ok-triangulate_points g c =
    let outline = c.args.outline.now in
    let holes = rings_of c.args.holes.now in
    let triangles = c.in-Ok-triangulate_points.triangles.items in
    let polygon : IsPolygonWithHoles outline holes = record {
      rings = All-cons HasArea outline holes c.in_ok-check_outline.ensures.area c.in_ok-check_holes.ensures.areas;
      inside = c.in_ok-check_places.ensures.inside;
      apart = c.in_ok-check_places.ensures.apart;
    } in (
      polygon,
      polygon_triangulated outline holes c.in-Ok.ring.items triangles c.in-Ok.ensures
          (subst (λ (l : List Point). IsTriangulation l triangles) c.deref.ensures.value (c.in-Ok-triangulate_points.ensures.1)),
    )
