-- Polygons in lines.
use Rattle.std.specs.Prelude.{◌≡◌, ℕ, ◌<◌, ◌⊎◌, List, [], ◌∷◌, length, take, Result, Ok, Err}
use Rattle.std.specs.List.{HoldsAt}
use Rattle.std.specs.declared.vec.Vec.{Vec}
use Rattle.std.specs.declared.alloc.Global.{Global}
use Rattle.triangulation.specs.declared.points.Point.{Point}
use Rattle.triangulation.specs.declared.points.Triangle.{Triangle}
use Rattle.triangulation.specs.declared.errors.PolygonError.{PolygonError}
use Rattle.triangulation.specs.declared.errors.PolygonError.TheVariants as polygon
use Rattle.triangulation.specs.Polygons.{rings_of, IsPolygonWithHoles, IsPolygonTriangulation, IsReason}
use Rattle.triangulate.specs.declared.numbers.LineError.{LineError}
use Rattle.triangulate.specs.declared.rings.Refusal.{Refusal}
use Rattle.triangulate.specs.declared.rings.Refusal.TheVariants as refusal
use Rattle.triangulate.specs.RingTexts.{AreRingTexts, ParsesRing}

-- Line `i` is the first that is not parsed.
pub record IsFirstUnparsed (lines : List (List ℕ)) (i : ℕ) (error : LineError) : Type 0 where
  pub within : i < length lines
  pub rings : List (List Point)
  pub before : AreRingTexts (take i lines) rings
  pub line : HoldsAt (λ line. ParsesRing line (Err error)) lines i

-- The polygon is refused, for this error.
pub record IsPolygonRefused (lines : List (List ℕ)) (error : PolygonError) : Type 0 where
  pub outline : List Point
  pub holes : List (List Point)
  pub rings : AreRingTexts lines (outline ∷ holes)
  pub reason : IsReason outline holes error

-- A line is no ring, or memory or the polygon is refused.
abbrev pub AreRefused : List (List ℕ) → Refusal → Type 0
AreRefused lines (refusal.Line i error) = IsFirstUnparsed lines i error
AreRefused lines (refusal.Polygon error) = (error ≡ polygon.AllocError) ⊎ IsPolygonRefused lines error

-- `rings`: the rings of the lines, or why not.
abbrev pub ParsesRings : List (List ℕ) → Result (Vec (Vec Point Global) Global) Refusal → Type 0
ParsesRings lines (Ok rings) = AreRingTexts lines (rings_of rings.items)
ParsesRings lines (Err why) = AreRefused lines why

-- Triangles of the polygon of the lines.
pub record IsTriangulated (lines : List (List ℕ)) (triangles : List Triangle) : Type 0 where
  pub outline : List Point
  pub holes : List (List Point)
  pub rings : AreRingTexts lines (outline ∷ holes)
  pub polygon : IsPolygonWithHoles outline holes
  pub triangulation : IsPolygonTriangulation outline holes triangles

-- `triangulate_lines`: the triangles, or why not.
abbrev pub TriangulatesLines : List (List ℕ) → Result (Vec Triangle Global) Refusal → Type 0
TriangulatesLines lines (Ok triangles) = IsTriangulated lines triangles.items
TriangulatesLines lines (Err why) = AreRefused lines why
