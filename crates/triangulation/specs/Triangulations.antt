-- Triangulations.
use Rattle.std.specs.Prelude.{◌≡◌, ◌≢◌, ℕ, ◌≤ℤ◌, ◌++◌, take, drop, ℤ, pos, ◌+ℤ◌, ◌<ℤ◌, ◌+◌, List, [], ◌∷◌, map, length, All, Contains, ◌<◌, ◌≤◌, Result, Ok, Err}
use Rattle.std.specs.declared.vec.Vec.{Vec}
use Rattle.std.specs.declared.alloc.Global.{Global}
use Rattle.polygon_laws.specs.Areas as area
use Rattle.triangulation.specs.declared.points.Point.{Point}
use Rattle.triangulation.specs.declared.points.Triangle.{Triangle}
use Rattle.triangulation.specs.declared.errors.TriangulationError.{TriangulationError}
use Rattle.triangulation.specs.declared.errors.TriangulationError.TheVariants as why

abbrev pub coordinates : Point → area.Point
coordinates p = (p.x, p.y)

-- Twice the signed area of a polygon.
abbrev pub polygon_area : List Point → ℤ
polygon_area corners = area.double_area (map coordinates corners)

-- Twice the signed area of a triangle.
abbrev pub triangle_area : Triangle → ℤ
triangle_area t = area.orientation (coordinates t.a) (coordinates t.b) (coordinates t.c)

abbrev pub total_area : List Triangle → ℤ
total_area [] = pos 0
total_area (t ∷ ts) = triangle_area t +ℤ total_area ts

-- A counterclockwise triangle of corners of the polygon.
pub record IsTriangleOf (corners : List Point) (t : Triangle) : Type 0 where
  pub first : Contains corners t.a
  pub second : Contains corners t.b
  pub third : Contains corners t.c
  pub positive : pos 0 <ℤ triangle_area t

-- In a triangle or on its sides, but no corner.
pub record IsInTriangle (t : Triangle) (p : Point) : Type 0 where
  pub not_first : p ≢ t.a
  pub not_second : p ≢ t.b
  pub not_third : p ≢ t.c
  pub first_side : pos 0 ≤ℤ area.orientation (coordinates t.a) (coordinates t.b) (coordinates p)
  pub second_side : pos 0 ≤ℤ area.orientation (coordinates t.b) (coordinates t.c) (coordinates p)
  pub third_side : pos 0 ≤ℤ area.orientation (coordinates t.c) (coordinates t.a) (coordinates p)

-- A counterclockwise triangle with no other corner in it.
pub record IsEar (t : Triangle) (others : List Point) : Type 0 where
  pub positive : pos 0 <ℤ triangle_area t
  pub empty : (p : Point) → Contains others p → IsInTriangle t p → ⊥

-- The same ring from another corner.
pub data IsTurnOf : List Point → List Point → Type 0 where
  unturned : (corners : List Point) → IsTurnOf corners corners
  turned_on : (a : Point) (others turned : List Point) → IsTurnOf (others ++ a ∷ []) turned → IsTurnOf (a ∷ others) turned

-- Each triangle is an ear of what the earlier ones leave, at last `rest`.
abbrev pub AreEarsOf : List Point → List Triangle → List Point → Type 0
AreEarsOf corners [] rest = IsTurnOf corners rest
AreEarsOf corners (t ∷ ts) rest = (others : List Point) × IsTurnOf corners (t.a ∷ t.b ∷ t.c ∷ others) × IsEar t others × AreEarsOf (t.a ∷ t.c ∷ others) ts rest

-- Ears are clipped until two corners are left.
abbrev pub AreAllEarsOf : List Point → List Triangle → Type 0
AreAllEarsOf corners triangles = (a b : Point) × AreEarsOf corners triangles (a ∷ b ∷ [])

-- Two triangles fewer than corners, all ears, with the polygon's area together.
pub record IsTriangulation (corners : List Point) (triangles : List Triangle) : Type 0 where
  pub number : length triangles + 2 ≡ length corners
  pub each : All (IsTriangleOf corners) triangles
  pub areas : total_area triangles ≡ polygon_area corners
  pub ears : AreAllEarsOf corners triangles

abbrev pub BeginsWithEar : List Point → Type 0
BeginsWithEar [] = ⊥
BeginsWithEar (a ∷ []) = ⊥
BeginsWithEar (a ∷ b ∷ []) = ⊥
BeginsWithEar (a ∷ b ∷ c ∷ others) = IsEar (record { a = a; b = b; c = c }) others

-- No three corners in a row are an ear.
abbrev pub HasNoEar : List Point → Type 0
HasNoEar corners = (n : ℕ) → n < length corners → BeginsWithEar (drop n corners ++ take n corners) → ⊥

-- Ears and the remaining corners are together the polygon.
pub record IsClipping (corners : List Point) (triangles : List Triangle) (remaining : List Point) : Type 0 where
  pub number : length triangles + length remaining ≡ length corners
  pub each : All (IsTriangleOf corners) triangles
  pub areas : total_area triangles +ℤ polygon_area remaining ≡ polygon_area corners
  pub among : (p : Point) → Contains remaining p → Contains corners p
  pub ears : AreEarsOf corners triangles remaining

-- Three corners or more remain, without an ear.
pub record IsStuck (corners : List Point) : Type 0 where
  pub triangles : List Triangle
  pub remaining : List Point
  pub clipping : IsClipping corners triangles remaining
  pub three : 3 ≤ length remaining
  pub none : HasNoEar remaining

-- `triangulate_points`: the triangles, or why not.
abbrev pub TriangulatesPoints : List Point → Result (Vec Triangle Global) TriangulationError → Type 0
TriangulatesPoints corners (Ok triangles) = (3 ≤ length corners) × IsTriangulation corners triangles.items
TriangulatesPoints corners (Err why.InvalidPointer) = ⊥
TriangulatesPoints corners (Err why.TooFewCorners) = length corners < 3
TriangulatesPoints corners (Err why.NoEar) = IsStuck corners
TriangulatesPoints corners (Err why.AllocError) = 3 ≤ length corners
