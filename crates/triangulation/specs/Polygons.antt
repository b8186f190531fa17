-- Polygons with holes.
use Rattle.std.specs.Prelude.{◌≡◌, ◌≢◌, ℕ, ℤ, pos, neg_ℤ, ◌+ℤ◌, ◌-ℤ◌, ◌+◌, ◌*◌, ◌<◌, ◌≤◌, ◌≤ℤ◌, ◌<ℤ◌, ◌⊎◌, List, [], ◌∷◌, ◌++◌, map, length, slice_index_or, All, AllPairs, Contains, HoldsAt, unsigned_abs, Result, Ok, Err}
use Rattle.std.specs.declared.vec.Vec.{Vec}
use Rattle.std.specs.declared.alloc.Global.{Global}
use Rattle.polygon_laws.specs.Areas as area
use Rattle.triangulation.specs.declared.points.Point.{Point}
use Rattle.triangulation.specs.declared.points.Triangle.{Triangle}
use Rattle.triangulation.specs.declared.joining.Turn.{Turn}
use Rattle.triangulation.specs.declared.joining.Turn.TheVariants as turn
use Rattle.triangulation.specs.declared.errors.Ring.{Ring}
use Rattle.triangulation.specs.declared.errors.Ring.TheVariants as which
use Rattle.triangulation.specs.declared.errors.PolygonError.{PolygonError}
use Rattle.triangulation.specs.declared.errors.PolygonError.TheVariants as why
use Rattle.triangulation.specs.Triangulations.{coordinates, polygon_area, total_area, IsTriangleOf, AreAllEarsOf, IsStuck}

abbrev pub rings_of : List (Vec Point Global) → List (List Point)
rings_of rings = map (λ ring. ring.items) rings

abbrev pub corners_of : List (List Point) → List Point
corners_of [] = []
corners_of (ring ∷ rings) = ring ++ corners_of rings

-- Twice the area of a ring, whichever way it turns.
abbrev pub ring_area : List Point → ℕ
ring_area ring = unsigned_abs (polygon_area ring)

abbrev pub rings_area : List (List Point) → ℕ
rings_area [] = 0
rings_area (ring ∷ rings) = ring_area ring + rings_area rings

-- Twice the area of an outline without its holes.
abbrev pub area_without_holes : List Point → List (List Point) → ℤ
area_without_holes outline holes = pos (ring_area outline) -ℤ pos (rings_area holes)

-- One ring along outline, holes, and both sides of bridges.
pub record IsJoinedRing (outline : List Point) (holes : List (List Point)) (joined : List Point) : Type 0 where
  pub number : length joined ≡ length (corners_of (outline ∷ holes)) + 2 * length holes
  pub area : polygon_area joined ≡ area_without_holes outline holes
  pub among : (p : Point) → Contains joined p → Contains (corners_of (outline ∷ holes)) p

-- For n corners and h holes, n + 2h - 2 ears of a joined ring.
pub record IsPolygonTriangulation (outline : List Point) (holes : List (List Point)) (triangles : List Triangle) : Type 0 where
  pub number : length triangles + 2 ≡ length (corners_of (outline ∷ holes)) + 2 * length holes
  pub each : All (IsTriangleOf (corners_of (outline ∷ holes))) triangles
  pub areas : total_area triangles ≡ area_without_holes outline holes
  pub ears : (joined : List Point) × IsJoinedRing outline holes joined × AreAllEarsOf joined triangles

abbrev pub signed_areas : List (List Point) → ℤ
signed_areas [] = pos 0
signed_areas (ring ∷ rings) = polygon_area ring +ℤ signed_areas rings

abbrev pub HasCorner : Vec Point Global → Type 0
HasCorner ring = 0 < length ring.items

abbrev pub turned_area : Turn → List Point → ℤ
turned_area turn.Counterclockwise ring = pos (ring_area ring)
turned_area turn.Clockwise ring = neg_ℤ (pos (ring_area ring))

-- A ring of this area has the direction, or no area.
abbrev pub TurnsTo : Turn → ℤ → Type 0
TurnsTo turn.Counterclockwise z = pos 0 ≤ℤ z
TurnsTo turn.Clockwise z = z ≤ℤ pos 0

-- The same corners in this direction.
pub record IsTurnedTo (direction : Turn) (ring turned : List Point) : Type 0 where
  pub number : length turned ≡ length ring
  pub area : polygon_area turned ≡ turned_area direction ring
  pub among : (p : Point) → Contains turned p → Contains ring p

-- The rings, each clockwise, in any order.
pub record AreClockwise (rings turned : List (List Point)) : Type 0 where
  pub number : length turned ≡ length rings
  pub corners : length (corners_of turned) ≡ length (corners_of rings)
  pub area : signed_areas turned ≡ neg_ℤ (pos (rings_area rings))
  pub among : (p : Point) → Contains (corners_of turned) p → Contains (corners_of rings) p

-- Both rings, joined by a bridge.
pub record IsBridged (outline hole joined : List Point) : Type 0 where
  pub number : length joined ≡ length outline + length hole + 2
  pub area : polygon_area joined ≡ polygon_area outline +ℤ polygon_area hole
  pub among : (p : Point) → Contains joined p → Contains (outline ++ hole) p

-- An outline and bridged holes, joined.
pub record AreJoined (outline : List Point) (holes : List (List Point)) (joined : List Point) : Type 0 where
  pub number : length joined ≡ length (corners_of (outline ∷ holes)) + 2 * length holes
  pub area : polygon_area joined ≡ polygon_area outline +ℤ signed_areas holes
  pub among : (p : Point) → Contains joined p → Contains (corners_of (outline ∷ holes)) p

abbrev pub HoldsOf : (List Point → Type 0) → List Point → List (List Point) → Ring → Type 0
HoldsOf P outline holes which.Outline = P outline
HoldsOf P outline holes (which.Hole i) = HoldsAt P holes i

-- The ray from p to the right crosses the edge from a to b.
abbrev pub CrossesRay : Point → Point → Point → Type 0
CrossesRay p a b = ((a.y ≤ℤ p.y) × (p.y <ℤ b.y) × (pos 0 <ℤ area.orientation (coordinates a) (coordinates b) (coordinates p)))
    ⊎ ((b.y ≤ℤ p.y) × (p.y <ℤ a.y) × (pos 0 <ℤ area.orientation (coordinates b) (coordinates a) (coordinates p)))

abbrev pub IsCrossing : Point → Point → Point → ℕ → Type 0
IsCrossing p a b n = (CrossesRay p a b × (n ≡ 1)) ⊎ ((CrossesRay p a b → ⊥) × (n ≡ 0))

-- The ray from p crosses so many edges of a path.
abbrev pub HasCrossings : Point → List Point → ℕ → Type 0
HasCrossings p [] n = n ≡ 0
HasCrossings p (a ∷ []) n = n ≡ 0
HasCrossings p (a ∷ b ∷ path) n = (k m : ℕ) × IsCrossing p a b k × HasCrossings p (b ∷ path) m × (n ≡ k + m)

-- The path around a ring, from its last corner on.
pub record IsAround (ring path : List Point) : Type 0 where
  pub front : List Point
  pub last : Point
  pub corners : ring ≡ front ++ last ∷ []
  pub whole : path ≡ last ∷ ring

-- The ray from p crosses an even number of edges.
pub record IsOutside (p : Point) (ring : List Point) : Type 0 where
  pub path : List Point
  pub around : IsAround ring path
  pub half : ℕ
  pub crossings : HasCrossings p path (2 * half)

-- The ray from p crosses an odd number of edges.
pub record IsInside (p : Point) (ring : List Point) : Type 0 where
  pub path : List Point
  pub around : IsAround ring path
  pub half : ℕ
  pub crossings : HasCrossings p path (2 * half + 1)

-- The numbers are not both positive and not both negative.
abbrev pub AreAround : ℤ → ℤ → Type 0
AreAround a b = ((pos 0 <ℤ a) × (pos 0 <ℤ b) → ⊥) × ((a <ℤ pos 0) × (b <ℤ pos 0) → ⊥)

-- c and d are not both on one side of the line through a and b.
abbrev pub IsAcross : Point → Point → Point → Point → Type 0
IsAcross a b c d = AreAround (area.orientation (coordinates a) (coordinates b) (coordinates c)) (area.orientation (coordinates a) (coordinates b) (coordinates d))

abbrev pub IsRangeBelow : ℤ → ℤ → ℤ → ℤ → Type 0
IsRangeBelow a b c d = (a <ℤ c) × (a <ℤ d) × (b <ℤ c) × (b <ℤ d)

-- The ranges have a common number.
abbrev pub RangesMeet : ℤ → ℤ → ℤ → ℤ → Type 0
RangesMeet a b c d = (IsRangeBelow a b c d → ⊥) × (IsRangeBelow c d a b → ⊥)

-- The segments have a common point.
pub record SegmentsMeet (a b c d : Point) : Type 0 where
  pub first : IsAcross a b c d
  pub second : IsAcross c d a b
  pub horizontal : RangesMeet a.x b.x c.x d.x
  pub vertical : RangesMeet a.y b.y c.y d.y

pub record IsEdgeOf (a b : Point) (ring : List Point) : Type 0 where
  pub path : List Point
  pub around : IsAround ring path
  pub before : List Point
  pub after : List Point
  pub edge : path ≡ before ++ a ∷ b ∷ after

-- The edge meets one of the ring.
pub record MeetsEdge (a b : Point) (ring : List Point) : Type 0 where
  pub c : Point
  pub d : Point
  pub edge : IsEdgeOf c d ring
  pub meet : SegmentsMeet a b c d

-- Edges of the rings have a common point.
pub record RingsMeet (one other : List Point) : Type 0 where
  pub a : Point
  pub b : Point
  pub edge : IsEdgeOf a b one
  pub meets : MeetsEdge a b other

abbrev pub HasCornerThat : (Point → Type 0) → List Point → Type 0
HasCornerThat P ring = (p : Point) × Contains ring p × P p

-- Three corners or more, and an area.
pub record HasArea (corners : List Point) : Type 0 where
  pub three : 3 ≤ length corners
  pub area : polygon_area corners ≢ pos 0

-- No common point, and a corner of the hole is inside.
pub record IsHoleIn (outline hole : List Point) : Type 0 where
  pub apart : ¬ RingsMeet outline hole
  pub inside : HasCornerThat (λ p. IsInside p outline) hole

-- No common point, and a corner of each is outside the other.
pub record AreDisjoint (one other : List Point) : Type 0 where
  pub apart : ¬ RingsMeet one other
  pub first : HasCornerThat (λ p. IsOutside p other) one
  pub second : HasCornerThat (λ p. IsOutside p one) other

-- Rings with areas, holes inside the outline and disjoint; sides of one ring may cross.
pub record IsPolygonWithHoles (outline : List Point) (holes : List (List Point)) : Type 0 where
  pub rings : All HasArea (outline ∷ holes)
  pub inside : All (IsHoleIn outline) holes
  pub apart : AllPairs AreDisjoint holes

abbrev pub IsDisjointFromEarlier : List (List Point) → ℕ → Type 0
IsDisjointFromEarlier holes i = (j : ℕ) → j < i → (d : List Point) → AreDisjoint (slice_index_or holes j d) (slice_index_or holes i d)

abbrev pub IsRingFault : List Point → Ring → PolygonError → Type 0
IsRingFault corners ring error = ((error ≡ why.TooFewCorners ring) × (length corners < 3)) ⊎ ((error ≡ why.NoArea ring) × (polygon_area corners ≡ pos 0))

abbrev pub IsAnotherRing : ℕ → Ring → Type 0
IsAnotherRing i which.Outline = Unit {0}
IsAnotherRing i (which.Hole j) = i ≢ j

-- A witness for each refusal.
abbrev pub IsReason : List Point → List (List Point) → PolygonError → Type 0
IsReason outline holes (why.TooFewCorners ring) = HoldsOf (λ corners. length corners < 3) outline holes ring
IsReason outline holes (why.NoArea ring) = HoldsOf (λ corners. polygon_area corners ≡ pos 0) outline holes ring
IsReason outline holes (why.Meets i ring) = IsAnotherRing i ring × HoldsOf (λ corners. HoldsAt (RingsMeet corners) holes i) outline holes ring
IsReason outline holes (why.Outside i) = HoldsAt (HasCornerThat (λ p. IsOutside p outline)) holes i
IsReason outline holes (why.InHole i j) = (i ≢ j) × HoldsAt (λ ring. HoldsAt (HasCornerThat (λ p. IsInside p ring)) holes i) holes j
IsReason outline holes why.NoEar = (joined : List Point) × IsJoinedRing outline holes joined × IsStuck joined
IsReason outline holes why.AllocError = Unit {0}

-- `triangulate_polygon`: the triangles, or why not.
abbrev pub TriangulatesPolygon : List Point → List (List Point) → Result (Vec Triangle Global) PolygonError → Type 0
TriangulatesPolygon outline holes (Ok triangles) = IsPolygonWithHoles outline holes × IsPolygonTriangulation outline holes triangles.items
TriangulatesPolygon outline holes (Err error) = IsReason outline holes error
