-- Rings while ears are clipped.
use Rattle.std.specs.Prelude.{◌≡◌, ℕ, ◌≤◌, ◌<◌, List, [], ◌∷◌, ◌++◌, map, length, Contains, Option, Some, Result, Ok, Err}
use Rattle.std.specs.declared.vec.Vec.{Vec}
use Rattle.std.specs.declared.alloc.Global.{Global}
use Rattle.chain_laws.specs.Chains.{LinkMap}
use Rattle.arena_traits.specs.Arena.{IsValid}
use Rattle.arena_traits.specs.Entries.{ArenaView, ArenaState, count, first_key}
use Rattle.chain_lists.specs.Lists.{Item, IsRing}
use Rattle.triangulation.specs.declared.points.Point.{Point}
use Rattle.triangulation.specs.declared.points.Triangle.{Triangle}
use Rattle.triangulation.specs.declared.errors.TriangulationError.{TriangulationError}
use Rattle.triangulation.specs.declared.errors.TriangulationError.TheVariants as why
use Rattle.triangulation.specs.Triangulations.{polygon_area, IsTriangulation, IsInTriangle, IsEar, IsTurnOf, BeginsWithEar, HasNoEar, IsClipping, IsStuck}

abbrev pub points : {Gen : Type 0} → List (Item Gen Point) → List Point
points items = map (λ e. e.1) items

pub record IsSameOutline (corners turned : List Point) : Type 0 where
  pub number : length turned ≡ length corners
  pub area : polygon_area turned ≡ polygon_area corners
  pub among : (p : Point) → Contains turned p → Contains corners p
  pub turn : IsTurnOf corners turned

module _ {A Gen : Type 0} {view : A → ArenaView Gen Point} {entry : A → ℕ → Option (Gen × Point)} (state : (a : A) → ArenaState (view a) (entry a)) (interlinks : A → LinkMap) where
  -- A ring from `p` on.
  pub record IsRingFrom (arena : A) (p : ℕ × Gen) (items : List (Item Gen Point)) : Type 0 where
    pub ring : IsRing state interlinks arena items
    pub first : first_key items ≡ Some p

  -- A ring that is alone in the arena.
  pub record IsWholeRing (arena : A) (items : List (Item Gen Point)) (corners : ℕ) : Type 0 where
    pub number : length items ≡ corners
    pub alone : count (view arena) ≡ corners

  -- The triangle from `p` on is an ear.
  abbrev pub IsEarAfter : A → (p corner after : ℕ × Gen) → Triangle → Type 0
  IsEarAfter arena p corner after t = (a c b : Item Gen Point) (rest : List (Item Gen Point)) → IsRingFrom arena p (a ∷ c ∷ b ∷ rest)
      → (corner ≡ c.0) × (after ≡ b.0) × (t.a ≡ a.1) × (t.b ≡ c.1) × (t.c ≡ b.1) × IsEar t (points rest)

  -- No ear begins at `p`.
  abbrev pub SeesNoEar : A → ℕ × Gen → Type 0
  SeesNoEar arena p = (items : List (Item Gen Point)) → IsRingFrom arena p items → IsWholeRing arena items (length items) → BeginsWithEar (points items) → ⊥

  -- The ring of `start` has no ear.
  abbrev pub FindsNoEar : A → ℕ × Gen → ℕ → Type 0
  FindsNoEar arena start corners = (items : List (Item Gen Point)) → IsRingFrom arena start items → IsWholeRing arena items corners → HasNoEar (points items)

  -- An entry is in the triangle.
  pub record HoldsCorner (arena : A) (t : Triangle) : Type 0 where
    pub at : ℕ × Gen
    pub point : Point
    pub stored : entry arena at.0 ≡ Some (at.1, point)
    pub inside : IsInTriangle t point

  pub record HasEar (arena : A) (items : List (Item Gen Point)) (p corner after : ℕ × Gen) (t : Triangle) : Type 0 where
    pub rest : List (Item Gen Point)
    pub ring : IsRing state interlinks arena ((p, t.a) ∷ (corner, t.b) ∷ (after, t.c) ∷ rest)
    pub outline : IsSameOutline (points items) (points ((p, t.a) ∷ (corner, t.b) ∷ (after, t.c) ∷ rest))
    pub ear : IsEar t (points rest)

  -- The ring of `start`, if of three or more, has this ear.
  abbrev pub FindsEar : A → ℕ × Gen → (p corner after : ℕ × Gen) → Triangle → Type 0
  FindsEar arena start p corner after t = (items : List (Item Gen Point)) → IsRingFrom arena start items → 3 ≤ length items → HasEar arena items p corner after t

  pub record IsTurned (arena : A) (items : List (Item Gen Point)) (p : ℕ × Gen) : Type 0 where
    pub turned : List (Item Gen Point)
    pub ring : IsRingFrom arena p turned
    pub outline : IsSameOutline (points items) (points turned)

  pub record IsRemaining (arena : A) (items : List (Item Gen Point)) (triangles : List Triangle) (p : ℕ × Gen) (left : ℕ) : Type 0 where
    pub remaining : List (Item Gen Point)
    pub ring : IsRingFrom arena p remaining
    pub whole : IsWholeRing arena remaining left
    pub clipping : IsClipping (points items) triangles (points remaining)

  -- A ring of these corners, alone in the arena.
  pub record IsRingOf (arena : A) (start : ℕ × Gen) (corners : List Point) : Type 0 where
    pub items : List (Item Gen Point)
    pub ring : IsRingFrom arena start items
    pub all : points items ≡ corners
    pub alone : count (view arena) ≡ length corners

  pub record IsRingBetween (arena : A) (start last : ℕ × Gen) (corners : List Point) : Type 0 where
    pub before : List (Item Gen Point)
    pub point : Point
    pub ring : IsRingFrom arena start (before ++ (last, point) ∷ [])
    pub all : points (before ++ (last, point) ∷ []) ≡ corners
    pub alone : count (view arena) ≡ length corners

module _ {A Gen : Type 0} {view : A → ArenaView Gen Point} {entry : A → ℕ → Option (Gen × Point)} (state : (a : A) → ArenaState (view a) (entry a)) (interlinks : A → LinkMap) where
  -- `clip_ears`: the triangles, or why not.
  abbrev pub ClipsEars : A → ℕ × Gen → ℕ → Result (Vec Triangle Global) TriangulationError → Type 0
  ClipsEars arena start corners (Ok triangles) = (items : List (Item Gen Point)) → IsRingFrom state interlinks arena start items → IsWholeRing state interlinks arena items corners → 2 ≤ corners → IsTriangulation (points items) triangles.items
  ClipsEars arena start corners (Err why.InvalidPointer) = ⊥
  ClipsEars arena start corners (Err why.TooFewCorners) = ⊥
  ClipsEars arena start corners (Err why.NoEar) = (items : List (Item Gen Point)) → IsRingFrom state interlinks arena start items → IsWholeRing state interlinks arena items corners → 2 ≤ corners → IsStuck (points items)
  ClipsEars arena start corners (Err why.AllocError) = Unit {0}

  -- `outline`: the points from `p` on, or why not.
  abbrev pub ReadsOutline : A → ℕ × Gen → Result (Vec Point Global) TriangulationError → Type 0
  ReadsOutline arena p (Ok read) = IsValid (entry arena) p × ((items : List (Item Gen Point)) → IsRingFrom state interlinks arena p items → points items ≡ read.items)
  ReadsOutline arena p (Err why.InvalidPointer) = IsValid (entry arena) p → ⊥
  ReadsOutline arena p (Err why.TooFewCorners) = ⊥
  ReadsOutline arena p (Err why.NoEar) = ⊥
  ReadsOutline arena p (Err why.AllocError) = IsValid (entry arena) p

  -- `triangulate`: the triangles, or why not.
  abbrev pub Triangulates : A → ℕ × Gen → Result (Vec Triangle Global) TriangulationError → Type 0
  Triangulates arena p (Ok triangles) = IsValid (entry arena) p × ((items : List (Item Gen Point)) → IsRingFrom state interlinks arena p items → (3 ≤ length items) × IsTriangulation (points items) triangles.items)
  Triangulates arena p (Err why.InvalidPointer) = IsValid (entry arena) p → ⊥
  Triangulates arena p (Err why.TooFewCorners) = IsValid (entry arena) p × ((items : List (Item Gen Point)) → IsRingFrom state interlinks arena p items → length items < 3)
  Triangulates arena p (Err why.NoEar) = IsValid (entry arena) p × ((items : List (Item Gen Point)) → IsRingFrom state interlinks arena p items → IsStuck (points items))
  Triangulates arena p (Err why.AllocError) = IsValid (entry arena) p
