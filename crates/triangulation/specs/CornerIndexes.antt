-- Indexes of corners by bounding boxes.
use Rattle.std.specs.Prelude.{◌≡◌, ℕ, ◌≤ℤ◌, ◌/◌, List, Option, Some, slice_get}
use Rattle.triangulation.specs.declared.points.Point.{Point}
use Rattle.triangulation.specs.declared.points.Triangle.{Triangle}
use Rattle.triangulation.specs.declared.bounds.BoundingBox.{BoundingBox}
use Rattle.triangulation.specs.Triangulations.{IsInTriangle}

-- The point is in the box or on its sides.
pub record IsInBox (box : BoundingBox) (p : Point) : Type 0 where
  pub left : box.left ≤ℤ p.x
  pub right : p.x ≤ℤ box.right
  pub bottom : box.bottom ≤ℤ p.y
  pub top : p.y ≤ℤ box.top

abbrev pub BoxHasAllOf : BoundingBox → BoundingBox → Type 0
BoxHasAllOf box other = (p : Point) → IsInBox other p → IsInBox box p

-- Each 32 items have a box, in order.
abbrev pub AreBoxesOf : {X : Type 0} → (BoundingBox → X → Type 0) → List X → List BoundingBox → Type 0
AreBoxesOf {X} Has items boxes = (n : ℕ) (x : X) → slice_get items n ≡ Some x → (box : BoundingBox) × (slice_get boxes (n / 32) ≡ Some box) × Has box x

abbrev pub AreBlocksOf : List Point → List BoundingBox → Type 0
AreBlocksOf = AreBoxesOf IsInBox

abbrev pub AreGroupsOf : List BoundingBox → List BoundingBox → Type 0
AreGroupsOf = AreBoxesOf BoxHasAllOf

module _ {Gen : Type 0} (entry : ℕ → Option (Gen × Point)) (pointers : List (ℕ × Gen)) (corners : List Point) where
  -- Each entry is listed: its pointer and point at one position.
  abbrev pub AreListed : Type 0
  AreListed = (p : ℕ × Gen) (point : Point) → entry p.0 ≡ Some (p.1, point) → (n : ℕ) × (slice_get pointers n ≡ Some p) × (slice_get corners n ≡ Some point)

  -- An index of all entries, maybe with removed corners.
  pub record IsIndexOf (blocks groups : List BoundingBox) : Type 0 where
    pub listed : AreListed
    pub blocks_of : AreBlocksOf corners blocks
    pub groups_of : AreGroupsOf blocks groups

  -- The corner is removed or not in the triangle.
  abbrev pub IsClearAt : Triangle → ℕ → Type 0
  IsClearAt t n = (p : ℕ × Gen) (point : Point) → slice_get pointers n ≡ Some p → slice_get corners n ≡ Some point → entry p.0 ≡ Some (p.1, point) → IsInTriangle t point → ⊥
