-- Signed areas.
use Rattle.std.specs.Prelude.{◌≡◌, ℤ, pos, neg_ℤ, ◌+ℤ◌, ◌-ℤ◌, ◌*ℤ◌, List, [], ◌∷◌, ◌++◌, reverse}

abbrev pub Point : Type 0
Point = ℤ × ℤ

-- Twice the signed area between the origin and the edge from p to q.
abbrev pub edge_area : Point → Point → ℤ
edge_area p q = p.0 *ℤ q.1 -ℤ q.0 *ℤ p.1

abbrev pub path_area : List Point → ℤ
path_area [] = pos 0
path_area (p ∷ []) = pos 0
path_area (p ∷ q ∷ ps) = edge_area p q +ℤ path_area (q ∷ ps)

-- Twice the signed area: positive if the corners turn counterclockwise.
abbrev pub double_area : List Point → ℤ
double_area [] = pos 0
double_area (p ∷ ps) = path_area (p ∷ ps ++ p ∷ [])

-- Twice the signed area of a triangle: positive if r is left of the line from p to q.
abbrev pub orientation : Point → Point → Point → ℤ
orientation p q r = (q.0 -ℤ p.0) *ℤ (r.1 -ℤ p.1) -ℤ (r.0 -ℤ p.0) *ℤ (q.1 -ℤ p.1)

abbrev pub TriangleIsOriented : Type 0
TriangleIsOriented = (p q r : Point) → double_area (p ∷ q ∷ r ∷ []) ≡ orientation p q r

abbrev pub AreaIsZeroWithoutEdges : Type 0
AreaIsZeroWithoutEdges = (p q : Point) → (double_area (p ∷ []) ≡ pos 0) × (double_area (p ∷ q ∷ []) ≡ pos 0)

abbrev pub AreaIsThatOfAnyTurn : Type 0
AreaIsThatOfAnyTurn = (ps qs : List Point) → double_area (ps ++ qs) ≡ double_area (qs ++ ps)

abbrev pub ReversalNegatesArea : Type 0
ReversalNegatesArea = (ps : List Point) → double_area (reverse ps) ≡ neg_ℤ (double_area ps)

abbrev pub DiagonalSplitsArea : Type 0
DiagonalSplitsArea = (u v : Point) (ps qs : List Point) → double_area (u ∷ ps ++ v ∷ qs) ≡ double_area (u ∷ ps ++ v ∷ []) +ℤ double_area (v ∷ qs ++ u ∷ [])

-- Cutting off p subtracts its triangle.
abbrev pub EarSplitsArea : Type 0
EarSplitsArea = (o p q : Point) (ps : List Point) → double_area (o ∷ p ∷ q ∷ ps) ≡ double_area (o ∷ p ∷ q ∷ []) +ℤ double_area (o ∷ q ∷ ps)

abbrev pub BridgeAddsAreas : Type 0
BridgeAddsAreas = (u v : Point) (ps qs : List Point) → double_area (u ∷ ps ++ u ∷ v ∷ qs ++ v ∷ []) ≡ double_area (u ∷ ps) +ℤ double_area (v ∷ qs)
