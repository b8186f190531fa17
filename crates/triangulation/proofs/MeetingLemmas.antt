-- Segments and rings that meet.
use Rattle.std.proofs.Common.{◌≡◌, ℕ, ◌+◌, ◌<◌, ◌≤◌, ℤ, ◌≤ℤ◌, to_z, of_z, List, [], ◌∷◌, ◌++◌, length, take, get_or, refl, sym, ap, ◌∙◌, subst, arith, w32, below_more, length-append}
use Rattle.std.specs.Prelude.{FitsSigned, All, Contains}
use Rattle.std.proofs.lemmas.Int.{ints, to_z-of_z, by_lt_z}
use Rattle.std.proofs.lemmas.List.Elements.{All-cons, All-contains, Contains-push, Contains-append_right}
use Rattle.triangulation.specs.declared.points.Point.{Point}
use Rattle.triangulation.specs.declared.bounds.BoundingBox.{BoundingBox}
use Rattle.triangulation.specs.CornerIndexes.{IsInBox}
use Rattle.triangulation.specs.Polygons.{RangesMeet, SegmentsMeet, IsEdgeOf, MeetsEdge}
use Rattle.triangulation.proofs.RingPathLemmas.{origin, IsPathTo}

pub of_passed : (P : ℤ → ℤ → ℤ → ℤ → Type 0) (a b c d : ℤ) → FitsSigned w32 a → FitsSigned w32 b → FitsSigned w32 c → FitsSigned w32 d → P (to_z w32 (of_z w32 a)) (to_z w32 (of_z w32 b)) (to_z w32 (of_z w32 c)) (to_z w32 (of_z w32 d)) → P a b c d
of_passed P a b c d fits_a fits_b fits_c fits_d holds =
    let P4 = λ (z : ℤ). P (to_z w32 (of_z w32 a)) (to_z w32 (of_z w32 b)) (to_z w32 (of_z w32 c)) z in
    let P3 = λ (z : ℤ). P (to_z w32 (of_z w32 a)) (to_z w32 (of_z w32 b)) z d in
    let P2 = λ (z : ℤ). P (to_z w32 (of_z w32 a)) z c d in
    let P1 = λ (z : ℤ). P z b c d in
    subst P1 (to_z-of_z w32 a fits_a) (subst P2 (to_z-of_z w32 b fits_b) (subst P3 (to_z-of_z w32 c fits_c) (subst P4 (to_z-of_z w32 d fits_d) holds)))

abbrev pub end_of : List Point → Point
end_of [] = origin
end_of (a ∷ []) = a
end_of (a ∷ b ∷ path) = end_of (b ∷ path)

pub end_of-push : (path : List Point) (a : Point) → end_of (path ++ a ∷ []) ≡ a
end_of-push [] a = refl
end_of-push (x ∷ []) a = refl
end_of-push (x ∷ y ∷ path) a = end_of-push (y ∷ path) a

-- The first end of the edge to the corner at an index.
abbrev pub start_of : List Point → ℕ → Point
start_of ring i = end_of (end_of ring ∷ take i ring)

path_at : (ring : List Point) (at : Point) (i : ℕ) → IsPathTo ring at i → at ≡ start_of ring i
path_at ring at i path =
    let last : path.last ≡ end_of ring = sym (ap end_of path.corners ∙ end_of-push path.start path.last) in
    sym (end_of-push path.front at) ∙ (ap end_of (sym path.whole) ∙ ap (λ (p : Point). end_of (p ∷ take i ring)) last)

edge_at : (x : Point) (ring before after : List Point) (a b : Point) → x ∷ ring ≡ before ++ a ∷ b ∷ after → (length before < length ring) × (a ≡ end_of (x ∷ take (length before) ring)) × (b ≡ get_or ring (length before) origin)
edge_at x [] [] after a b is = absurd (omega (arith, ap length is))
edge_at x [] (y ∷ before) after a b is = absurd (omega (arith, simp length-append at (ap length is)))
edge_at x (z ∷ ring) [] after a b is = (omega arith, cc, cc)
edge_at x (z ∷ ring) (y ∷ before) after a b is =
    let rest = edge_at z ring before after a b cc in
    (omega arith, rest.1, rest.2)

-- No edge to a corner before this index has a property.
abbrev pub NoEdgeBefore : (Point → Point → Type 0) → List Point → ℕ → Type 0
NoEdgeBefore P ring i = (k : ℕ) → k < i → P (start_of ring k) (get_or ring k origin) → ⊥

pub no_edge_more : (P : Point → Point → Type 0) (ring : List Point) (at : Point) (i : ℕ) → IsPathTo ring at i → NoEdgeBefore P ring i → (P at (get_or ring i origin) → ⊥) → NoEdgeBefore P ring (i + 1)
no_edge_more P ring at i path none not = below_more (λ k. P (start_of ring k) (get_or ring k origin) → ⊥) i none (subst (λ (p : Point). P p (get_or ring i origin) → ⊥) (path_at ring at i path) not)

pub no_edge_end : (P : Point → Point → Type 0) (ring : List Point) (i : ℕ) → NoEdgeBefore P ring i → length ring ≤ i → (a b : Point) → IsEdgeOf a b ring → P a b → ⊥
no_edge_end P ring i none end a b edge holds =
    let n = length edge.before in
    let last : edge.around.last ≡ end_of ring = sym (ap end_of edge.around.corners ∙ end_of-push edge.around.front edge.around.last) in
    let found = edge_at edge.around.last ring edge.before edge.after a b (sym edge.around.whole ∙ edge.edge) in
    let first : a ≡ start_of ring n = found.1 ∙ ap (λ (p : Point). end_of (p ∷ take n ring)) last in
    none n (omega (arith, found.0, end)) (subst (λ (p : Point). P p (get_or ring n origin)) first (subst (λ (p : Point). P a p) found.2 holds))

all_edge : (P : Point → Type 0) (ring : List Point) (a b : Point) → All P ring → IsEdgeOf a b ring → P a × P b
all_edge P ring a b all edge =
    let front = edge.around.front in
    let last = edge.around.last in
    let end : P last = All-contains P ring last all (subst (λ (l : List Point). Contains l last) (sym edge.around.corners) (Contains-push front last)) in
    let path : All P edge.path = subst (λ (l : List Point). All P l) (sym edge.around.whole) (All-cons P last ring end all) in
    let has = λ (p : Point) (is : Contains (a ∷ b ∷ edge.after) p). All-contains P edge.path p path (subst (λ (l : List Point). Contains l p) (sym edge.edge) (Contains-append_right edge.before (a ∷ b ∷ edge.after) p is)) in
    (has a (0, omega arith, refl), has b (1, omega arith, refl))

common_number : (k l a b m n c d : ℤ) → k ≤ℤ a → k ≤ℤ b → a ≤ℤ l → b ≤ℤ l → m ≤ℤ c → m ≤ℤ d → c ≤ℤ n → d ≤ℤ n → RangesMeet a b c d → (x : ℤ) × (k ≤ℤ x) × (x ≤ℤ l) × (m ≤ℤ x) × (x ≤ℤ n)
common_number k l a b m n c d ka kb al bl mc md cn dn meet =
    let first : m ≤ℤ l = by_lt_z l m (λ less. absurd (meet.0 (omega (arith, ints, less), omega (arith, ints, less), omega (arith, ints, less), omega (arith, ints, less)))) (λ le. le) in
    let second : k ≤ℤ n = by_lt_z n k (λ less. absurd (meet.1 (omega (arith, ints, less), omega (arith, ints, less), omega (arith, ints, less), omega (arith, ints, less)))) (λ le. le) in
    by_lt_z k m (λ less. (m, omega (arith, ints, less), first, omega (arith, ints), omega (arith, ints))) (λ le. (k, omega (arith, ints), omega (arith, ints), le, second))

common_point : (box other : BoundingBox) (a b c d : Point) → IsInBox box a → IsInBox box b → IsInBox other c → IsInBox other d → SegmentsMeet a b c d → (p : Point) × IsInBox box p × IsInBox other p
common_point box other a b c d at_a at_b at_c at_d meet =
    let x = common_number box.left box.right a.x b.x other.left other.right c.x d.x at_a.left at_b.left at_a.right at_b.right at_c.left at_d.left at_c.right at_d.right meet.horizontal in
    let y = common_number box.bottom box.top a.y b.y other.bottom other.top c.y d.y at_a.bottom at_b.bottom at_a.top at_b.top at_c.bottom at_d.bottom at_c.top at_d.top meet.vertical in
    (record { x = x.0; y = y.0 }, record { left = x.1; right = x.2; bottom = y.1; top = y.2 }, record { left = x.3; right = x.4; bottom = y.3; top = y.4 })

pub box_of_meeting : (box around : BoundingBox) (a b : Point) (ring : List Point) → IsInBox box a → IsInBox box b → All (IsInBox around) ring → MeetsEdge a b ring → (p : Point) × IsInBox box p × IsInBox around p
box_of_meeting box around a b ring at_a at_b all meets =
    let ends = all_edge (IsInBox around) ring meets.c meets.d all meets.edge in
    common_point box around a b meets.c meets.d at_a at_b ends.0 ends.1 meets.meet
