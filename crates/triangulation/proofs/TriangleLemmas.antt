-- A triangle is in each box that has its corners.
use Rattle.std.proofs.Common.{◌≡◌, zero, suc, ℤ, pos, negsuc, ◌+ℤ◌, ◌-ℤ◌, ◌*ℤ◌, ◌<ℤ◌, ◌≤ℤ◌, [], ◌∷◌, sym, ap, ◌∙◌, arith}
use Rattle.std.proofs.Math.IntN.{suc_ℤ, pred_ℤ, suc_ℤ-*ℤ, pred_ℤ-*ℤ, zero-*ℤ, *ℤ-zero, *ℤ_comm}
use Rattle.std.proofs.lemmas.Int.{ints, by_lt_z}
use Rattle.polygon_laws.specs.Areas as area
use Rattle.polygon_laws.proofs.AreaLemmas.{area_of_turn, area_of_triangle}
use Rattle.triangulation.specs.declared.points.Point.{Point}
use Rattle.triangulation.specs.declared.points.Triangle.{Triangle}
use Rattle.triangulation.specs.declared.bounds.BoundingBox.{BoundingBox}
use Rattle.triangulation.specs.Triangulations.{coordinates, triangle_area, IsInTriangle}
use Rattle.triangulation.specs.CornerIndexes.{IsInBox}

difference_times : (a b c : ℤ) → (a -ℤ b) *ℤ c ≡ a *ℤ c -ℤ b *ℤ c
difference_times a b c =
    let flat = area_of_triangle (b, pos 0) (a, pos 0) (b, c) in
    let same : (a -ℤ b) *ℤ (c -ℤ pos 0) ≡ (a -ℤ b) *ℤ c = ap (λ (k : ℤ). (a -ℤ b) *ℤ k) (less_zero c) in
    let none : (b -ℤ b) *ℤ (pos 0 -ℤ pos 0) ≡ pos 0 = *ℤ-zero (b -ℤ b) in
    omega (arith, ints, flat, same, none, *ℤ-zero a, *ℤ-zero b)
  where
    less_zero : (k : ℤ) → k -ℤ pos 0 ≡ k
    less_zero k = omega (arith, ints)

sum_times : (a b c : ℤ) → (a +ℤ b) *ℤ c ≡ a *ℤ c +ℤ b *ℤ c
sum_times a b c =
    let parts = difference_times (a +ℤ b) b c in
    let whole : (a +ℤ b -ℤ b) *ℤ c ≡ a *ℤ c = ap (λ (k : ℤ). k *ℤ c) (first a b) in
    omega (arith, ints, parts, whole)
  where
    first : (j k : ℤ) → j +ℤ k -ℤ k ≡ j
    first j k = omega (arith, ints)

more_assoc : (a b c : ℤ) → (a *ℤ b) *ℤ c ≡ a *ℤ (b *ℤ c) → (suc_ℤ a *ℤ b) *ℤ c ≡ suc_ℤ a *ℤ (b *ℤ c)
more_assoc a b c rest = ap (λ (k : ℤ). k *ℤ c) (suc_ℤ-*ℤ a b) ∙ (sum_times (a *ℤ b) b c ∙ (ap (λ (k : ℤ). k +ℤ b *ℤ c) rest ∙ sym (suc_ℤ-*ℤ a (b *ℤ c))))

less_assoc : (a b c : ℤ) → (a *ℤ b) *ℤ c ≡ a *ℤ (b *ℤ c) → (pred_ℤ a *ℤ b) *ℤ c ≡ pred_ℤ a *ℤ (b *ℤ c)
less_assoc a b c rest = ap (λ (k : ℤ). k *ℤ c) (pred_ℤ-*ℤ a b) ∙ (difference_times (a *ℤ b) b c ∙ (ap (λ (k : ℤ). k -ℤ b *ℤ c) rest ∙ sym (pred_ℤ-*ℤ a (b *ℤ c))))

none_assoc : (b c : ℤ) → (pos 0 *ℤ b) *ℤ c ≡ pos 0 *ℤ (b *ℤ c)
none_assoc b c = ap (λ (k : ℤ). k *ℤ c) (zero-*ℤ b) ∙ (zero-*ℤ c ∙ sym (zero-*ℤ (b *ℤ c)))

times_assoc : (a b c : ℤ) → (a *ℤ b) *ℤ c ≡ a *ℤ (b *ℤ c)
times_assoc (pos zero) b c = none_assoc b c
times_assoc (pos (suc n)) b c = more_assoc (pos n) b c (times_assoc (pos n) b c)
times_assoc (negsuc zero) b c = less_assoc (pos 0) b c (none_assoc b c)
times_assoc (negsuc (suc n)) b c = less_assoc (negsuc n) b c (times_assoc (negsuc n) b c)

times_swap : (a b c : ℤ) → (a *ℤ b) *ℤ c ≡ (c *ℤ b) *ℤ a
times_swap a b c = times_assoc a b c ∙ (*ℤ_comm a (b *ℤ c) ∙ ap (λ (k : ℤ). k *ℤ a) (*ℤ_comm b c))

areas_times : (x y z p q r : ℤ) → (y *ℤ r -ℤ z *ℤ q) *ℤ x +ℤ ((z *ℤ p -ℤ x *ℤ r) *ℤ y +ℤ (x *ℤ q -ℤ y *ℤ p) *ℤ z) ≡ pos 0
areas_times x y z p q r =
    let one = difference_times (y *ℤ r) (z *ℤ q) x in
    let two = difference_times (z *ℤ p) (x *ℤ r) y in
    let three = difference_times (x *ℤ q) (y *ℤ p) z in
    let first = times_swap y r x in
    let second = times_swap z q x in
    let third = times_swap z p y in
    omega (arith, ints, one, two, three, first, second, third)

area_turned : (a b c d : ℤ) → a *ℤ b -ℤ c *ℤ d ≡ b *ℤ a -ℤ d *ℤ c
area_turned a b c d = let one = *ℤ_comm a b in let two = *ℤ_comm c d in omega (arith, ints, one, two)

areas_times_other : (x y z p q r : ℤ) → (y *ℤ r -ℤ z *ℤ q) *ℤ p +ℤ ((z *ℤ p -ℤ x *ℤ r) *ℤ q +ℤ (x *ℤ q -ℤ y *ℤ p) *ℤ r) ≡ pos 0
areas_times_other x y z p q r =
    let sum = areas_times p r q x z y in
    let one = ap (λ (k : ℤ). k *ℤ p) (area_turned y r z q) in
    let two = ap (λ (k : ℤ). k *ℤ q) (area_turned z p x r) in
    let three = ap (λ (k : ℤ). k *ℤ r) (area_turned x q y p) in
    omega (arith, ints, sum, one, two, three)

one_times : (u : ℤ) → pos 1 *ℤ u ≡ u
one_times u = let more = suc_ℤ-*ℤ (pos 0) u in let none = zero-*ℤ u in omega (arith, ints, more, none)

product_positive : (k u : ℤ) → pos 0 ≤ℤ k → pos 0 ≤ℤ u → pos 0 ≤ℤ (k *ℤ u)
product_positive (pos m) (pos n) a b = omega (arith, ints)
product_positive (pos m) (negsuc n) a b = absurd (omega (arith, ints, b))
product_positive (negsuc m) u a b = absurd (omega (arith, ints, a))

times_above : (x u : ℤ) → pos 0 ≤ℤ u → pos 0 <ℤ x → u ≤ℤ (u *ℤ x)
times_above x u small above =
    let more = product_positive (x -ℤ pos 1) u (omega (arith, ints, above)) small in
    let parts = difference_times x (pos 1) u in
    let one = one_times u in
    let turned = *ℤ_comm u x in
    omega (arith, ints, more, parts, one, turned)

times_below : (x u : ℤ) → pos 0 ≤ℤ u → x <ℤ pos 0 → (u *ℤ x +ℤ u) ≤ℤ pos 0
times_below x u small below =
    let more = product_positive (pos 0 -ℤ x -ℤ pos 1) u (omega (arith, ints, below)) small in
    let parts = difference_times (pos 0 -ℤ x) (pos 1) u in
    let rest = difference_times (pos 0) x u in
    let none = zero-*ℤ u in
    let one = one_times u in
    let turned = *ℤ_comm u x in
    omega (arith, ints, more, parts, rest, none, one, turned)

-- Three numbers that weights balance are not all on one side of 0.
module _ (x y z u v w : ℤ) (first : pos 0 ≤ℤ u) (second : pos 0 ≤ℤ v) (third : pos 0 ≤ℤ w) (some : pos 0 <ℤ (u +ℤ v +ℤ w)) (sum : u *ℤ x +ℤ (v *ℤ y +ℤ w *ℤ z) ≡ pos 0) where
  not_all_above : pos 0 <ℤ x → pos 0 <ℤ y → pos 0 <ℤ z → ⊥
  not_all_above a b c =
      let one = times_above x u first a in
      let two = times_above y v second b in
      let three = times_above z w third c in
      omega (arith, ints, some, one, two, three, sum)

  not_all_below : x <ℤ pos 0 → y <ℤ pos 0 → z <ℤ pos 0 → ⊥
  not_all_below a b c =
      let one = times_below x u first a in
      let two = times_below y v second b in
      let three = times_below z w third c in
      omega (arith, ints, some, one, two, three, sum)

seen_from : (a b p : area.Point) → area.orientation a b p ≡ area.orientation p a b
seen_from a b p = sym (area_of_triangle a b p) ∙ (area_of_turn (a ∷ b ∷ []) (p ∷ []) ∙ area_of_triangle p a b)

edges_cancel : (p q : area.Point) → area.edge_area p q +ℤ area.edge_area q p ≡ pos 0
edges_cancel p q = omega (arith, ints)

three_areas : (a b c p : area.Point) → area.orientation p b c +ℤ area.orientation p c a +ℤ area.orientation p a b ≡ area.orientation a b c
three_areas a b c p = added (area.edge_area a b) (area.edge_area b c) (area.edge_area c a) (area.edge_area p a) (area.edge_area a p) (area.edge_area p b) (area.edge_area b p) (area.edge_area p c) (area.edge_area c p) _ _ _ _
    (edges_cancel p a) (edges_cancel p b) (edges_cancel p c) (area_of_triangle p b c) (area_of_triangle p c a) (area_of_triangle p a b) (area_of_triangle a b c)
  where
    added : (ab bc ca pa ap pb bp pc cp x y z all : ℤ) → pa +ℤ ap ≡ pos 0 → pb +ℤ bp ≡ pos 0 → pc +ℤ cp ≡ pos 0
        → pb +ℤ (bc +ℤ (cp +ℤ pos 0)) ≡ x → pc +ℤ (ca +ℤ (ap +ℤ pos 0)) ≡ y → pa +ℤ (ab +ℤ (bp +ℤ pos 0)) ≡ z → ab +ℤ (bc +ℤ (ca +ℤ pos 0)) ≡ all → x +ℤ y +ℤ z ≡ all
    added ab bc ca pa ap pb bp pc cp x y z all at_a at_b at_c one two three whole = omega (arith, ints, at_a, at_b, at_c, one, two, three, whole)

module _ (t : Triangle) (p : Point) (positive : pos 0 <ℤ triangle_area t) (inside : IsInTriangle t p) where
  first_area : pos 0 ≤ℤ area.orientation (coordinates p) (coordinates t.b) (coordinates t.c)
  first_area = rw (sym (seen_from (coordinates t.b) (coordinates t.c) (coordinates p))) inside.second_side

  second_area : pos 0 ≤ℤ area.orientation (coordinates p) (coordinates t.c) (coordinates t.a)
  second_area = rw (sym (seen_from (coordinates t.c) (coordinates t.a) (coordinates p))) inside.third_side

  third_area : pos 0 ≤ℤ area.orientation (coordinates p) (coordinates t.a) (coordinates t.b)
  third_area = rw (sym (seen_from (coordinates t.a) (coordinates t.b) (coordinates p))) inside.first_side

  some_area : pos 0 <ℤ (area.orientation (coordinates p) (coordinates t.b) (coordinates t.c) +ℤ area.orientation (coordinates p) (coordinates t.c) (coordinates t.a) +ℤ area.orientation (coordinates p) (coordinates t.a) (coordinates t.b))
  some_area = rw (three_areas (coordinates t.a) (coordinates t.b) (coordinates t.c) (coordinates p)) positive

  horizontal : area.orientation (coordinates p) (coordinates t.b) (coordinates t.c) *ℤ (t.a.x -ℤ p.x) +ℤ (area.orientation (coordinates p) (coordinates t.c) (coordinates t.a) *ℤ (t.b.x -ℤ p.x) +ℤ area.orientation (coordinates p) (coordinates t.a) (coordinates t.b) *ℤ (t.c.x -ℤ p.x)) ≡ pos 0
  horizontal = areas_times (t.a.x -ℤ p.x) (t.b.x -ℤ p.x) (t.c.x -ℤ p.x) (t.a.y -ℤ p.y) (t.b.y -ℤ p.y) (t.c.y -ℤ p.y)

  vertical : area.orientation (coordinates p) (coordinates t.b) (coordinates t.c) *ℤ (t.a.y -ℤ p.y) +ℤ (area.orientation (coordinates p) (coordinates t.c) (coordinates t.a) *ℤ (t.b.y -ℤ p.y) +ℤ area.orientation (coordinates p) (coordinates t.a) (coordinates t.b) *ℤ (t.c.y -ℤ p.y)) ≡ pos 0
  vertical = areas_times_other (t.a.x -ℤ p.x) (t.b.x -ℤ p.x) (t.c.x -ℤ p.x) (t.a.y -ℤ p.y) (t.b.y -ℤ p.y) (t.c.y -ℤ p.y)

  module _ (a b c at : ℤ) (sum : area.orientation (coordinates p) (coordinates t.b) (coordinates t.c) *ℤ (a -ℤ at) +ℤ (area.orientation (coordinates p) (coordinates t.c) (coordinates t.a) *ℤ (b -ℤ at) +ℤ area.orientation (coordinates p) (coordinates t.a) (coordinates t.b) *ℤ (c -ℤ at)) ≡ pos 0) (bound : ℤ) where
    bounded_below : bound ≤ℤ a → bound ≤ℤ b → bound ≤ℤ c → bound ≤ℤ at
    bounded_below one two three = by_lt_z at bound
        (λ less. absurd (not_all_above (a -ℤ at) (b -ℤ at) (c -ℤ at) _ _ _ first_area second_area third_area some_area sum (below a one less) (below b two less) (below c three less))) (λ is. is)
      where
        below : (k : ℤ) → bound ≤ℤ k → at <ℤ bound → pos 0 <ℤ (k -ℤ at)
        below k high less = omega (arith, ints, high, less)

    bounded_above : a ≤ℤ bound → b ≤ℤ bound → c ≤ℤ bound → at ≤ℤ bound
    bounded_above one two three = by_lt_z bound at
        (λ more. absurd (not_all_below (a -ℤ at) (b -ℤ at) (c -ℤ at) _ _ _ first_area second_area third_area some_area sum (above a one more) (above b two more) (above c three more))) (λ is. is)
      where
        above : (k : ℤ) → k ≤ℤ bound → bound <ℤ at → (k -ℤ at) <ℤ pos 0
        above k low more = omega (arith, ints, low, more)

  pub triangle_in_box : (box : BoundingBox) → IsInBox box t.a → IsInBox box t.b → IsInBox box t.c → IsInBox box p
  triangle_in_box box a b c = record {
    left = bounded_below t.a.x t.b.x t.c.x p.x horizontal box.left a.left b.left c.left;
    right = bounded_above t.a.x t.b.x t.c.x p.x horizontal box.right a.right b.right c.right;
    bottom = bounded_below t.a.y t.b.y t.c.y p.y vertical box.bottom a.bottom b.bottom c.bottom;
    top = bounded_above t.a.y t.b.y t.c.y p.y vertical box.top a.top b.top c.top;
  }
