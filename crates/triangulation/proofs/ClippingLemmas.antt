-- The effect of a clipped ear.
use Rattle.std.proofs.Common.{◌≡◌, ℤ, pos, ◌+ℤ◌, ⊎_elim, List, [], ◌∷◌, ◌++◌, map, length, refl, sym, ap, ◌∙◌, subst, arith}
use Rattle.std.specs.Prelude.{Contains}
use Rattle.std.proofs.lemmas.Int.{ints}
use Rattle.std.proofs.lemmas.List.{map-append, length-append}
use Rattle.std.proofs.lemmas.List.Elements.{All-nil, All-push, Contains-append_left, Contains-append_right, Contains-push_cases, Contains-append_cases}
use Rattle.polygon_laws.specs.Areas as area
use Rattle.polygon_laws.proofs.AreaLemmas.{area_of_turn, area_of_ear, area_of_triangle, area_of_edges}
use Rattle.triangulation.specs.declared.points.Point.{Point}
use Rattle.triangulation.specs.declared.points.Triangle.{Triangle}
use Rattle.triangulation.specs.Triangulations.{IsClipping, IsEar, IsTurnOf, unturned, turned_on, AreEarsOf, coordinates, polygon_area, triangle_area, total_area, IsTriangleOf, IsTriangulation}
use Rattle.triangulation.specs.Clippings.{IsSameOutline}

pub in_tail : {X : Type 0} (e : X) (es : List X) (p : X) → Contains es p → Contains (e ∷ es) p
in_tail e es p has = Contains-append_right (e ∷ []) es p has

pub at_head : {X : Type 0} (e : X) (es : List X) → Contains (e ∷ es) e
at_head e es = Contains-append_left (e ∷ []) es e (0, omega arith, refl)

pub head_or_tail : {X : Type 0} (e : X) (es : List X) (p : X) (R : Type 0) → Contains (e ∷ es) p → (e ≡ p → R) → (Contains es p → R) → R
head_or_tail e es p R has first rest = ⊎_elim (λ one. ⊎_elim (λ none. absurd (omega (arith, none.1))) first (Contains-push_cases [] e p one)) rest (Contains-append_cases (e ∷ []) es p has)

turn_then : (rs : List Point) {ps qs : List Point} → IsTurnOf ps qs → IsTurnOf qs rs → IsTurnOf ps rs
turn_then rs (unturned corners) two = two
turn_then rs (turned_on a others turned one) two = turned_on a others rs (turn_then rs one two)

ears_turned : (ts : List Triangle) (corners rest turned : List Point) → AreEarsOf corners ts rest → IsTurnOf rest turned → AreEarsOf corners ts turned
ears_turned [] corners rest turned ears turn = turn_then turned ears turn
ears_turned (t ∷ ts) corners rest turned ears turn = (ears.0, ears.1, ears.2, ears_turned ts (t.a ∷ t.c ∷ ears.0) rest turned ears.3 turn)

ears_more : (ts : List Triangle) (corners remaining : List Point) (t : Triangle) (rest : List Point) → AreEarsOf corners ts remaining → IsTurnOf remaining (t.a ∷ t.b ∷ t.c ∷ rest) → IsEar t rest
    → AreEarsOf corners (ts ++ t ∷ []) (t.a ∷ t.c ∷ rest)
ears_more [] corners remaining t rest ears turn ear = (rest, turn_then (t.a ∷ t.b ∷ t.c ∷ rest) ears turn, ear, unturned (t.a ∷ t.c ∷ rest))
ears_more (s ∷ ts) corners remaining t rest ears turn ear = (ears.0, ears.1, ears.2, ears_more ts (s.a ∷ s.c ∷ ears.0) remaining t rest ears.3 turn ear)

pub outline_same : (ps : List Point) → IsSameOutline ps ps
outline_same ps = record { number = refl; area = refl; among = λ p has. has; turn = unturned ps }

pub outline_then : (ps qs rs : List Point) → IsSameOutline ps qs → IsSameOutline qs rs → IsSameOutline ps rs
outline_then ps qs rs one two = record { number = two.number ∙ one.number; area = two.area ∙ one.area; among = λ p has. one.among p (two.among p has); turn = turn_then rs one.turn two.turn }

pub outline_turned : (e : Point) (es : List Point) → IsSameOutline (e ∷ es) (es ++ e ∷ [])
outline_turned e es = record {
  number = length-append es (e ∷ []) ∙ omega arith;
  area = ap area.double_area (map-append coordinates es (e ∷ [])) ∙ sym (area_of_turn (coordinates e ∷ []) (map coordinates es));
  among = λ p has. ⊎_elim (λ in_rest. in_tail e es p in_rest) (λ is. subst (λ (q : Point). Contains (e ∷ es) q) is (at_head e es)) (Contains-push_cases es e p has);
  turn = turned_on e es (es ++ e ∷ []) (unturned (es ++ e ∷ []));
}

total_more : (ts : List Triangle) (t : Triangle) → total_area (ts ++ t ∷ []) ≡ total_area ts +ℤ triangle_area t
total_more [] t = plus_zero (triangle_area t)
  where
    plus_zero : (x : ℤ) → x +ℤ pos 0 ≡ pos 0 +ℤ x
    plus_zero x = omega (arith, ints)
total_more (s ∷ ts) t = grouped (triangle_area s) (total_area ts) (triangle_area t) (total_area (ts ++ t ∷ [])) (total_more ts t)
  where
    grouped : (x y z w : ℤ) → w ≡ y +ℤ z → x +ℤ w ≡ (x +ℤ y) +ℤ z
    grouped x y z w is = omega (arith, ints, is)

ear_area : (t : Triangle) (rest : List Point) → polygon_area (t.a ∷ t.b ∷ t.c ∷ rest) ≡ triangle_area t +ℤ polygon_area (t.a ∷ t.c ∷ rest)
ear_area t rest =
    area_of_ear (coordinates t.a) (coordinates t.b) (coordinates t.c) (map coordinates rest)
    ∙ ap (λ (x : ℤ). x +ℤ polygon_area (t.a ∷ t.c ∷ rest)) (area_of_triangle (coordinates t.a) (coordinates t.b) (coordinates t.c))

pub clipping_starts : (corners : List Point) → IsClipping corners [] corners
clipping_starts corners = record { number = omega arith; each = All-nil (IsTriangleOf corners); areas = zero_plus (polygon_area corners); among = λ p has. has; ears = unturned corners }
  where
    zero_plus : (x : ℤ) → pos 0 +ℤ x ≡ x
    zero_plus x = omega (arith, ints)

pub ear_clipped : (corners : List Point) (ts : List Triangle) (remaining : List Point) (t : Triangle) (rest : List Point) → IsClipping corners ts remaining → IsSameOutline remaining (t.a ∷ t.b ∷ t.c ∷ rest) → IsEar t rest
    → IsClipping corners (ts ++ t ∷ []) (t.a ∷ t.c ∷ rest)
ear_clipped corners ts remaining t rest clipping outline ear = record {
  number = omega (arith, clipping.number, outline.number, length-append ts (t ∷ []));
  each = All-push (IsTriangleOf corners) ts t clipping.each (record {
    first = whole t.a (at_head t.a (t.b ∷ t.c ∷ rest));
    second = whole t.b (in_tail t.a (t.b ∷ t.c ∷ rest) t.b (at_head t.b (t.c ∷ rest)));
    third = whole t.c (in_tail t.a (t.b ∷ t.c ∷ rest) t.c (in_tail t.b (t.c ∷ rest) t.c (at_head t.c rest)));
    positive = ear.positive;
  });
  areas = moved (total_area ts) (triangle_area t) (polygon_area (t.a ∷ t.c ∷ rest)) (polygon_area remaining) (polygon_area corners) (total_area (ts ++ t ∷ [])) (polygon_area (t.a ∷ t.b ∷ t.c ∷ rest))
      clipping.areas outline.area (ear_area t rest) (total_more ts t);
  among = λ p has. whole p (head_or_tail t.a (t.c ∷ rest) p (Contains (t.a ∷ t.b ∷ t.c ∷ rest) p) has
      (λ is. subst (λ (q : Point). Contains (t.a ∷ t.b ∷ t.c ∷ rest) q) is (at_head t.a (t.b ∷ t.c ∷ rest)))
      (λ later. in_tail t.a (t.b ∷ t.c ∷ rest) p (in_tail t.b (t.c ∷ rest) p later)));
  ears = ears_more ts corners remaining t rest clipping.ears outline.turn ear;
}
  where
    whole : (p : Point) → Contains (t.a ∷ t.b ∷ t.c ∷ rest) p → Contains corners p
    whole p has = clipping.among p (outline.among p has)

    moved : (total ear left before all more listed : ℤ) → total +ℤ before ≡ all → listed ≡ before → listed ≡ ear +ℤ left → more ≡ total +ℤ ear → more +ℤ left ≡ all
    moved total ear left before all more listed one two three four = omega (arith, ints, one, two, three, four)

pub clipping_turned : (corners : List Point) (ts : List Triangle) (x : Point) (xs : List Point) → IsClipping corners ts (x ∷ xs) → IsClipping corners ts (xs ++ x ∷ [])
clipping_turned corners ts x xs clipping =
    let turned = outline_turned x xs in
    record {
      number = omega (arith, clipping.number, turned.number);
      each = clipping.each;
      areas = ap (λ (z : ℤ). total_area ts +ℤ z) turned.area ∙ clipping.areas;
      among = λ p has. clipping.among p (turned.among p has);
      ears = ears_turned ts corners (x ∷ xs) (xs ++ x ∷ []) clipping.ears turned.turn;
    }

pub clipping_ends : (corners : List Point) (ts : List Triangle) (remaining : List Point) → length remaining ≡ 2 → IsClipping corners ts remaining → IsTriangulation corners ts
clipping_ends corners ts [] two clipping = absurd (omega (arith, two))
clipping_ends corners ts (p ∷ []) two clipping = absurd (omega (arith, two))
clipping_ends corners ts (p ∷ q ∷ []) two clipping = record {
  number = clipping.number;
  each = clipping.each;
  areas = without (total_area ts) (polygon_area (p ∷ q ∷ [])) (polygon_area corners) clipping.areas ((area_of_edges (coordinates p) (coordinates q)).1);
  ears = (p, q, clipping.ears);
}
  where
    without : (total none all : ℤ) → total +ℤ none ≡ all → none ≡ pos 0 → total ≡ all
    without total none all is zero = omega (arith, ints, is, zero)
clipping_ends corners ts (p ∷ q ∷ r ∷ rest) two clipping = absurd (omega (arith, two))
