-- Corners and areas of joined rings.
use Rattle.std.proofs.Common.{◌≡◌, ℕ, suc, ◌+◌, ◌<◌, ℤ, pos, neg_ℤ, ◌+ℤ◌, ◌≤ℤ◌, unsigned_abs, ⊎_elim, List, [], ◌∷◌, ◌++◌, map, length, take, drop, get_or, refl, sym, ap, ◌∙◌, subst, arith}
use Rattle.std.specs.Prelude.{Contains, reverse}
use Rattle.std.proofs.Math.Seq.{drop-cons}
use Rattle.std.proofs.lemmas.Int.{ints}
use Rattle.std.proofs.lemmas.List.{append_assoc, append-nil, map-append, length-append, length-reverse, reverse-append, reverse-reverse, take_more, take-append-drop, length-take-le, length-drop}
use Rattle.std.proofs.lemmas.List.Elements.{All-weaker, Contains-append_left, Contains-append_right, Contains-append_cases}
use Rattle.std.specs.List.Sorted.{IsPermutation}
use Rattle.std.proofs.lemmas.List.Sorted.{Contains-permutation, IsPermutation-reverse}
use Rattle.polygon_laws.specs.Areas as area
use Rattle.polygon_laws.proofs.AreaLemmas.{area_of_turn, area_of_reverse, area_of_bridged}
use Rattle.triangulation.specs.declared.points.Point.{Point}
use Rattle.triangulation.specs.declared.points.Triangle.{Triangle}
use Rattle.triangulation.specs.Triangulations.{coordinates, polygon_area, IsTriangleOf, IsTriangulation}
use Rattle.triangulation.specs.Polygons.{corners_of, ring_area, rings_area, signed_areas, turned_area, TurnsTo, IsTurnedTo, AreClockwise, IsBridged, AreJoined, IsJoinedRing, IsPolygonTriangulation}
use Rattle.triangulation.specs.declared.joining.Turn.{Turn}
use Rattle.triangulation.specs.declared.joining.Turn.TheVariants as turn

-- Each corner of the first list is one of the second.
abbrev pub IsWithin : List Point → List Point → Type 0
IsWithin xs ys = (p : Point) → Contains xs p → Contains ys p

both_within : (xs ys zs : List Point) → IsWithin xs zs → IsWithin ys zs → IsWithin (xs ++ ys) zs
both_within xs ys zs one two p has = ⊎_elim (one p) (two p) (Contains-append_cases xs ys p has)

take_within : (n : ℕ) (xs : List Point) → IsWithin (take n xs) xs
take_within n xs p has = subst (λ (l : List Point). Contains l p) (take-append-drop n xs) (Contains-append_left (take n xs) (drop n xs) p has)

drop_within : (n : ℕ) (xs : List Point) → IsWithin (drop n xs) xs
drop_within n xs p has = subst (λ (l : List Point). Contains l p) (take-append-drop n xs) (Contains-append_right (take n xs) (drop n xs) p has)

in_left : (xs ys zs : List Point) → IsWithin xs ys → IsWithin xs (ys ++ zs)
in_left xs ys zs is p has = Contains-append_left ys zs p (is p has)

in_right : (xs ys zs : List Point) → IsWithin xs zs → IsWithin xs (ys ++ zs)
in_right xs ys zs is p has = Contains-append_right ys zs p (is p has)

turned_area_same : (xs ys : List Point) → polygon_area (xs ++ ys) ≡ polygon_area (ys ++ xs)
turned_area_same xs ys = ap area.double_area (map-append coordinates xs ys) ∙ (area_of_turn (map coordinates xs) (map coordinates ys) ∙ ap area.double_area (sym (map-append coordinates ys xs)))

bridge_area : (x y : Point) (ps qs : List Point) → polygon_area (((x ∷ ps) ++ (x ∷ y ∷ qs)) ++ y ∷ []) ≡ polygon_area (x ∷ ps) +ℤ polygon_area (y ∷ qs)
bridge_area x y ps qs =
    ap area.double_area (map-append coordinates ((x ∷ ps) ++ (x ∷ y ∷ qs)) (y ∷ []) ∙ ap (λ (l : List area.Point). l ++ coordinates y ∷ []) (map-append coordinates (x ∷ ps) (x ∷ y ∷ qs)))
    ∙ area_of_bridged (coordinates x) (coordinates y) (map coordinates ps) (map coordinates qs)

both_areas : (a b c d : List Point) (x y : Point) → polygon_area ((((a ++ x ∷ []) ++ (y ∷ d)) ++ (c ++ y ∷ [])) ++ (x ∷ b)) ≡ polygon_area (a ++ x ∷ b) +ℤ polygon_area (c ++ y ∷ d)
both_areas a b c d x y =
    let turned = turned_area_same (((a ++ x ∷ []) ++ (y ∷ d)) ++ (c ++ y ∷ [])) (x ∷ b) in
    let same : (x ∷ b) ++ (((a ++ x ∷ []) ++ (y ∷ d)) ++ (c ++ y ∷ [])) ≡ ((x ∷ (b ++ a)) ++ (x ∷ y ∷ (d ++ c))) ++ y ∷ [] = simp append_assoc refl in
    let outline : polygon_area (x ∷ (b ++ a)) ≡ polygon_area (a ++ x ∷ b) = turned_area_same (x ∷ b) a in
    let hole : polygon_area (y ∷ (d ++ c)) ≡ polygon_area (c ++ y ∷ d) = turned_area_same (y ∷ d) c in
    turned ∙ (ap polygon_area same ∙ (bridge_area x y (b ++ a) (d ++ c) ∙ (ap (λ (z : ℤ). z +ℤ polygon_area (y ∷ (d ++ c))) outline ∙ ap (λ (z : ℤ). polygon_area (a ++ x ∷ b) +ℤ z) hole)))

abbrev joined_of : List Point → List Point → List Point → List Point → List Point
joined_of a b c d = ((a ++ b) ++ c) ++ d

joined_same : {a b c d a2 b2 c2 d2 : List Point} → a ≡ a2 → b ≡ b2 → c ≡ c2 → d ≡ d2 → joined_of a b c d ≡ joined_of a2 b2 c2 d2
joined_same {a} {b} {c} {d} {a2} {b2} {c2} {d2} one two three four =
    ap (λ (l : List Point). joined_of l b c d) one ∙ (ap (λ (l : List Point). joined_of a2 l c d) two ∙ (ap (λ (l : List Point). joined_of a2 b2 l d) three ∙ ap (λ (l : List Point). joined_of a2 b2 c2 l) four))

split_at : (xs : List Point) (i : ℕ) (d : Point) → i < length xs → xs ≡ take i xs ++ get_or xs i d ∷ drop (suc i) xs
split_at xs i d less = sym (take-append-drop i xs) ∙ ap (λ (l : List Point). take i xs ++ l) (drop-cons xs i d less)

module _ (outline hole : List Point) (u v : ℕ) (origin : Point) (at_u : u < length outline) (at_v : v < length hole) where
  joined_area : polygon_area (joined_of (take (u + 1) outline) (drop v hole) (take (v + 1) hole) (drop u outline)) ≡ polygon_area outline +ℤ polygon_area hole
  joined_area =
      ap polygon_area (joined_same (take_more outline u origin at_u) (drop-cons hole v origin at_v) (take_more hole v origin at_v) (drop-cons outline u origin at_u))
      ∙ (both_areas (take u outline) (drop (suc u) outline) (take v hole) (drop (suc v) hole) (get_or outline u origin) (get_or hole v origin)
      ∙ (ap (λ (l : List Point). polygon_area l +ℤ polygon_area (take v hole ++ get_or hole v origin ∷ drop (suc v) hole)) (sym (split_at outline u origin at_u))
      ∙ ap (λ (l : List Point). polygon_area outline +ℤ polygon_area l) (sym (split_at hole v origin at_v))))

  pub bridge_made : (joined : List Point) → joined ≡ joined_of (take (u + 1) outline) (drop v hole) (take (v + 1) hole) (drop u outline) → IsBridged outline hole joined
  bridge_made joined is = record {
    number = omega (
      arith,
      ap length is,
      length-append ((take (u + 1) outline ++ drop v hole) ++ take (v + 1) hole) (drop u outline),
      length-append (take (u + 1) outline ++ drop v hole) (take (v + 1) hole),
      length-append (take (u + 1) outline) (drop v hole),
      length-take-le (u + 1) outline (omega (arith, at_u)),
      length-take-le (v + 1) hole (omega (arith, at_v)),
      length-drop u outline,
      length-drop v hole,
      at_u,
      at_v,
    );
    area = ap polygon_area is ∙ joined_area;
    among = λ p has. both_within ((take (u + 1) outline ++ drop v hole) ++ take (v + 1) hole) (drop u outline) (outline ++ hole)
        (both_within (take (u + 1) outline ++ drop v hole) (take (v + 1) hole) (outline ++ hole)
        (both_within (take (u + 1) outline) (drop v hole) (outline ++ hole)
        (in_left _ outline hole (take_within (u + 1) outline)) (in_right _ outline hole (drop_within v hole)))
        (in_right _ outline hole (take_within (v + 1) hole)))
        (in_left _ outline hole (drop_within u outline)) p (subst (λ (l : List Point). Contains l p) is has);
  }

corners_append : (xs ys : List (List Point)) → corners_of (xs ++ ys) ≡ corners_of xs ++ corners_of ys
corners_append [] ys = refl
corners_append (x ∷ xs) ys = ap (λ (l : List Point). x ++ l) (corners_append xs ys) ∙ sym (append_assoc x (corners_of xs) (corners_of ys))

signed_append : (xs ys : List (List Point)) → signed_areas (xs ++ ys) ≡ signed_areas xs +ℤ signed_areas ys
signed_append [] ys = zero_plus (signed_areas ys)
  where
    zero_plus : (z : ℤ) → z ≡ pos 0 +ℤ z
    zero_plus z = omega (arith, ints)
signed_append (x ∷ xs) ys = grouped (polygon_area x) (signed_areas (xs ++ ys)) (signed_areas xs) (signed_areas ys) (signed_append xs ys)
  where
    grouped : (a w y z : ℤ) → w ≡ y +ℤ z → a +ℤ w ≡ (a +ℤ y) +ℤ z
    grouped a w y z is = omega (arith, ints, is)

rings_append : (xs ys : List (List Point)) → rings_area (xs ++ ys) ≡ rings_area xs + rings_area ys
rings_append [] ys = omega arith
rings_append (x ∷ xs) ys = let rest = rings_append xs ys in omega (arith, rest)

one_ring : (r : List Point) → corners_of (r ∷ []) ≡ r
one_ring r = append-nil r

pub join_starts : (outline : List Point) → AreJoined outline [] outline
join_starts outline = record {
  number = omega (arith, ap length (append-nil outline));
  area = plus_zero (polygon_area outline);
  among = λ p has. Contains-append_left outline [] p has;
}
  where
    plus_zero : (z : ℤ) → z ≡ z +ℤ pos 0
    plus_zero z = omega (arith, ints)

pub join_more : (outline : List Point) (holes : List (List Point)) (joined hole more : List Point) → AreJoined outline holes joined → IsBridged joined hole more → AreJoined outline (holes ++ hole ∷ []) more
join_more outline holes joined hole more are is = record {
  number = omega (arith, is.number, are.number, length-append outline (corners_of holes), length-append outline (corners_of (holes ++ hole ∷ [])), ap length corners, length-append (corners_of holes) hole, length-append holes (hole ∷ []));
  area = added (polygon_area more) (polygon_area joined) (polygon_area hole) (polygon_area outline) (signed_areas holes) (signed_areas (holes ++ hole ∷ [])) is.area are.area (signed_append holes (hole ∷ []));
  among = λ p has. both_within joined hole (outline ++ corners_of (holes ++ hole ∷ []))
      (λ q in_joined. subst (λ (l : List Point). Contains (outline ++ l) q) (sym corners) (both_within outline (corners_of holes) (outline ++ (corners_of holes ++ hole))
      (λ r one. Contains-append_left outline (corners_of holes ++ hole) r one)
      (λ r two. Contains-append_right outline (corners_of holes ++ hole) r (Contains-append_left (corners_of holes) hole r two)) q (are.among q in_joined)))
      (λ q in_hole. subst (λ (l : List Point). Contains (outline ++ l) q) (sym corners) (Contains-append_right outline (corners_of holes ++ hole) q (Contains-append_right (corners_of holes) hole q in_hole)))
      p (is.among p has);
}
  where
    corners : corners_of (holes ++ hole ∷ []) ≡ corners_of holes ++ hole
    corners = corners_append holes (hole ∷ []) ∙ ap (λ (l : List Point). corners_of holes ++ l) (one_ring hole)

    added : (m j h o s t : ℤ) → m ≡ j +ℤ h → j ≡ o +ℤ s → t ≡ s +ℤ (h +ℤ pos 0) → m ≡ o +ℤ t
    added m j h o s t one two three = omega (arith, ints, one, two, three)

pub clockwise_starts : AreClockwise [] []
clockwise_starts = record { number = refl; corners = refl; area = refl; among = λ p has. has }

pub clockwise_more : (holes turned : List (List Point)) (k : ℕ) (hole ring : List Point) → AreClockwise holes turned → IsTurnedTo turn.Clockwise hole ring → AreClockwise (holes ++ hole ∷ []) (take k turned ++ ring ∷ drop k turned)
clockwise_more holes turned k hole ring are is = record {
  number = omega (arith, are.number, length-append (take k turned) (ring ∷ drop k turned), length-append (take k turned) (drop k turned), ap length whole, length-append holes (hole ∷ []));
  corners = omega (
    arith,
    are.corners,
    is.number,
    ap length before,
    ap length after,
    ap (λ (l : List (List Point)). length (corners_of l)) whole,
    ap length (corners_append (take k turned) (drop k turned)),
    length-append (corners_of (take k turned)) (ring ++ corners_of (drop k turned)),
    length-append ring (corners_of (drop k turned)),
    length-append (corners_of (take k turned)) (corners_of (drop k turned)),
    length-append (corners_of holes) hole,
  );
  area = summed (signed_areas (take k turned ++ ring ∷ drop k turned)) (signed_areas (take k turned)) (polygon_area ring) (signed_areas (drop k turned)) (signed_areas turned) (rings_area holes) (ring_area hole) (rings_area (holes ++ hole ∷ []))
      (signed_append (take k turned) (ring ∷ drop k turned)) (sym (ap signed_areas whole) ∙ signed_append (take k turned) (drop k turned)) are.area is.area (rings_append holes (hole ∷ []));
  among = λ p has. subst (λ (l : List Point). Contains l p) (sym before) (both_within (corners_of (take k turned)) (ring ++ corners_of (drop k turned)) (corners_of holes ++ hole)
      (λ q one. Contains-append_left (corners_of holes) hole q (are.among q (subst (λ (l : List Point). Contains l q) parts (Contains-append_left (corners_of (take k turned)) (corners_of (drop k turned)) q one))))
      (both_within ring (corners_of (drop k turned)) (corners_of holes ++ hole)
      (λ q two. Contains-append_right (corners_of holes) hole q (is.among q two))
      (λ q three. Contains-append_left (corners_of holes) hole q (are.among q (subst (λ (l : List Point). Contains l q) parts (Contains-append_right (corners_of (take k turned)) (corners_of (drop k turned)) q three)))))
      p (subst (λ (l : List Point). Contains l p) after has));
}
  where
    whole : take k turned ++ drop k turned ≡ turned
    whole = take-append-drop k turned

    parts : corners_of (take k turned) ++ corners_of (drop k turned) ≡ corners_of turned
    parts = sym (corners_append (take k turned) (drop k turned)) ∙ ap corners_of whole

    before : corners_of (holes ++ hole ∷ []) ≡ corners_of holes ++ hole
    before = corners_append holes (hole ∷ []) ∙ ap (λ (l : List Point). corners_of holes ++ l) (one_ring hole)

    after : corners_of (take k turned ++ ring ∷ drop k turned) ≡ corners_of (take k turned) ++ (ring ++ corners_of (drop k turned))
    after = corners_append (take k turned) (ring ∷ drop k turned)

    summed : (all t r d w : ℤ) (hs h more : ℕ) → all ≡ t +ℤ (r +ℤ d) → w ≡ t +ℤ d → w ≡ neg_ℤ (pos hs) → r ≡ neg_ℤ (pos h) → more ≡ hs + (h + 0) → all ≡ neg_ℤ (pos more)
    summed all t r d w hs h more one two three four five = omega (arith, ints, one, two, three, four, five)

pub ring_joined : (outline around : List Point) (holes turned : List (List Point)) (joined : List Point) → IsTurnedTo turn.Counterclockwise outline around → AreClockwise holes turned → AreJoined around turned joined → IsJoinedRing outline holes joined
ring_joined outline around holes turned joined is are all = record {
  number = omega (arith, all.number, is.number, are.number, are.corners, length-append around (corners_of turned), length-append outline (corners_of holes));
  area = less (polygon_area joined) (polygon_area around) (signed_areas turned) (ring_area outline) (rings_area holes) all.area is.area are.area;
  among = λ p has. both_within around (corners_of turned) (outline ++ corners_of holes)
      (λ q one. Contains-append_left outline (corners_of holes) q (is.among q one))
      (λ q two. Contains-append_right outline (corners_of holes) q (are.among q two)) p (all.among p has);
}
  where
    less : (j a s : ℤ) (o h : ℕ) → j ≡ a +ℤ s → a ≡ pos o → s ≡ neg_ℤ (pos h) → j ≡ pos o +ℤ neg_ℤ (pos h)
    less j a s o h one two three = omega (arith, ints, one, two, three)

keeps_sign : (z : ℤ) → pos 0 ≤ℤ z → z ≡ pos (unsigned_abs z)
keeps_sign z is = omega (arith, ints, is)

changes_sign : (z : ℤ) → z ≤ℤ pos 0 → z ≡ neg_ℤ (pos (unsigned_abs z))
changes_sign z is = omega (arith, ints, is)

same_size : (z : ℤ) → unsigned_abs (neg_ℤ z) ≡ unsigned_abs z
same_size z = omega (arith, ints)

area_towards : (t : Turn) (ring : List Point) (z : ℤ) → TurnsTo t z → unsigned_abs z ≡ ring_area ring → z ≡ turned_area t ring
area_towards turn.Counterclockwise ring z is size = keeps_sign z is ∙ ap pos size
area_towards turn.Clockwise ring z is size = changes_sign z is ∙ ap (λ (n : ℕ). neg_ℤ (pos n)) size

pub turned_is : (t : Turn) (ring turned : List Point) → TurnsTo t (polygon_area ring) → turned ≡ ring → IsTurnedTo t ring turned
turned_is t ring turned is same = record {
  number = ap length same;
  area = ap polygon_area same ∙ area_towards t ring (polygon_area ring) is refl;
  among = λ p has. subst (λ (l : List Point). Contains l p) same has;
}

map_reverse : (xs : List Point) → map coordinates (reverse xs) ≡ reverse (map coordinates xs)
map_reverse [] = refl
map_reverse (x ∷ xs) = ap (map coordinates) (reverse-append (x ∷ []) xs) ∙ (map-append coordinates (reverse xs) (x ∷ []) ∙ (ap (λ (l : List area.Point). l ++ coordinates x ∷ []) (map_reverse xs) ∙ sym (reverse-append (coordinates x ∷ []) (map coordinates xs))))

reverse_within : (xs : List Point) → IsWithin (reverse xs) xs
reverse_within xs p has = Contains-permutation (reverse xs) xs p (subst (λ (l : List Point). IsPermutation (reverse xs) l) (reverse-reverse xs) (IsPermutation-reverse (reverse xs))) has

pub reversed_is : (t : Turn) (ring turned : List Point) → TurnsTo t (neg_ℤ (polygon_area ring)) → turned ≡ reverse ring → IsTurnedTo t ring turned
reversed_is t ring turned is same = record {
  number = ap length same ∙ length-reverse ring;
  area = ap polygon_area same ∙ (ap area.double_area (map_reverse ring) ∙ (area_of_reverse (map coordinates ring) ∙ area_towards t ring (neg_ℤ (polygon_area ring)) is (same_size (polygon_area ring))));
  among = λ p has. reverse_within ring p (subst (λ (l : List Point). Contains l p) same has);
}

pub polygon_triangulated : (outline : List Point) (holes : List (List Point)) (joined : List Point) (triangles : List Triangle) → IsJoinedRing outline holes joined → IsTriangulation joined triangles → IsPolygonTriangulation outline holes triangles
polygon_triangulated outline holes joined triangles ring is = record {
  number = omega (arith, ring.number, is.number);
  each = All-weaker (IsTriangleOf joined) (IsTriangleOf (corners_of (outline ∷ holes))) (λ t of. record { first = ring.among t.a of.first; second = ring.among t.b of.second; third = ring.among t.c of.third; positive = of.positive }) triangles is.each;
  areas = is.areas ∙ ring.area;
  ears = (joined, ring, is.ears);
}
