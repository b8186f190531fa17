-- Paths along the edges of a ring.
use Rattle.std.proofs.Common.{◌≡◌, ℕ, ◌+◌, ◌-◌, ◌<◌, ◌≤◌, ℤ, pos, ◌+ℤ◌, suc, List, [], ◌∷◌, ◌++◌, map, length, take, drop, get_or, refl, sym, ap, ◌∙◌, subst, arith}
use Rattle.std.proofs.Math.Seq.{take-length, drop-cons}
use Rattle.std.proofs.lemmas.List.{append_assoc, map-append, take_more, take-append-drop, take_all}
use Rattle.std.proofs.lemmas.Int.{ints}
use Rattle.polygon_laws.specs.Areas as area
use Rattle.polygon_laws.proofs.AreaLemmas.{path_split, area_of_turn}
use Rattle.triangulation.specs.declared.points.Point.{Point}
use Rattle.triangulation.specs.Triangulations.{coordinates, polygon_area}
use Rattle.triangulation.specs.Polygons.{IsAround, IsEdgeOf, IsCrossing, HasCrossings}

abbrev pub origin : Point
origin = record { x = pos 0; y = pos 0 }

-- After so many corners of the ring, the path has reached the corner `at`.
pub record IsPathTo (ring : List Point) (at : Point) (i : ℕ) : Type 0 where
  pub start : List Point
  pub last : Point
  pub corners : ring ≡ start ++ last ∷ []
  pub front : List Point
  pub whole : last ∷ take i ring ≡ front ++ at ∷ []

pub path_starts : (ring : List Point) (at : Point) → 0 < length ring → at ≡ get_or ring (length ring - 1) origin → IsPathTo ring at 0
path_starts ring at some is = record {
  start = take (length ring - 1) ring;
  last = at;
  corners = sym (take-length ring) ∙ (ap (λ (n : ℕ). take n ring) (omega (arith, some)) ∙ (take_more ring (length ring - 1) origin (omega (arith, some)) ∙ ap (λ (p : Point). take (length ring - 1) ring ++ p ∷ []) (sym is)));
  front = [];
  whole = refl;
}

module _ (ring : List Point) (at : Point) (i : ℕ) (is : IsPathTo ring at i) (more : i < length ring) where
  pub path_more : IsPathTo ring (get_or ring i origin) (i + 1)
  path_more = record {
    start = is.start;
    last = is.last;
    corners = is.corners;
    front = is.front ++ at ∷ [];
    whole = ap (λ (l : List Point). is.last ∷ l) (take_more ring i origin more) ∙ ap (λ (l : List Point). l ++ get_or ring i origin ∷ []) is.whole;
  }

  pub path_edge : IsEdgeOf at (get_or ring i origin) ring
  path_edge = record {
    path = is.last ∷ ring;
    around = record { front = is.start; last = is.last; corners = is.corners; whole = refl };
    before = is.front;
    after = drop (suc i) ring;
    edge = ap (λ (l : List Point). is.last ∷ l) (sym (take-append-drop i ring) ∙ ap (λ (l : List Point). take i ring ++ l) (drop-cons ring i origin more))
        ∙ (ap (λ (l : List Point). l ++ (get_or ring i origin ∷ drop (suc i) ring)) is.whole ∙ append_assoc is.front (at ∷ []) (get_or ring i origin ∷ drop (suc i) ring));
  }

  path_longer : (F : List Point → ℤ) → F ((is.front ++ at ∷ []) ++ get_or ring i origin ∷ []) ≡ F (is.last ∷ take (i + 1) ring)
  path_longer F = ap F (ap (λ (l : List Point). l ++ get_or ring i origin ∷ []) (sym is.whole) ∙ ap (λ (l : List Point). is.last ∷ l) (sym (take_more ring i origin more)))

pub record HasPathArea (ring : List Point) (at : Point) (i : ℕ) (sum : ℤ) : Type 0 where
  pub path : IsPathTo ring at i
  pub total : sum ≡ area.path_area (map coordinates (path.last ∷ take i ring))

pub area_starts : (ring : List Point) (at : Point) → 0 < length ring → at ≡ get_or ring (length ring - 1) origin → HasPathArea ring at 0 (pos 0)
area_starts ring at some is = record { path = path_starts ring at some is; total = refl }

pub area_more : (ring : List Point) (at : Point) (i : ℕ) (sum edge : ℤ) → HasPathArea ring at i sum → i < length ring → edge ≡ area.edge_area (coordinates at) (coordinates (get_or ring i origin)) → HasPathArea ring (get_or ring i origin) (i + 1) (sum +ℤ edge)
unfolding path_more
area_more ring at i sum edge has more is = record { path = path_more ring at i has.path more; total = all }
  where
    parts : area.path_area (map coordinates ((has.path.front ++ at ∷ []) ++ get_or ring i origin ∷ [])) ≡ area.path_area (map coordinates (has.path.front ++ at ∷ [])) +ℤ area.edge_area (coordinates at) (coordinates (get_or ring i origin))
    parts =
        let split = path_split (map coordinates has.path.front) (coordinates at) (coordinates (get_or ring i origin) ∷ []) in
        let whole : area.path_area (map coordinates ((has.path.front ++ at ∷ []) ++ get_or ring i origin ∷ [])) ≡ area.path_area (map coordinates has.path.front ++ coordinates at ∷ coordinates (get_or ring i origin) ∷ []) =
        ap (λ (l : List Point). area.path_area (map coordinates l)) (append_assoc has.path.front (at ∷ []) (get_or ring i origin ∷ [])) ∙ ap area.path_area (map-append coordinates has.path.front (at ∷ get_or ring i origin ∷ [])) in
        let first : area.path_area (map coordinates (has.path.front ++ at ∷ [])) ≡ area.path_area (map coordinates has.path.front ++ coordinates at ∷ []) = ap area.path_area (map-append coordinates has.path.front (at ∷ [])) in
        omega (arith, ints, split, whole, first)

    so_far : sum ≡ area.path_area (map coordinates (has.path.front ++ at ∷ []))
    so_far = has.total ∙ ap (λ (l : List Point). area.path_area (map coordinates l)) has.path.whole

    summed : (s e t f w : ℤ) → s ≡ t → e ≡ f → w ≡ t +ℤ f → s +ℤ e ≡ w
    summed s e t f w one two three = omega (arith, ints, one, two, three)

    all : sum +ℤ edge ≡ area.path_area (map coordinates (has.path.last ∷ take (i + 1) ring))
    all = summed sum edge _ _ _ so_far is parts ∙ path_longer ring at i has.path more (λ (l : List Point). area.path_area (map coordinates l))

pub area_ends : (ring : List Point) (at : Point) (i : ℕ) (sum : ℤ) → HasPathArea ring at i sum → length ring ≤ i → sum ≡ polygon_area ring
area_ends ring at i sum has end = has.total ∙ (ap (λ (l : List Point). area.path_area (map coordinates (has.path.last ∷ l))) (take_all i ring end ∙ has.path.corners) ∙ (turned ∙ ap polygon_area (sym has.path.corners)))
  where
    turned : area.path_area (map coordinates (has.path.last ∷ (has.path.start ++ has.path.last ∷ []))) ≡ polygon_area (has.path.start ++ has.path.last ∷ [])
    turned = ap (λ (l : List area.Point). area.path_area (coordinates has.path.last ∷ l)) (map-append coordinates has.path.start (has.path.last ∷ []))
        ∙ (area_of_turn (coordinates has.path.last ∷ []) (map coordinates has.path.start)
        ∙ ap area.double_area (sym (map-append coordinates has.path.start (has.path.last ∷ []))))

crossings_grow : (p : Point) (front : List Point) (a b : Point) (n k : ℕ) → HasCrossings p (front ++ a ∷ []) n → IsCrossing p a b k → HasCrossings p (front ++ a ∷ b ∷ []) (n + k)
crossings_grow p [] a b n k has is = (k, 0, is, refl, omega (arith, has))
crossings_grow p (x ∷ []) a b n k has is = (has.0, has.1 + k, has.2, crossings_grow p [] a b has.1 k has.3 is, omega (arith, has.4))
crossings_grow p (x ∷ y ∷ front) a b n k has is = (has.0, has.1 + k, has.2, crossings_grow p (y ∷ front) a b has.1 k has.3 is, omega (arith, has.4))

pub record HasPathCrossings (p : Point) (ring : List Point) (at : Point) (i n : ℕ) : Type 0 where
  pub path : IsPathTo ring at i
  pub number : HasCrossings p (path.last ∷ take i ring) n

pub crossings_start : (p : Point) (ring : List Point) (at : Point) → 0 < length ring → at ≡ get_or ring (length ring - 1) origin → HasPathCrossings p ring at 0 0
crossings_start p ring at some is = record { path = path_starts ring at some is; number = refl }

pub crossings_more : (p : Point) (ring : List Point) (at : Point) (i n k : ℕ) → HasPathCrossings p ring at i n → i < length ring → IsCrossing p at (get_or ring i origin) k → HasPathCrossings p ring (get_or ring i origin) (i + 1) (n + k)
unfolding path_more
crossings_more p ring at i n k has more is = record {
  path = path_more ring at i has.path more;
  number = subst (λ (l : List Point). HasCrossings p l (n + k))
      (sym (append_assoc has.path.front (at ∷ []) (get_or ring i origin ∷ [])) ∙ (ap (λ (l : List Point). l ++ get_or ring i origin ∷ []) (sym has.path.whole) ∙ ap (λ (l : List Point). has.path.last ∷ l) (sym (take_more ring i origin more))))
      (crossings_grow p has.path.front at (get_or ring i origin) n k (subst (λ (l : List Point). HasCrossings p l n) has.path.whole has.number) is);
}

pub crossings_end : (p : Point) (ring : List Point) (at : Point) (i n : ℕ) → HasPathCrossings p ring at i n → length ring ≤ i → (path : List Point) × IsAround ring path × HasCrossings p path n
crossings_end p ring at i n has end = (has.path.last ∷ ring, record { front = has.path.start; last = has.path.last; corners = has.path.corners; whole = refl }, subst (λ (l : List Point). HasCrossings p (has.path.last ∷ l) n) (take_all i ring end) has.number)
