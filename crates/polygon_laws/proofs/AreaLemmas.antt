-- Signed areas of paths and polygons.
use Rattle.std.proofs.Common.{◌≡◌, ℕ, zero, suc, ℤ, pos, negsuc, neg_ℤ, ◌+ℤ◌, ◌-ℤ◌, ◌*ℤ◌, List, [], ◌∷◌, ◌++◌, refl, sym, ap, ◌∙◌, arith}
use Rattle.std.specs.Prelude.{reverse}
use Rattle.std.proofs.lemmas.List.{append-nil, append_assoc, reverse-append}
use Rattle.std.proofs.Math.IntN.{suc_ℤ, pred_ℤ, suc_ℤ-*ℤ, pred_ℤ-*ℤ, suc_ℤ-+ℤ, pred_ℤ-+ℤ, zero-*ℤ, +ℤ_idl, -ℤ-+ℤ_cancel, *ℤ_comm}
use Rattle.std.proofs.lemmas.Int.{ints}
use Rattle.polygon_laws.specs.Areas.{Point, edge_area, path_area, double_area, AreaIsZeroWithoutEdges, TriangleIsOriented, AreaIsThatOfAnyTurn, ReversalNegatesArea, DiagonalSplitsArea, EarSplitsArea, BridgeAddsAreas}

pub path_split : (ps : List Point) (p : Point) (qs : List Point) → path_area (ps ++ p ∷ qs) ≡ path_area (ps ++ p ∷ []) +ℤ path_area (p ∷ qs)
path_split [] p qs = omega (arith, ints)
path_split (o ∷ []) p qs = omega (arith, ints)
path_split (o ∷ n ∷ ps) p qs = let rest = path_split (n ∷ ps) p qs in omega (arith, ints, rest)

edge_back : (p q : Point) → edge_area q p ≡ neg_ℤ (edge_area p q)
edge_back p q = omega (arith, ints)

reverse_first : (p : Point) (ps : List Point) → reverse (p ∷ ps) ≡ reverse ps ++ p ∷ []
reverse_first p ps = reverse-append (p ∷ []) ps

path_back : (ps : List Point) → path_area (reverse ps) ≡ neg_ℤ (path_area ps)
path_back [] = refl
path_back (p ∷ []) = refl
path_back (p ∷ q ∷ ps) =
    let rest = path_back (q ∷ ps) in
    let first : reverse (p ∷ q ∷ ps) ≡ (reverse ps ++ q ∷ []) ++ p ∷ [] = reverse_first p (q ∷ ps) ∙ ap (λ (qs : List Point). qs ++ p ∷ []) (reverse_first q ps) in
    let parts : path_area (reverse (p ∷ q ∷ ps)) ≡ path_area (reverse ps ++ q ∷ p ∷ []) = ap path_area (first ∙ append_assoc (reverse ps) (q ∷ []) (p ∷ [])) in
    let before : path_area (reverse (q ∷ ps)) ≡ path_area (reverse ps ++ q ∷ []) = ap path_area (reverse_first q ps) in
    let split = path_split (reverse ps) q (p ∷ []) in
    let edge = edge_back p q in
    let all : path_area (reverse (p ∷ q ∷ ps)) ≡ neg_ℤ (edge_area p q +ℤ path_area (q ∷ ps)) = omega (arith, ints, rest, parts, before, split, edge) in
    all

pub area_of_edges : AreaIsZeroWithoutEdges
area_of_edges p q = (omega (arith, ints), omega (arith, ints))

count_times : (n : ℕ) (b c : ℤ) → (pos n +ℤ b) *ℤ c ≡ pos n *ℤ c +ℤ b *ℤ c
count_times zero b c = let none = zero-*ℤ c in let same : (pos 0 +ℤ b) *ℤ c ≡ b *ℤ c = ap (λ (k : ℤ). k *ℤ c) (+ℤ_idl b) in omega (arith, ints, none, same)
count_times (suc n) b c =
    let rest = count_times n b c in
    let one = suc_ℤ-*ℤ (pos n) c in
    let all : (suc_ℤ (pos n) +ℤ b) *ℤ c ≡ (pos n +ℤ b) *ℤ c +ℤ c = ap (λ (k : ℤ). k *ℤ c) (suc_ℤ-+ℤ (pos n) b) ∙ suc_ℤ-*ℤ (pos n +ℤ b) c in
    omega (arith, ints, rest, one, all)

one_less_times : (a b c : ℤ) → (a +ℤ b) *ℤ c ≡ a *ℤ c +ℤ b *ℤ c → (pred_ℤ a +ℤ b) *ℤ c ≡ pred_ℤ a *ℤ c +ℤ b *ℤ c
one_less_times a b c rest =
    let one = pred_ℤ-*ℤ a c in
    let all : (pred_ℤ a +ℤ b) *ℤ c ≡ (a +ℤ b) *ℤ c -ℤ c = ap (λ (k : ℤ). k *ℤ c) (pred_ℤ-+ℤ a b) ∙ pred_ℤ-*ℤ (a +ℤ b) c in
    omega (arith, ints, rest, one, all)

sum_times : (a b c : ℤ) → (a +ℤ b) *ℤ c ≡ a *ℤ c +ℤ b *ℤ c
sum_times (pos n) b c = count_times n b c
sum_times (negsuc zero) b c = one_less_times (pos 0) b c (count_times 0 b c)
sum_times (negsuc (suc n)) b c = one_less_times (negsuc n) b c (sum_times (negsuc n) b c)

difference_times : (a b c : ℤ) → (a -ℤ b) *ℤ c ≡ a *ℤ c -ℤ b *ℤ c
difference_times a b c =
    let parts = sum_times (a -ℤ b) b c in
    let whole : (a -ℤ b +ℤ b) *ℤ c ≡ a *ℤ c = ap (λ (k : ℤ). k *ℤ c) (-ℤ-+ℤ_cancel a b) in
    omega (arith, ints, parts, whole)

times_difference : (a b c : ℤ) → c *ℤ (a -ℤ b) ≡ c *ℤ a -ℤ c *ℤ b
times_difference a b c =
    let turned = difference_times a b c in
    let one = *ℤ_comm c (a -ℤ b) in
    let two = *ℤ_comm c a in
    let three = *ℤ_comm c b in
    omega (arith, ints, turned, one, two, three)

pub area_of_triangle : TriangleIsOriented
area_of_triangle p q r =
    let left = difference_times q.0 p.0 (r.1 -ℤ p.1) in
    let left_first = times_difference r.1 p.1 q.0 in
    let left_second = times_difference r.1 p.1 p.0 in
    let right = difference_times r.0 p.0 (q.1 -ℤ p.1) in
    let right_first = times_difference q.1 p.1 r.0 in
    let right_second = times_difference q.1 p.1 p.0 in
    omega (arith, ints, left, left_first, left_second, right, right_first, right_second)

turn_by_one : (p : Point) (ps : List Point) → double_area (ps ++ p ∷ []) ≡ double_area (p ∷ ps)
turn_by_one p [] = refl
turn_by_one p (q ∷ ps) =
    let parts : path_area (((q ∷ ps) ++ p ∷ []) ++ q ∷ []) ≡ path_area ((q ∷ ps) ++ p ∷ q ∷ []) = ap path_area (append_assoc (q ∷ ps) (p ∷ []) (q ∷ [])) in
    let split = path_split (q ∷ ps) p (q ∷ []) in
    omega (arith, ints, parts, split)

pub area_of_turn : AreaIsThatOfAnyTurn
area_of_turn [] qs = ap double_area (sym (append-nil qs))
area_of_turn (p ∷ ps) qs =
    sym (turn_by_one p (ps ++ qs))
    ∙ (ap double_area (append_assoc ps qs (p ∷ []))
    ∙ (area_of_turn ps (qs ++ p ∷ [])
    ∙ ap double_area (append_assoc qs (p ∷ []) ps)))

pub area_of_reverse : ReversalNegatesArea
area_of_reverse [] = refl
area_of_reverse (p ∷ ps) =
    let turned : double_area (reverse (p ∷ ps)) ≡ path_area (p ∷ (reverse ps ++ p ∷ [])) = ap double_area (reverse_first p ps) ∙ turn_by_one p (reverse ps) in
    let around : reverse (p ∷ (ps ++ p ∷ [])) ≡ p ∷ (reverse ps ++ p ∷ []) = reverse_first p (ps ++ p ∷ []) ∙ ap (λ (qs : List Point). qs ++ p ∷ []) (reverse-append ps (p ∷ [])) in
    turned ∙ (ap path_area (sym around) ∙ path_back (p ∷ (ps ++ p ∷ [])))

pub area_of_parts : DiagonalSplitsArea
area_of_parts u v ps qs =
    let whole : path_area ((u ∷ ps ++ v ∷ qs) ++ u ∷ []) ≡ path_area ((u ∷ ps) ++ ((v ∷ qs) ++ u ∷ [])) = ap path_area (append_assoc (u ∷ ps) (v ∷ qs) (u ∷ [])) in
    let split = path_split (u ∷ ps) v (qs ++ u ∷ []) in
    let first : path_area ((u ∷ ps ++ v ∷ []) ++ u ∷ []) ≡ path_area ((u ∷ ps) ++ v ∷ u ∷ []) = ap path_area (append_assoc (u ∷ ps) (v ∷ []) (u ∷ [])) in
    let there = path_split (u ∷ ps) v (u ∷ []) in
    let second : path_area ((v ∷ qs ++ u ∷ []) ++ v ∷ []) ≡ path_area ((v ∷ qs) ++ u ∷ v ∷ []) = ap path_area (append_assoc (v ∷ qs) (u ∷ []) (v ∷ [])) in
    let back = path_split (v ∷ qs) u (v ∷ []) in
    let edge = edge_back u v in
    omega (arith, ints, whole, split, first, there, second, back, edge)

pub area_of_ear : EarSplitsArea
area_of_ear o p q ps =
    let parts = area_of_parts o q (p ∷ []) ps in
    let turned = turn_by_one o (q ∷ ps) in
    omega (arith, ints, parts, turned)

pub area_of_bridged : BridgeAddsAreas
area_of_bridged u v ps qs =
    let back = (v ∷ []) ++ u ∷ [] in
    let one : ((u ∷ ps) ++ (u ∷ v ∷ qs) ++ (v ∷ [])) ++ u ∷ [] ≡ ((u ∷ ps) ++ (u ∷ v ∷ qs)) ++ back = append_assoc ((u ∷ ps) ++ (u ∷ v ∷ qs)) (v ∷ []) (u ∷ []) in
    let two : ((u ∷ ps) ++ (u ∷ v ∷ qs)) ++ back ≡ (u ∷ ps) ++ ((u ∷ v ∷ qs) ++ back) = append_assoc (u ∷ ps) (u ∷ v ∷ qs) back in
    let whole : path_area (((u ∷ ps) ++ (u ∷ v ∷ qs) ++ (v ∷ [])) ++ u ∷ []) ≡ path_area ((u ∷ ps) ++ ((u ∷ v ∷ qs) ++ back)) = ap path_area (one ∙ two) in
    let split = path_split (u ∷ ps) u ((v ∷ qs) ++ back) in
    let other = path_split (v ∷ qs) v (u ∷ []) in
    let edge = edge_back u v in
    omega (arith, ints, whole, split, other, edge)
