-- The number of crossings of a ring is unique.
use Rattle.std.proofs.Common.{◌≡◌, ℕ, ◌+◌, ◌*◌, ◌/◌, ◌%◌, nat_eq, IsTrue, IsFalse, inl, inr, List, [], ◌∷◌, sym, ap, ◌∙◌, subst, arith, rules}
use Rattle.std.specs.Prelude.{◌↔◌}
use Rattle.std.proofs.lemmas.Bool.{true_from_ne_false, false_from_ne_true}
use Rattle.triangulation.specs.declared.points.Point.{Point}
use Rattle.triangulation.specs.Polygons.{IsAround, IsCrossing, HasCrossings, IsInside, IsOutside}
use Rattle.triangulation.proofs.MeetingLemmas.{end_of, end_of-push}

crossing_once : (p a b : Point) (m n : ℕ) → IsCrossing p a b m → IsCrossing p a b n → m ≡ n
crossing_once p a b m n (inl one) (inl other) = one.1 ∙ sym other.1
crossing_once p a b m n (inl one) (inr other) = absurd (other.0 one.0)
crossing_once p a b m n (inr one) (inl other) = absurd (one.0 other.0)
crossing_once p a b m n (inr one) (inr other) = one.1 ∙ sym other.1

crossings_once : (p : Point) (path : List Point) (m n : ℕ) → HasCrossings p path m → HasCrossings p path n → m ≡ n
crossings_once p [] m n one other = one ∙ sym other
crossings_once p (a ∷ []) m n one other = one ∙ sym other
crossings_once p (a ∷ b ∷ path) m n one other =
    let first = crossing_once p a b one.0 other.0 one.2 other.2 in
    let rest = crossings_once p (b ∷ path) one.1 other.1 one.3 other.3 in
    omega (arith, first, rest, one.4, other.4)

path_once : (ring one other : List Point) → IsAround ring one → IsAround ring other → one ≡ other
path_once ring one other is are =
    let first = sym (end_of-push is.front is.last) ∙ ap end_of (sym is.corners) in
    let second = sym (end_of-push are.front are.last) ∙ ap end_of (sym are.corners) in
    is.whole ∙ (ap (λ (p : Point). p ∷ ring) (first ∙ sym second) ∙ sym are.whole)

not_both : (p : Point) (ring : List Point) → IsInside p ring → IsOutside p ring → ⊥
not_both p ring inside outside =
    let same = path_once ring outside.path inside.path outside.around inside.around in
    let numbers = crossings_once p inside.path (2 * inside.half + 1) (2 * outside.half) inside.crossings (subst (λ (l : List Point). HasCrossings p l (2 * outside.half)) same outside.crossings) in
    omega (arith, numbers)

module _ (p : Point) (ring : List Point) (n : ℕ) (has : (path : List Point) × IsAround ring path × HasCrossings p path n) where
  inside_of : IsTrue (nat_eq (n % 2) 1) → IsInside p ring
  inside_of is =
      let one : n % 2 ≡ 1 = search rules in
      let odd : n ≡ 2 * (n / 2) + 1 = omega (arith, one) in
      record { path = has.0; around = has.1; half = n / 2; crossings = subst (λ (m : ℕ). HasCrossings p has.0 m) odd has.2 }

  outside_of : IsFalse (nat_eq (n % 2) 1) → IsOutside p ring
  outside_of is =
      let even : n ≡ 2 * (n / 2) = grind arith in
      record { path = has.0; around = has.1; half = n / 2; crossings = subst (λ (m : ℕ). HasCrossings p has.0 m) even has.2 }

  pub inside_if_odd : IsTrue (nat_eq (n % 2) 1) ↔ IsInside p ring
  inside_if_odd = (inside_of, λ inside. true_from_ne_false (nat_eq (n % 2) 1) (λ false. not_both p ring inside (outside_of false)))

  pub outside_if_even : IsFalse (nat_eq (n % 2) 1) ↔ IsOutside p ring
  outside_if_even = (outside_of, λ outside. false_from_ne_true (nat_eq (n % 2) 1) (λ true. not_both p ring (inside_of true) outside))
