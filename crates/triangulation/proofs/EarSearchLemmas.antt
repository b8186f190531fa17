-- Searching a ring for an ear.
use Rattle.std.proofs.Common.{◌≡◌, ℕ, ◌+◌, ◌≤◌, ◌<◌, ⊎_elim, List, [], ◌∷◌, ◌++◌, length, take, drop, Option, None, Some, refl, sym, ap, ◌∙◌, subst, arith}
use Rattle.std.specs.Prelude.{IfNone}
use Rattle.std.proofs.Math.Seq.{take-append_seam, drop-append_seam}
use Rattle.std.proofs.lemmas.List.{map-append, append_assoc, length-append, length-map, take-map, drop-map}
use Rattle.std.proofs.lemmas.Bool.{cases_order}
use Rattle.chain_laws.specs.Chains.{LinkMap}
use Rattle.chain_laws.proofs.InterlinkLemmas.Inverses.{one_some}
use Rattle.arena_traits.specs.Arena.{IsValid}
use Rattle.arena_traits.specs.Entries.{ArenaView, ArenaState, count, first_key}
use Rattle.chain_lists.specs.Lists.{Item}
use Rattle.polygons.specs.Rings.{ReadsNextInRing}
use Rattle.triangulation.specs.declared.points.Point.{Point}
use Rattle.triangulation.specs.declared.points.Triangle.{Triangle}
use Rattle.triangulation.specs.Triangulations.{IsEar, BeginsWithEar, HasNoEar}
use Rattle.triangulation.specs.Clippings.{points, IsRingFrom, SeesNoEar}
use Rattle.triangulation.proofs.ReadingLemmas.{IsRead, read_starts, ring_here, next_key, next_exists, valid_here}

pub record IsReached {Gen : Type 0} (items : List (Item Gen Point)) (at : ℕ × Gen) (n : ℕ) : Type 0 where
  pub read : List Point
  pub place : IsRead items at read n

pub three_first : {Gen : Type 0} (Q : List (Item Gen Point) → Type 0) (items : List (Item Gen Point)) → Q items → BeginsWithEar (points items)
    → ((a m b : Item Gen Point) (rest : List (Item Gen Point)) → Q (a ∷ m ∷ b ∷ rest) → IsEar (record { a = a.1; b = m.1; c = b.1 }) (points rest) → ⊥) → ⊥
three_first Q [] holds ear never = ear
three_first Q (a ∷ []) holds ear never = ear
three_first Q (a ∷ m ∷ []) holds ear never = ear
three_first Q (a ∷ m ∷ b ∷ rest) holds ear never = never a m b rest holds ear

abbrev tail_of : {X : Type 0} → List X → List X
tail_of [] = []
tail_of (x ∷ xs) = xs

abbrev head_of : {X : Type 0} → List X → Option X
head_of [] = None
head_of (x ∷ xs) = Some x

module _ {A Gen : Type 0} {view : A → ArenaView Gen Point} {entry : A → ℕ → Option (Gen × Point)} (state : (a : A) → ArenaState (view a) (entry a)) (interlinks : A → LinkMap) where
  module _ (a : A) (start : ℕ × Gen) (items : List (Item Gen Point)) (from : IsRingFrom state interlinks a start items) where
    pub reach_starts : IsReached items start 0
    reach_starts = record { read = []; place = read_starts state interlinks a start items from [] refl }

    module _ (at : ℕ × Gen) (n : ℕ) (is : IsReached items at n) where
      pub valid_there : IsValid (entry a) at
      valid_there = valid_here state interlinks a start items from at is.read n is.place

      module _ {P : Type 0} (key : P → ℕ × Gen) (p : P) (same : key p ≡ at) (r : Option P) (reads : ReadsNextInRing state interlinks key a p r) where
        pub next_there : r ≡ None → ⊥
        next_there none = next_exists state interlinks a start items from at is.read n is.place key p same r reads none

        pub reach_next : (q : P) → r ≡ Some q → n + 1 < length items → IsReached items (key q) (n + 1)
        reach_next q got more = by is.place.rest is.place.split (next_key state interlinks a start items from at is.read n is.place key p same r reads q got)
          where
            by : (rest : List (Item Gen Point)) → items ≡ is.place.passed ++ is.place.here ∷ rest → Some (key q) ≡ first_key ((rest ++ is.place.passed) ++ is.place.here ∷ []) → IsReached items (key q) (n + 1)
            by [] split next = absurd (omega (arith, more, ap length split, length-append is.place.passed (is.place.here ∷ []), is.place.number))
            by (f ∷ fs) split next = record {
              read = is.read ++ is.place.here.1 ∷ [];
              place = record {
                passed = is.place.passed ++ is.place.here ∷ [];
                here = f;
                rest = fs;
                split = split ∙ sym (append_assoc is.place.passed (is.place.here ∷ []) (f ∷ fs));
                place = one_some next;
                values = ap (λ (l : List Point). l ++ is.place.here.1 ∷ []) is.place.values ∙ sym (map-append (λ (e : Item Gen Point). e.1) is.place.passed (is.place.here ∷ []));
                number = omega (arith, length-append is.place.passed (is.place.here ∷ []), is.place.number);
              };
            }

      pub none_there : count (view a) ≡ length items → SeesNoEar state interlinks a at → BeginsWithEar (points (drop n items ++ take n items)) → ⊥
      none_there alone sees ear = sees (is.place.here ∷ (is.place.rest ++ is.place.passed))
          (record { ring = ring_here state interlinks a start items from at is.read n is.place; first = ap Some (sym is.place.place) })
          (record { number = refl; alone = omega (arith, alone, ap length is.place.split, length-append is.place.passed (is.place.here ∷ is.place.rest), length-append is.place.rest is.place.passed) })
          (subst (λ (l : List (Item Gen Point)). BeginsWithEar (points l)) turned ear)
        where
          turned : drop n items ++ take n items ≡ is.place.here ∷ (is.place.rest ++ is.place.passed)
          turned = subst (λ (k : ℕ). drop k items ++ take k items ≡ is.place.here ∷ (is.place.rest ++ is.place.passed)) is.place.number
              (subst (λ (l : List (Item Gen Point)). drop (length is.place.passed) l ++ take (length is.place.passed) l ≡ is.place.here ∷ (is.place.rest ++ is.place.passed)) (sym is.place.split)
              (ap (λ (l : List (Item Gen Point)). l ++ take (length is.place.passed) (is.place.passed ++ is.place.here ∷ is.place.rest)) (drop-append_seam is.place.passed (is.place.here ∷ is.place.rest))
              ∙ ap (λ (l : List (Item Gen Point)). (is.place.here ∷ is.place.rest) ++ l) (take-append_seam is.place.passed (is.place.here ∷ is.place.rest))))

pub none_of_points : {Gen : Type 0} (items : List (Item Gen Point)) → ((n : ℕ) → n < length items → BeginsWithEar (points (drop n items ++ take n items)) → ⊥) → HasNoEar (points items)
none_of_points items none n less ear = none n (omega (arith, less, length-map items (λ (e : Item _ Point). e.1))) (subst BeginsWithEar same ear)
  where
    same : drop n (points items) ++ take n (points items) ≡ points (drop n items ++ take n items)
    same = ap (λ (l : List Point). l ++ take n (points items)) (drop-map (λ (e : Item _ Point). e.1) n items) ∙ (ap (λ (l : List Point). points (drop n items) ++ l) (take-map (λ (e : Item _ Point). e.1) n items)
        ∙ sym (map-append (λ (e : Item _ Point). e.1) (drop n items) (take n items)))

pub below_more : (N : ℕ → Type 0) (k : ℕ) → ((n : ℕ) → n < k → N n) → N k → (n : ℕ) → n < k + 1 → N n
below_more N k all one n less = ⊎_elim (λ same. subst N (sym same) one) (λ other. ⊎_elim (λ below. all n below) (λ above. absurd (omega (arith, above, less))) other) (cases_order n k)

pub if_none : {X : Type 0} (C : Type 0) (r : Option X) → C → IfNone r C
if_none C None holds = holds
if_none C (Some x) holds = tt

pub begins_long : {Gen : Type 0} (items : List (Item Gen Point)) → BeginsWithEar (points items) → 3 ≤ length items
begins_long [] ear = absurd ear
begins_long (a ∷ []) ear = absurd ear
begins_long (a ∷ m ∷ []) ear = absurd ear
begins_long (a ∷ m ∷ b ∷ rest) ear = omega arith

abbrev pub the_triangle : Point → Point → Point → Triangle
the_triangle a b c = record { a = a; b = b; c = c }

pub triangle_same : {a b c d e f : Point} → a ≡ d → b ≡ e → c ≡ f → the_triangle a b c ≡ the_triangle d e f
triangle_same {a} {b} {c} {d} {e} {f} one two three = ap (λ (x : Point). the_triangle x b c) one ∙ (ap (λ (x : Point). the_triangle d x c) two ∙ ap (λ (x : Point). the_triangle d e x) three)
