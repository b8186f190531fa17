-- Numbers and rings in lines.
use Rattle.std.proofs.Common.{◌≡◌, ◌⊎◌, inl, inr, ℕ, zero, suc, ℤ, pos, negsuc, neg_ℤ, ◌+◌, ◌-◌, ◌*◌, ◌^◌, take, drop, ◌<◌, ◌≤◌, length, IsTrue, IsFalse, List, [], ◌∷◌, ◌++◌, Result, Ok, Err, refl, sym, ap, ◌∙◌, subst, arith}
use Rattle.std.specs.Prelude.{slice_index, get_or, unsigned_abs}
use Rattle.std.proofs.lemmas.Bool.{false≢true}
use Rattle.std.proofs.lemmas.List.{length-append, take_all}
use Rattle.std.proofs.lemmas.Str.Parse.{digit_at}
use Rattle.std.specs.Char.{IsNotAsciiDigit}
use Rattle.triangulation.specs.declared.points.Point.{Point}
use Rattle.triangulate.specs.declared.numbers.LineError.{LineError}
use Rattle.triangulate.specs.declared.numbers.LineError.TheVariants as why
use Rattle.triangulate.specs.RingTexts.{is_space, AreSpaces, IsNumberAt, IsDecimal, IsNumeral, IsInBounds, ParsesWord, HasNoNumberAt, AreNumbersAt, coordinates_of, IsLineFault}

pub numbers_more : (line : List ℕ) (from at to : ℕ) (numbers : List ℤ) (value : ℤ) → AreNumbersAt line from numbers at → IsNumberAt line at to value → AreNumbersAt line from (numbers ++ value ∷ []) to
numbers_more line from at to [] value are is = (to, subst (λ (n : ℕ). IsNumberAt line n to value) (sym are) is, refl)
numbers_more line from at to (n ∷ numbers) value are is = (are.0, are.1, numbers_more line are.0 at to numbers value are.2 is)

coordinates_push : (points : List Point) (p : Point) → coordinates_of (points ++ p ∷ []) ≡ (coordinates_of points ++ p.x ∷ []) ++ p.y ∷ []
coordinates_push [] p = refl
coordinates_push (q ∷ points) p = ap (λ (numbers : List ℤ). q.x ∷ q.y ∷ numbers) (coordinates_push points p)

pub points_more : (line : List ℕ) (at middle to : ℕ) (points more : List Point) (p : Point) → AreNumbersAt line 0 (coordinates_of points) at → IsNumberAt line at middle p.x → IsNumberAt line middle to p.y → more ≡ points ++ p ∷ []
    → AreNumbersAt line 0 (coordinates_of more) to
points_more line at middle to points more p before x y is =
    subst (λ (numbers : List ℤ). AreNumbersAt line 0 numbers to) (sym (ap coordinates_of is ∙ coordinates_push points p))
    (numbers_more line 0 middle to (coordinates_of points ++ p.x ∷ []) p.y (numbers_more line 0 at middle (coordinates_of points) p.x before x) y)

coordinates_even : (points : List Point) → length (coordinates_of points) ≡ 2 * length points
coordinates_even [] = refl
coordinates_even (p ∷ points) = omega (arith, coordinates_even points)

pub fault_at_x : (line : List ℕ) (at next : ℕ) (points : List Point) (error : LineError) → AreNumbersAt line 0 (coordinates_of points) at → at ≤ next → next < length line → IsFalse (is_space (slice_index line next))
    → HasNoNumberAt line at error → IsLineFault line error
fault_at_x line at next points error before low high goes_on fault = record { numbers = coordinates_of points; end = at; before = before; fault = fault; odd = λ is. absurd (none is fault) }
  where
    none : error ≡ why.OddNumber → HasNoNumberAt line at error → ⊥
    none is (inl spaces) = false≢true (sym goes_on ∙ spaces.1 next low high)
    none is (inr word) = subst (λ e. ParsesWord IsNumeral word.1 (Err e)) is word.3

pub fault_at_y : (line : List ℕ) (at middle : ℕ) (points : List Point) (x : ℤ) (error : LineError) → AreNumbersAt line 0 (coordinates_of points) at → IsNumberAt line at middle x → HasNoNumberAt line middle error → IsLineFault line error
fault_at_y line at middle points x error before is fault = record {
  numbers = coordinates_of points ++ x ∷ [];
  end = middle;
  before = numbers_more line 0 at middle (coordinates_of points) x before is;
  fault = fault;
  odd = λ is_odd. (length points, omega (arith, length-append (coordinates_of points) (x ∷ []), coordinates_even points));
}

pub not_decimal : (word : List ℕ) (i : ℕ) (value : ℤ) → i < length word → IsNotAsciiDigit (get_or word i 0) → IsDecimal word value → ⊥
not_decimal word i value within other is = omega (arith, digit_at word i is.digits within, other)

unsigned_abs-neg : (z : ℤ) → unsigned_abs (neg_ℤ z) ≡ unsigned_abs z
unsigned_abs-neg (pos zero) = refl
unsigned_abs-neg (pos (suc n)) = refl
unsigned_abs-neg (negsuc n) = refl

pub minus_first : (word : List ℕ) → get_or word 0 0 ≡ 45 → 45 ∷ take (length word - 1) (drop 1 word) ≡ word
minus_first [] is = absurd (omega (arith, is))
minus_first (b ∷ bs) is =
    let rest : take (length (b ∷ bs) - 1) bs ≡ bs = take_all (length (b ∷ bs) - 1) bs (omega arith) in
    let first : 45 ≡ b = sym is in
    λ i. first i ∷ rest i

pub minus_refused : (digits : List ℕ) (error : LineError) → ParsesWord IsDecimal digits (Err error) → ParsesWord IsNumeral (45 ∷ digits) (Err error)
minus_refused digits why.NotANumber never = λ value is. none value is
  where
    none : (value : ℤ) → IsNumeral (45 ∷ digits) value → ⊥
    none value (inl is) = not_decimal (45 ∷ digits) 0 value (omega arith) (inl (omega arith)) is
    none value (inr is) = never is.1 (subst (λ ds. IsDecimal ds is.1) (let e = is.2 in cc) is.3)
minus_refused digits why.TooLarge large = (neg_ℤ large.0, inr (digits, large.0, refl, large.1, refl), λ bounded. large.2 (subst (λ n. n ≤ 2 ^ 30) (unsigned_abs-neg large.0) bounded))
minus_refused digits why.OddNumber never = never
minus_refused digits why.Memory never = never

pub plain_refused : (word : List ℕ) (error : LineError) → ((digits : List ℕ) → word ≡ 45 ∷ digits → ⊥) → ParsesWord IsDecimal word (Err error) → ParsesWord IsNumeral word (Err error)
plain_refused word why.NotANumber no_minus never = λ value is. none value is
  where
    none : (value : ℤ) → IsNumeral word value → ⊥
    none value (inl is) = never value is
    none value (inr is) = no_minus is.0 is.2
plain_refused word why.TooLarge no_minus large = (large.0, inl large.1, large.2)
plain_refused word why.OddNumber no_minus never = never
plain_refused word why.Memory no_minus never = never
