use Rattle.std.specs.Prelude.{◌≡◌, ℕ, ◌/◌, ◌%◌, ◌==◌, ◌&&◌, ◌↔◌, Bool, true}
use Rattle.std.proofs.Common.{lit≤, ◌∙◌, ap, arith}
use Rattle.std.proofs.lemmas.Bool.{and_from, and_parts, eqb-true, eq-eqb}
use Rattle.arena_core.specs.Numbers.{IsWithin, IsWithin-prop, next_number, next_within, next_after_greatest, same_made, eq_is_same_number}
use Rattle.arena_ptr.specs.ThreeBytes.{number_of_bytes, AreThreeBytes, AreThreeBytes-prop}
use Rattle.arena_ptr.specs.declared.generation.gen8.Gen8.{Gen8}
use Rattle.arena_ptr.specs.declared.generation.gen16.Gen16.{Gen16}
use Rattle.arena_ptr.specs.declared.generation.gen24.Gen24.{Gen24}
use Rattle.arena_ptr.specs.declared.generation.gen32.Gen32.{Gen32}
use Rattle.arena_ptr.specs.declared.generation.gen64.Gen64.{Gen64}

abbrev pub number_of_gen8 : Gen8 → ℕ
number_of_gen8 g = g.number

abbrev pub two8 : Gen8
two8 = record { number = 2; in_range = (lit≤ tt, lit≤ tt) }

abbrev pub after8 : Gen8 → Gen8
after8 g = record { number = next_number 0xff g.number; in_range = next_within 0xff g.number (lit≤ tt) g.in_range }

abbrev pub is_greatest8 : Gen8 → Bool
is_greatest8 g = g.number == 0xff

pub same_gen8 : (g h : Gen8) → number_of_gen8 g ≡ number_of_gen8 h → g ≡ h
same_gen8 g h e =
    same_made {P = IsWithin 0xff} (λ n w. record { number = n; in_range = w }) (IsWithin-prop 0xff) g.number h.number g.in_range h.in_range e

pub begins_again8 : (g : Gen8) → is_greatest8 g ≡ true → after8 g ≡ two8
begins_again8 g greatest = same_gen8 (after8 g) two8 (next_after_greatest 0xff g.number greatest)

pub eq_is_same_gen8 : (g h : Gen8) → ((g.number == h.number) ≡ true) ↔ (g ≡ h)
eq_is_same_gen8 = eq_is_same_number number_of_gen8 same_gen8

abbrev pub number_of_gen16 : Gen16 → ℕ
number_of_gen16 g = g.number

abbrev pub two16 : Gen16
two16 = record { number = 2; in_range = (lit≤ tt, lit≤ tt) }

abbrev pub after16 : Gen16 → Gen16
after16 g = record { number = next_number 0xffff g.number; in_range = next_within 0xffff g.number (lit≤ tt) g.in_range }

abbrev pub is_greatest16 : Gen16 → Bool
is_greatest16 g = g.number == 0xffff

pub same_gen16 : (g h : Gen16) → number_of_gen16 g ≡ number_of_gen16 h → g ≡ h
same_gen16 g h e =
    same_made {P = IsWithin 0xffff} (λ n w. record { number = n; in_range = w }) (IsWithin-prop 0xffff) g.number h.number g.in_range h.in_range e

pub begins_again16 : (g : Gen16) → is_greatest16 g ≡ true → after16 g ≡ two16
begins_again16 g greatest = same_gen16 (after16 g) two16 (next_after_greatest 0xffff g.number greatest)

pub eq_is_same_gen16 : (g h : Gen16) → ((g.number == h.number) ≡ true) ↔ (g ≡ h)
eq_is_same_gen16 = eq_is_same_number number_of_gen16 same_gen16

abbrev pub number_of_gen24 : Gen24 → ℕ
number_of_gen24 g = number_of_bytes g.high g.middle g.low

abbrev pub gen24_of : (n : ℕ) → IsWithin 0xff_ffff n → Gen24
gen24_of n within = record {
  high = n / 0x100 / 0x100;
  middle = n / 0x100 % 0x100;
  low = n % 0x100;
  in_range = (omega (arith, within), omega arith, omega arith, omega (arith, within));
}

pub gen24_within : (g : Gen24) → IsWithin 0xff_ffff (number_of_gen24 g)
gen24_within g = (g.in_range.3, omega (arith, g.in_range.0, g.in_range.1, g.in_range.2))

abbrev pub two24 : Gen24
two24 = record { high = 0; middle = 0; low = 2; in_range = (lit≤ tt, lit≤ tt, lit≤ tt, lit≤ tt) }

abbrev pub after24 : Gen24 → Gen24
after24 g = gen24_of (next_number 0xff_ffff (number_of_gen24 g)) (next_within 0xff_ffff (number_of_gen24 g) (lit≤ tt) (gen24_within g))

abbrev pub is_greatest24 : Gen24 → Bool
is_greatest24 g = number_of_gen24 g == 0xff_ffff

pub number_after24 : (g : Gen24) → number_of_gen24 (after24 g) ≡ next_number 0xff_ffff (number_of_gen24 g)
number_after24 g = omega arith

same_three : (g h : Gen24) → g.high ≡ h.high → g.middle ≡ h.middle → g.low ≡ h.low → g ≡ h
same_three g h high middle low =
    same_made {A = ℕ × ℕ × ℕ} {P = λ b. AreThreeBytes b.0 b.1 b.2} (λ b w. record { high = b.0; middle = b.1; low = b.2; in_range = w })
    (λ b. AreThreeBytes-prop b.0 b.1 b.2) (g.high, g.middle, g.low) (h.high, h.middle, h.low) g.in_range h.in_range (λ i. (high i, middle i, low i))

pub same_gen24 : (g h : Gen24) → number_of_gen24 g ≡ number_of_gen24 h → g ≡ h
same_gen24 g h e = same_three g h (omega (arith, g.in_range, h.in_range)) (omega (arith, g.in_range, h.in_range)) (omega (arith, g.in_range, h.in_range))

abbrev pub same_bytes24 : Gen24 → Gen24 → Bool
same_bytes24 g h = (g.high == h.high) && ((g.middle == h.middle) && (g.low == h.low))

pub eq_is_same_gen24 : (g h : Gen24) → (same_bytes24 g h ≡ true) ↔ (g ≡ h)
eq_is_same_gen24 g h = (
  λ t.
      let high = and_parts _ _ t in
      let low = and_parts _ _ high.1 in
      same_three g h (eqb-true _ _ high.0) (eqb-true _ _ low.0) (eqb-true _ _ low.1),
  λ e.
      and_from _ _ (eq-eqb _ _ (ap (λ (b : Gen24). b.high) e))
      (and_from _ _ (eq-eqb _ _ (ap (λ (b : Gen24). b.middle) e)) (eq-eqb _ _ (ap (λ (b : Gen24). b.low) e))),
)

pub begins_again24 : (g : Gen24) → is_greatest24 g ≡ true → after24 g ≡ two24
begins_again24 g greatest = same_gen24 (after24 g) two24 (number_after24 g ∙ next_after_greatest 0xff_ffff (number_of_gen24 g) greatest)

abbrev pub number_of_gen32 : Gen32 → ℕ
number_of_gen32 g = g.number

abbrev pub two32 : Gen32
two32 = record { number = 2; in_range = (lit≤ tt, lit≤ tt) }

abbrev pub after32 : Gen32 → Gen32
after32 g = record { number = next_number 0xffff_ffff g.number; in_range = next_within 0xffff_ffff g.number (lit≤ tt) g.in_range }

abbrev pub is_greatest32 : Gen32 → Bool
is_greatest32 g = g.number == 0xffff_ffff

pub same_gen32 : (g h : Gen32) → number_of_gen32 g ≡ number_of_gen32 h → g ≡ h
same_gen32 g h e =
    same_made {P = IsWithin 0xffff_ffff} (λ n w. record { number = n; in_range = w }) (IsWithin-prop 0xffff_ffff) g.number h.number g.in_range h.in_range e

pub begins_again32 : (g : Gen32) → is_greatest32 g ≡ true → after32 g ≡ two32
begins_again32 g greatest = same_gen32 (after32 g) two32 (next_after_greatest 0xffff_ffff g.number greatest)

pub eq_is_same_gen32 : (g h : Gen32) → ((g.number == h.number) ≡ true) ↔ (g ≡ h)
eq_is_same_gen32 = eq_is_same_number number_of_gen32 same_gen32

abbrev pub number_of_gen64 : Gen64 → ℕ
number_of_gen64 g = g.number

abbrev pub two64 : Gen64
two64 = record { number = 2; in_range = (lit≤ tt, lit≤ tt) }

abbrev pub after64 : Gen64 → Gen64
after64 g = record { number = next_number 0xffff_ffff_ffff_ffff g.number; in_range = next_within 0xffff_ffff_ffff_ffff g.number (lit≤ tt) g.in_range }

abbrev pub is_greatest64 : Gen64 → Bool
is_greatest64 g = g.number == 0xffff_ffff_ffff_ffff

pub same_gen64 : (g h : Gen64) → number_of_gen64 g ≡ number_of_gen64 h → g ≡ h
same_gen64 g h e =
    same_made {P = IsWithin 0xffff_ffff_ffff_ffff} (λ n w. record { number = n; in_range = w }) (IsWithin-prop 0xffff_ffff_ffff_ffff) g.number h.number g.in_range h.in_range e

pub begins_again64 : (g : Gen64) → is_greatest64 g ≡ true → after64 g ≡ two64
begins_again64 g greatest = same_gen64 (after64 g) two64 (next_after_greatest 0xffff_ffff_ffff_ffff g.number greatest)

pub eq_is_same_gen64 : (g h : Gen64) → ((g.number == h.number) ≡ true) ↔ (g ≡ h)
eq_is_same_gen64 = eq_is_same_number number_of_gen64 same_gen64
