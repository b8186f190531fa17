use Rattle.std.proofs.Common.{rules, ◌≡◌, ℕ, ◌+◌, ◌-◌, ◌*◌, ◌^◌, ◌<◌, ◌≤◌, length, take, arith, true, false, Bool, List, ap, ◌∙◌, subst, add-one, ◌==◌, pos, to_z, w32}
use Rattle.std.proofs.lemmas.Grind.{common_steps}
use Rattle.std.proofs.lemmas.Int.{ints}
use Rattle.std.proofs.lemmas.Int.Digits.{digits_value_more, digits_more}
use Rattle.std.specs.Bool.{MatchBool}
use Rattle.std.specs.Char.{IsAsciiDigit, IsNotAsciiDigit, digit_value}
use Rattle.std.specs.Int.{IsInRange}
use Rattle.std.specs.Str.Parse.{digits_value, AllDigits}
use Rattle.std.proofs.lemmas.List.{take_all}
use Rattle.std.proofs.Math.Nat.{pow-suc}
use Rattle.triangulate.proofs.RingTextLemmas.{not_decimal}
use Rattle.triangulate.proofs.numbers.magnitude.Goals as goal

a_digit : (r : Bool) (b : ℕ) → MatchBool r (IsAsciiDigit b) (IsNotAsciiDigit b) → r ≡ true → IsInRange 48 57 b
a_digit r b h e = search rules

no_digit : (r : Bool) (b : ℕ) → MatchBool r (IsAsciiDigit b) (IsNotAsciiDigit b) → r ≡ false → IsNotAsciiDigit b
no_digit r b h e = search rules

value_of_digit : (b : ℕ) → IsInRange 48 57 b → digit_value b ≡ b - 48
value_of_digit b h = grind (arith, common_steps)

below_more_digits : (i v d : ℕ) → v < 10 ^ i → d ≤ 9 → v * 10 + d < 10 ^ (i + 1)
below_more_digits i v d h g = rw (add-one, pow-suc) (omega arith)

some_from : (word : List ℕ) (r : Bool) → r ≡ (length word == 0) → r ≡ false → 0 < length word
some_from word r e f = grind (arith, common_steps)

pub loop-digit-preserved : goal.loop-digit-preserved
loop-digit-preserved c =
    let range = a_digit _ _ c.is_ascii_digit.ensures.cases c.if-not-is_ascii_digit.false in
    let is = value_of_digit _ range in
    let more = digits_value_more 10 c.args.digits.now c.loop-digit.digit-index c.loop-digit-test.true in
    record {
      digits = digits_more 10 c.args.digits.now c.loop-digit.digit-index c.loop-digit-test.true c.loop-digit.invariant.digits (omega arith);
      value = omega arith;
      small = below_more_digits _ _ _ c.loop-digit.invariant.small (omega arith);
    }

pub returns : goal.returns
returns c =
    let digits = c.args.digits.now in
    let all : take c.loop-digit.digit-index digits ≡ digits = take_all c.loop-digit.digit-index digits (omega arith) in
    let i = c.loop-digit.invariant in
    let value : c.loop-digit.value ≡ digits_value 10 digits = i.value ∙ ap (digits_value 10) all in
    let same : to_z w32 c.loop-digit.value ≡ pos c.loop-digit.value = omega (arith, ints) in (
      record { some = some_from digits _ c.is_empty.ensures c.if-is_empty.false; few = omega arith; digits = subst (AllDigits 10) all i.digits; number = same ∙ ap pos value },
      rw same (omega arith),
    )

pub returns-then-not-is_ascii_digit : goal.returns-then-not-is_ascii_digit
returns-then-not-is_ascii_digit c value is = not_decimal c.args.digits.now c.loop-digit.digit-index value c.loop-digit-test.true (no_digit _ _ c.is_ascii_digit.ensures.cases c.if-not-is_ascii_digit.true) is
