use Rattle.std.proofs.Common.{rules, ◌≡◌, ℕ, ◌+◌, ◌-◌, ◌*◌, ◌^◌, ◌<◌, ◌≤◌, length, take, arith, rules, true, false, Bool, Result, Ok, Err, Option, Some, ap, ◌∙◌, subst, List, add-one, ◌==◌}
use Rattle.std.proofs.lemmas.Grind.{common_steps}
use Rattle.std.proofs.lemmas.Int.Digits.{digits_value_more, digits_more}
use Rattle.std.proofs.lemmas.Str.Parse.{digit_at}
use Rattle.std.specs.Bool.{MatchBool}
use Rattle.std.specs.Char.{IsAsciiDigit, IsNotAsciiDigit, digit_value}
use Rattle.std.specs.Int.{IsInRange}
use Rattle.std.specs.Result.{OkIff, result_ok}
use Rattle.std.specs.Str.Parse.{digits_value, AllDigits}
use Rattle.std.proofs.lemmas.List.{take_all}
use Rattle.std.proofs.Math.Nat.{pow-suc}
use Rattle.chain_commands.specs.Words.{number_of}
use Rattle.chain_commands.proofs.WordLemmas.{number_of-none, number_of-some}
use Rattle.chain_commands.proofs.lexer.number.Goals as goal

no_digit : (r : Bool) (b : ℕ) → MatchBool r (IsAsciiDigit b) (IsNotAsciiDigit b) → r ≡ false → IsInRange 48 57 b → ⊥
no_digit r b h e d = search rules

a_digit : (r : Bool) (b : ℕ) → MatchBool r (IsAsciiDigit b) (IsNotAsciiDigit b) → r ≡ true → IsInRange 48 57 b
a_digit r b h e = search rules

value_of_digit : (b : ℕ) → IsInRange 48 57 b → digit_value b ≡ b - 48
value_of_digit b h = grind (arith, common_steps)

below_more_digits : (i v d : ℕ) → v < 10 ^ i → d ≤ 9 → v * 10 + d < 10 ^ (i + 1)
below_more_digits i v d h g = rw (add-one, pow-suc) (omega arith)

some_from : (word : List ℕ) (r : Bool) → r ≡ (length word == 0) → r ≡ false → 0 < length word
some_from word r e f = grind (arith, common_steps)

pub returns-then-not-is_ascii_digit : goal.returns-then-not-is_ascii_digit
returns-then-not-is_ascii_digit c =
    number_of-none _ (λ is. no_digit _ _ c.is_ascii_digit.ensures.cases c.if-not-is_ascii_digit.true (digit_at c.args.word.now c.loop-digit.digit-index is.digits (omega arith)))

pub loop-digit-preserved : goal.loop-digit-preserved
loop-digit-preserved c =
    let range = a_digit _ _ c.is_ascii_digit.ensures.cases c.if-not-is_ascii_digit.false in
    let is = value_of_digit _ range in
    let more = digits_value_more 10 c.args.word.now c.loop-digit.digit-index c.loop-digit-test.true in
    record {
      digits = digits_more 10 c.args.word.now c.loop-digit.digit-index c.loop-digit-test.true c.loop-digit.invariant.digits (omega arith);
      value = omega arith;
      small = below_more_digits _ _ _ c.loop-digit.invariant.small (omega arith);
    }

found : {E : Type 0} (word : List ℕ) (v : ℕ) (q : Result ℕ E) (r : Option ℕ) → OkIff q (v < 4294967296) v → r ≡ result_ok q
    → v ≡ digits_value 10 word → 0 < length word → length word ≤ 10 → AllDigits 10 word → r ≡ number_of word
found word v (Ok x) r h e value some short digits =
    e ∙ ap Some (h.1 ∙ value) ∙ number_of-some word (record { some = some; short = short; digits = digits; small = omega arith })
found word v (Err x) r h e value some short digits =
    e ∙ number_of-none word (λ is. let small = is.small in absurd (h (omega arith)))

pub returns : goal.returns
returns c =
    let all : take c.loop-digit.digit-index c.args.word.now ≡ c.args.word.now = take_all c.loop-digit.digit-index c.args.word.now (omega arith) in
    let i = c.loop-digit.invariant in
    found c.args.word.now c.loop-digit.value _ _ c.try_from.ensures c.ok.ensures.value (i.value ∙ ap (digits_value 10) all)
    (some_from c.args.word.now _ c.is_empty.ensures c.if-is_empty.false) (omega arith) (subst (AllDigits 10) all i.digits)
