-- The bytes so far are digits, and `value` is their number.
use Rattle.std.proofs.Common.{◌≡◌, ◌^◌, ◌<◌, take}
use Rattle.std.specs.Str.Parse.{digits_value, AllDigits}
use Rattle.triangulate.proofs.numbers.magnitude.Given as goal

abbrev pub invariant-loop-digit : goal.invariant-loop-digit
invariant-loop-digit l = record {
  digits : AllDigits 10 (take l.digit-index l.digits);
  value : l.value ≡ digits_value 10 (take l.digit-index l.digits);
  small : l.value < 10 ^ l.digit-index;
}
