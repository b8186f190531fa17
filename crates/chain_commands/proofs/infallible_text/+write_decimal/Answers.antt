use Rattle.std.proofs.Common.{◌∙◌, ◌++◌, ◌∷◌, [], ◌/◌, ◌%◌, ◌+◌, decimal, string_bytes, length, sym, ap, arith, append_assoc, length-append}
use Rattle.std.proofs.lemmas.Fmt.{decimal_step, decimal_digit}
use Rattle.chain_commands.proofs.infallible_text.+write_decimal.Goals as goal

pub write_digit-requires-clause-capacity : goal.write_digit-requires-clause-capacity
write_digit-requires-clause-capacity t c = omega (arith, c.requires, ap length (decimal_digit c.args.n c.if-n-lt10.true))

pub write_decimal-requires : goal.write_decimal-requires
write_decimal-requires t c =
    let step = decimal_step c.args.n c.if-n-lt10.false (omega arith) in
    let long = ap length step ∙ length-append (decimal (c.args.n / 10)) ((48 + c.args.n % 10) ∷ []) in
    (omega arith, omega (arith, long, c.requires))

pub write_digit-requires-else-n-lt10-clause-capacity : goal.write_digit-requires-else-n-lt10-clause-capacity
write_digit-requires-else-n-lt10-clause-capacity t c =
    let step = decimal_step c.args.n c.if-n-lt10.false (omega arith) in
    let long = ap length step ∙ length-append (decimal (c.args.n / 10)) ((48 + c.args.n % 10) ∷ []) in
    let front = ap length c.write_decimal.ensures.bytes ∙ length-append (string_bytes c.args.text.now) (decimal (c.args.n / 10)) in
    omega (arith, long, front, c.requires, c.write_decimal.ensures.capacity)

pub returns-then-n-lt10 : goal.returns-then-n-lt10
returns-then-n-lt10 t c = record {
  bytes = c.write_digit.ensures.bytes ∙ ap (λ ds. string_bytes c.args.text.now ++ ds) (sym (decimal_digit c.args.n c.if-n-lt10.true));
  capacity = c.write_digit.ensures.capacity;
}

pub returns-else-n-lt10 : goal.returns-else-n-lt10
returns-else-n-lt10 t c =
    let last = (48 + c.args.n % 10) ∷ [] in
    record {
      bytes = c.write_digit-else-n-lt10.ensures.bytes ∙ ap (λ b. b ++ last) c.write_decimal.ensures.bytes
          ∙ append_assoc (string_bytes c.args.text.now) (decimal (c.args.n / 10)) last
          ∙ ap (λ ds. string_bytes c.args.text.now ++ ds) (sym (decimal_step c.args.n c.if-n-lt10.false (omega arith)));
      capacity = omega (arith, c.write_decimal.ensures.capacity, c.write_digit-else-n-lt10.ensures.capacity);
    }
