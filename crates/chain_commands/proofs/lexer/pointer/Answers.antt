use Rattle.std.proofs.Common.{None, ap, sym, ◌∙◌, arith}
use Rattle.std.specs.Option.{option_and_then}
use Rattle.chain_commands.specs.Words.{generation_of}
use Rattle.chain_commands.proofs.PointerWordLemmas.{pointer_of-no_dot, pointer_of-no_index, pointer_of-no_generation, pointer_of-some, generation_of-chain}
use Rattle.chain_commands.proofs.lexer.pointer.Goals as goal

pub returns-in_err-front : goal.returns-in_err-front
returns-in_err-front c = c.from_residual.ensures ∙ pointer_of-no_dot _ c.in_err-front.ensures.none

pub returns-in_err-index : goal.returns-in_err-index
returns-in_err-index c = c.from_residual-in_err-index.ensures ∙ pointer_of-no_index _ _ _ c.in_ok-front.ensures.some c.in_err-index.ensures

pub returns-in_err-number : goal.returns-in_err-number
returns-in_err-number c = c.from_residual-in_err-number.ensures ∙ pointer_of-no_generation _ _ _ c.in_ok-front.ensures.some (ap (option_and_then generation_of) c.in_err-number.ensures)

pub returns-in_err-new : goal.returns-in_err-new
returns-in_err-new c =
    let none = generation_of-chain _ c.in_ok-number.field-0 None (sym c.in_ok-number.ensures) (omega arith) c.in_err-new.ensures.variant c.in_err-new.ensures.value in
    c.from_residual-in_err-new.ensures ∙ pointer_of-no_generation _ _ _ c.in_ok-front.ensures.some none

pub returns : goal.returns
returns c =
    pointer_of-some _ _ _ c.in_ok-front.ensures.some _ c.in_ok-index.field-0 c.in_ok-new.field-0 c._from_raw.ensures c.in_ok-index.ensures
    (generation_of-chain _ c.in_ok-number.field-0 _ (sym c.in_ok-number.ensures) (omega arith) c.in_ok-new.ensures.variant c.in_ok-new.ensures.value)
