use Rattle.std.proofs.Common.{arith, ap, sym, ◌∙◌}
use Rattle.chain_commands.specs.Commands.{line_with}
use Rattle.chain_commands.proofs.LineSplitLemmas.{line_of-words, return_stripped}
use Rattle.chain_commands.proofs.command.parse.Goals as goal

pub returns-in-None : goal.returns-in-None
returns-in-None c =
    let stripped = return_stripped c.args.line c.strip_suffix.result c.unwrap_or.result c.strip_suffix.ensures.cases c.unwrap_or.ensures in
    sym (line_of-words c.args.line.now c.unwrap_or.result.now _ (omega (arith, c.if-line-gt200.false)) stripped c.in-None.ensures.end)

pub returns-in-Ok-None : goal.returns-in-Ok-None
returns-in-Ok-None c =
    let stripped = return_stripped c.args.line c.strip_suffix.result c.unwrap_or.result c.strip_suffix.ensures.cases c.unwrap_or.ensures in
    ap line_with (sym c.in-Ok-None.field-0-is ∙ c.in-Ok-None.ensures) ∙ sym (line_of-words c.args.line.now c.unwrap_or.result.now _ (omega (arith, c.if-line-gt200.false)) stripped c.in-Some.ensures.word)

pub returns-in-Ok-Some : goal.returns-in-Ok-Some
returns-in-Ok-Some c =
    let stripped = return_stripped c.args.line c.strip_suffix.result c.unwrap_or.result c.strip_suffix.ensures.cases c.unwrap_or.ensures in
    ap line_with (sym c.in-Ok-Some.field-0-is ∙ c.in-Ok-Some.ensures) ∙ sym (line_of-words c.args.line.now c.unwrap_or.result.now _ (omega (arith, c.if-line-gt200.false)) stripped c.in-Some.ensures.word)
