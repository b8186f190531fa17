use Rattle.std.proofs.Common.{◌++◌, ap, ◌∙◌, arith}
use Rattle.chain_commands.proofs.LineSplitLemmas.{kept_more}
use Rattle.chain_commands.proofs.session.buffer_line.Goals as goal

pub returns : goal.returns
returns c = record {
  ok = λ rest is.
      c.in_ok-extend_from_slice.ensures.items
      ∙ (ap (λ front. c.args.line.now.items ++ front) c.split_at.ensures.front
      ∙ kept_more 201 c.min.result c.args.line.now.items rest c.args.more.now is (omega (arith, c.min.ensures, c.saturating_sub.ensures, c.len.ensures, c.args.line.now.ok.0)));
  error = tt;
}
