use Rattle.std.proofs.Common.{◌<◌}
use Rattle.chain_commands.proofs.RunEndLemmas.{HasRead}
use Rattle.chain_commands.proofs.session.run_on.Given as goal

-- The run has executed all that was read so far.
abbrev pub invariant-loop : goal.invariant-loop
invariant-loop g l = record {
  some : 0 < l.piece.len;
  read : HasRead (l.initial.arena, l.initial.other) (l.arena, l.other) l.line.items (g.R.Read.remaining l.initial.reader) (g.R.Read.remaining l.reader) (g.W.Write.contents l.initial.writer) (g.W.Write.contents l.writer);
}
