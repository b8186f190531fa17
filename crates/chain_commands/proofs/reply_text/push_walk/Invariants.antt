use Rattle.std.specs.Prelude.{string_bytes}
use Rattle.chain_commands.proofs.ResponseLemmas.{IsWalked}
use Rattle.chain_commands.proofs.reply_text.push_walk.Given as goal

-- The links that the walker has passed are in the text.
abbrev pub invariant-loop-p : goal.invariant-loop-p
invariant-loop-p g l = IsWalked (string_bytes l.initial.text) (string_bytes l.text) l.is_first l.initial.p-iterator l.p-iterator
