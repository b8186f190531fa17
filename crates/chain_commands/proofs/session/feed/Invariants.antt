use Rattle.std.proofs.Common.{◌≡◌, ℕ, List, ◌++◌, length, Option}
use Rattle.chain_commands.specs.Responses.{ToolArenas}
use Rattle.chain_commands.specs.Progress.{Progress}
use Rattle.chain_commands.proofs.session.feed.Given as goal

-- The run has progressed by the part of the piece that is no longer left.
abbrev pub invariant-loop-front : goal.invariant-loop-front
invariant-loop-front g l =
    (done : List ℕ) × (l.piece ≡ done ++ l.left) ×
    ((old : ToolArenas) (read : List ℕ) (held : Option (List ℕ)) →
    Progress old read (l.initial.arena, l.initial.other) l.initial.line.items held (g.W.Write.contents l.initial.writer) →
    Progress old (read ++ done) (l.arena, l.other) l.line.items held (g.W.Write.contents l.writer))

abbrev pub decreases-loop-front : goal.decreases-loop-front
decreases-loop-front g l = length l.left
