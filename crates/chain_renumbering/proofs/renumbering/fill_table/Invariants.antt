-- The moves before the current position are written.
use Rattle.std.proofs.Common.{◌≡◌, take}
use Rattle.chain_renumbering.specs.MoveTables.{with_moves}
use Rattle.chain_renumbering.proofs.renumbering.fill_table.Given as goal

abbrev pub invariant-loop-from : goal.invariant-loop-from
invariant-loop-from g l = l.table ≡ with_moves g.P.PtrKey.key l.initial.table (take l.from-index l.moves)
