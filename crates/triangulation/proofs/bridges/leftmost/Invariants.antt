use Rattle.std.proofs.Common.{◌<◌, length}
use Rattle.triangulation.proofs.bridges.leftmost.Given as goal

abbrev pub invariant-loop-i : goal.invariant-loop-i
invariant-loop-i l = l.least < length l.ring
