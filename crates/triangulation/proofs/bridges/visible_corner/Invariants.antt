use Rattle.std.proofs.Common.{◌<◌, length}
use Rattle.triangulation.proofs.bridges.visible_corner.Given as goal

abbrev pub invariant-loop-j : goal.invariant-loop-j
invariant-loop-j l = l.best < length l.outline
