use Rattle.std.proofs.Common.{◌≤◌, ◌-◌, length}
use Rattle.triangulate.specs.RingTexts.{AreSpaces}
use Rattle.triangulate.proofs.numbers.end_of_spaces.Given as goal

abbrev pub invariant-loop-at : goal.invariant-loop-at
invariant-loop-at l = record { order : l.from ≤ l.at; end : l.at ≤ length l.line; spaces : AreSpaces l.line l.from l.at }

abbrev pub decreases-loop-at : goal.decreases-loop-at
decreases-loop-at l = length l.line - l.at
