use Rattle.triangulate.specs.RingTexts.{AreNoSpaces}
use Rattle.triangulate.proofs.numbers.end_of_word.Given as goal

abbrev pub invariant-loop-at : goal.invariant-loop-at
invariant-loop-at l = AreNoSpaces l.line l.from l.at
