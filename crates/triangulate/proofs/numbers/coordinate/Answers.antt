use Rattle.std.proofs.Common.{ℕ, List, Err, subst}
use Rattle.triangulate.specs.RingTexts.{IsNumeral, ParsesWord}
use Rattle.triangulate.proofs.RingTextLemmas.{minus_first, minus_refused}
use Rattle.triangulate.proofs.numbers.coordinate.Goals as goal

pub returns-in-Err : goal.returns-in-Err
returns-in-Err c = subst (λ (word : List ℕ). ParsesWord IsNumeral word (Err c.in-Err.error)) (minus_first c.args.word.now c.if-word-ne45.false) (minus_refused _ c.in-Err.error c.in-Err.ensures)
