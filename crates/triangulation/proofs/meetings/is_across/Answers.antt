use Rattle.std.proofs.Common.{◌≡◌, ℤ, sym, ◌∙◌, subst, rules}
use Rattle.std.specs.Int.{w128}
use Rattle.std.proofs.lemmas.Int.{to_z-of_z}
use Rattle.triangulation.specs.Polygons.{AreAround}
use Rattle.triangulation.proofs.meetings.is_across.Goals as goal

around_same : (a b c d : ℤ) → a ≡ c → b ≡ d → AreAround a b → AreAround c d
around_same a b c d one two are = subst (λ (z : ℤ). AreAround z d) one (subst (λ (z : ℤ). AreAround a z) two are)

pub returns : goal.returns
returns c =
    let one = to_z-of_z w128 c.orientation.result (search rules) ∙ c.orientation.ensures in
    let two = to_z-of_z w128 c.orientation-2.result (search rules) ∙ c.orientation-2.ensures in (
      λ true. around_same _ _ _ _ one two (c.are_around.ensures.0 true),
      λ across. c.are_around.ensures.1 (around_same _ _ _ _ (sym one) (sym two) across),
    )
