use Rattle.std.proofs.Common.{◌≡◌, ℤ, neg_ℤ, to_z, of_z, ap, ◌∙◌, subst, rules}
use Rattle.std.specs.Prelude.{reverse}
use Rattle.std.specs.Int.{w128}
use Rattle.std.proofs.lemmas.Int.{to_z-of_z}
use Rattle.triangulation.specs.Triangulations.{polygon_area}
use Rattle.triangulation.specs.Polygons.{TurnsTo}
use Rattle.triangulation.proofs.JoiningLemmas.{turned_is, reversed_is}
use Rattle.triangulation.proofs.joining.turned_to.Goals as goal

pub returns-then-is_towards : goal.returns-then-is_towards
returns-then-is_towards c =
    let area : to_z w128 (of_z w128 c.double_area.result) ≡ polygon_area c.args.ring.now = to_z-of_z w128 c.double_area.result (search rules) ∙ c.double_area.ensures in
    turned_is c.args.turn c.args.ring.now c.in_ok-turned.turned.items (subst (λ (z : ℤ). TurnsTo c.args.turn z) area (c.is_towards.ensures.yes c.if-is_towards.true)) c.in_ok-turned.ensures.items

pub returns : goal.returns
returns c =
    let area : to_z w128 (of_z w128 c.double_area.result) ≡ polygon_area c.args.ring.now = to_z-of_z w128 c.double_area.result (search rules) ∙ c.double_area.ensures in
    reversed_is c.args.turn c.args.ring.now c.reverse.new.self.items (subst (λ (z : ℤ). TurnsTo c.args.turn (neg_ℤ z)) area (c.is_towards.ensures.no c.if-is_towards.false)) (c.reverse.ensures.items ∙ ap reverse c.in_ok-turned.ensures.items)
