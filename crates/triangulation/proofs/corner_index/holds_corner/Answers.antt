use Rattle.std.proofs.Common.{◌≡◌, ◌/◌, ℕ, map, refl, sym, ◌∙◌, subst, arith}
use Rattle.std.proofs.lemmas.Bool.{false≢true}
use Rattle.triangulation.specs.declared.bounds.BoundingBox.{BoundingBox}
use Rattle.triangulation.specs.CornerIndexes.{IsInBox, IsClearAt}
use Rattle.triangulation.proofs.EarSearchLemmas.{below_more}
use Rattle.triangulation.proofs.CornerIndexLemmas.{group_clear, group_within}
use Rattle.triangulation.proofs.corner_index.holds_corner.Goals.{else-meets-via-then-meets+else-group_holds_corner, else-meets-via-else-meets}
use Rattle.triangulation.proofs.corner_index.holds_corner.Goals as goal

pub loop-group-init : goal.loop-group-init
loop-group-init g c = λ k less. absurd (omega (arith, less))

pub loop-group-preserved : goal.loop-group-preserved
loop-group-preserved g c =
    let entry = g.A.ArenaTrait.entry c.args.ring.now in
    let keys = map g.P.PtrKey.key c.args.index.now.pointers.items in
    let corners = c.args.corners.now in
    let index = c.requires.index in
    let k = c.loop-group.group in
    below_more (λ (k : ℕ). (n : ℕ) → n / 32 / 32 ≡ k → IsClearAt entry keys corners c.args.triangle n) k c.loop-group.invariant (λ n is. elim c.else-meets.branch [
      | else-meets-via-then-meets+else-group_holds_corner w ↦ w.group_holds_corner.ensures.none w.if-group_holds_corner.false n is
      | else-meets-via-else-meets w ↦
          group_clear entry keys corners c.args.triangle c.args.index.now.blocks.items index.blocks_of c.args.index.now.groups.items index.groups_of n k c.index.result.now is (λ p has inside.
          false≢true (sym w.if-meets.false ∙ c.meets.ensures p (subst (λ (box : BoundingBox). IsInBox box p) (sym c.index.ensures) has) (c.of_triangle-around.ensures c.requires.positive p inside)))
    ])

pub returns-clause-none : goal.returns-clause-none
returns-clause-none g c = λ false held.
    let index = c.requires.index in
    let at = index.listed held.at held.point held.stored in
    let clear = group_within (g.A.ArenaTrait.entry c.args.ring.now) (map g.P.PtrKey.key c.args.index.now.pointers.items) c.args.corners.now c.args.triangle c.args.index.now.blocks.items index.blocks_of c.args.index.now.groups.items index.groups_of at.0 (λ within.
    c.loop-group.invariant (at.0 / 32 / 32) (omega (arith, within, c.len-group-end.ensures, c.loop-group-test.false)) at.0 refl) in
    clear held.at held.point at.1 at.2 held.stored held.inside
