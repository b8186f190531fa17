use Rattle.std.proofs.Common.{◌≡◌, ◌/◌, ℕ, map, refl, sym, ◌∙◌, subst, arith}
use Rattle.std.proofs.lemmas.Bool.{false≢true}
use Rattle.triangulation.specs.declared.bounds.BoundingBox.{BoundingBox}
use Rattle.triangulation.specs.CornerIndexes.{IsInBox, IsClearAt}
use Rattle.triangulation.proofs.EarSearchLemmas.{below_more}
use Rattle.triangulation.proofs.CornerIndexLemmas.{block_clear, block_within}
use Rattle.triangulation.proofs.corner_index.group_holds_corner.Goals.{else-meets-via-then-meets+else-block_holds_corner, else-meets-via-else-meets}
use Rattle.triangulation.proofs.corner_index.group_holds_corner.Goals as goal

pub loop-block-init : goal.loop-block-init
loop-block-init g c = λ k less same n is. block_within (g.A.ArenaTrait.entry c.args.ring.now) (map g.P.PtrKey.key c.args.index.now.pointers.items) c.args.corners.now c.args.triangle c.args.index.now.blocks.items c.requires.blocks n (λ within.
    let from = (c.block_range-first.ensures.all k (omega (arith, within, is, c.len.ensures)) same).0 in
    absurd (omega (arith, from, less)))

pub loop-block-preserved : goal.loop-block-preserved
loop-block-preserved g c =
    let entry = g.A.ArenaTrait.entry c.args.ring.now in
    let keys = map g.P.PtrKey.key c.args.index.now.pointers.items in
    let corners = c.args.corners.now in
    let blocks = c.args.index.now.blocks.items in
    let k = c.loop-block.block in
    below_more (λ (k : ℕ). k / 32 ≡ c.args.group → (n : ℕ) → n / 32 ≡ k → IsClearAt entry keys corners c.args.triangle n) k c.loop-block.invariant (λ same n is. elim c.else-meets.branch [
      | else-meets-via-then-meets+else-block_holds_corner w ↦ w.block_holds_corner.ensures.none w.if-block_holds_corner.false n is
      | else-meets-via-else-meets w ↦
          block_clear entry keys corners c.args.triangle blocks c.requires.blocks n k c.index.result.now is (λ p has inside.
          false≢true (sym w.if-meets.false ∙ c.meets.ensures p (subst (λ (box : BoundingBox). IsInBox box p) (sym c.index.ensures) has) (c.of_triangle-around.ensures c.requires.positive p inside)))
    ])

pub returns-clause-none : goal.returns-clause-none
returns-clause-none g c = λ false n same. block_within (g.A.ArenaTrait.entry c.args.ring.now) (map g.P.PtrKey.key c.args.index.now.pointers.items) c.args.corners.now c.args.triangle c.args.index.now.blocks.items c.requires.blocks n (λ within.
    let to = (c.block_range-first.ensures.all (n / 32) (omega (arith, within, c.len.ensures)) same).1 in
    c.loop-block.invariant (n / 32) (omega (arith, to, c.loop-block-test.false)) same n refl)
