use Rattle.std.proofs.Common.{◌≡◌, ◌<◌, ◌/◌, ℕ, length, map, get_or, min, arith}
use Rattle.std.proofs.lemmas.Option.{slice_get_read, slice_get-get_or}
use Rattle.triangulation.specs.CornerIndexes.{IsClearAt}
use Rattle.triangulation.proofs.EarSearchLemmas.{below_more}
use Rattle.triangulation.proofs.RingPathLemmas.{origin}
use Rattle.triangulation.proofs.CornerIndexLemmas.{clear_here, listed_within}
use Rattle.triangulation.proofs.corner_index.block_holds_corner.Goals as goal

both : (n a b k m : ℕ) → n < a → n < b → k ≡ a → m ≡ min b k → n < m
both n a b k m one two is least = omega (arith, one, two, is, least)

below_both : (n a b k m : ℕ) → n < m → k ≡ a → m ≡ min b k → (n < a) × (n < b)
below_both n a b k m less is least = (omega (arith, less, is, least), omega (arith, less, is, least))

pub loop-i-init : goal.loop-i-init
loop-i-init g c = λ n less same. listed_within g.P.PtrKey.key (g.A.ArenaTrait.entry c.args.ring.now) c.args.index.now.pointers.items c.args.corners.now c.args.triangle n (λ in_pointers in_corners.
    let from = (c.block_range-first.ensures.all n (both n (length c.args.index.now.pointers.items) (length c.args.corners.now) c.len.result c.min.result in_pointers in_corners (omega (arith, c.len.ensures)) c.min.ensures) same).0 in
    absurd (omega (arith, from, less)))

pub loop-i-preserved : goal.loop-i-preserved
loop-i-preserved g c =
    let entry = g.A.ArenaTrait.entry c.args.ring.now in
    let key = g.P.PtrKey.key in
    let pointers = c.args.index.now.pointers.items in
    let corners = c.args.corners.now in
    let i = c.loop-i.i in
    let within = below_both i (length pointers) (length corners) c.len.result c.min.result (omega (arith, c.loop-i-test.true, c.block_range-first.ensures.within)) (omega (arith, c.len.ensures)) c.min.ensures in
    below_more (λ (n : ℕ). n / 32 ≡ c.args.block → IsClearAt entry (map key pointers) corners c.args.triangle n) i c.loop-i.invariant (λ same. clear_here key entry pointers corners c.args.triangle i c.index.result.now (get_or corners i origin)
    (slice_get_read pointers c.len.result i c.index.result.now (omega (arith, c.len.ensures)) (omega (arith, within.0, c.len.ensures)) c.index.ensures) (slice_get-get_or corners i origin within.1) (c.is_there_within.ensures.none c.if-is_there_within.false))

pub returns-clause-none : goal.returns-clause-none
returns-clause-none g c = λ false n same. listed_within g.P.PtrKey.key (g.A.ArenaTrait.entry c.args.ring.now) c.args.index.now.pointers.items c.args.corners.now c.args.triangle n (λ in_pointers in_corners.
    let to = (c.block_range-first.ensures.all n (both n (length c.args.index.now.pointers.items) (length c.args.corners.now) c.len.result c.min.result in_pointers in_corners (omega (arith, c.len.ensures)) c.min.ensures) same).1 in
    c.loop-i.invariant n (omega (arith, to, c.loop-i-test.false)) same)
