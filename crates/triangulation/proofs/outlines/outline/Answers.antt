use Rattle.std.proofs.Common.{◌≡◌, refl, sym, ap, ◌∙◌, arith, rules}
use Rattle.std.specs.Prelude.{is_some, true}
use Rattle.std.proofs.lemmas.Bool.{false≢true}
use Rattle.triangulation.proofs.ReadingLemmas.{few_corners, ring_of_valid, read_starts, more_corners, valid_here, value_here, next_exists, read_more, read_all}
use Rattle.triangulation.proofs.outlines.outline.Goals as goal

pub loop-init : goal.loop-init
loop-init g c = λ items from. read_starts g.A.ArenaTrait.state g.A.ChainArenaTrait.interlinks c.args.polygons.now (g.P.PtrKey.key c.args.start) items from c.new-points.result.items c.new-points.ensures.items

pub unreachable-requires : goal.unreachable-requires
unreachable-requires g c =
    let state = g.A.ArenaTrait.state in
    let links = g.A.ChainArenaTrait.interlinks in
    let arena = c.args.polygons.now in
    let key = g.P.PtrKey.key in
    let occupied : is_some c.get.result ≡ true = search rules in
    let ring = ring_of_valid state links arena (key c.args.start) c.all_in_polygons.ensures (c.get.ensures.some.0 occupied) in
    let there = valid_here state links arena (key c.args.start) ring.0 ring.1 (key c.loop.at) c.loop.points.items c.loop.counter (c.loop.invariant ring.0 ring.1) in
    let some = c.get-in-loop.ensures.some.1 there in
    let none = ap is_some c.in-None.is in
    let both = sym some ∙ none in
    cc

pub unreachable-requires-in-None-next : goal.unreachable-requires-in-None-next
unreachable-requires-in-None-next g c =
    let state = g.A.ArenaTrait.state in
    let links = g.A.ChainArenaTrait.interlinks in
    let arena = c.args.polygons.now in
    let key = g.P.PtrKey.key in
    let occupied : is_some c.get.result ≡ true = search rules in
    let ring = ring_of_valid state links arena (key c.args.start) c.all_in_polygons.ensures (c.get.ensures.some.0 occupied) in
    next_exists state links arena (key c.args.start) ring.0 ring.1 (key c.loop.at) c.loop.points.items c.loop.counter (c.loop.invariant ring.0 ring.1) key c.loop.at refl c.next.result c.next.ensures c.in-None-next.is

pub returns-then-is_same : goal.returns-then-is_same
returns-then-is_same g c =
    let state = g.A.ArenaTrait.state in
    let links = g.A.ChainArenaTrait.interlinks in
    let arena = c.args.polygons.now in
    let key = g.P.PtrKey.key in
    let occupied : is_some c.get.result ≡ true = search rules in
    let back = ap key ((g.met.P.PtrKey.same_is_equal c.in-Some-next.next c.args.start).0 (sym c.is_same.ensures ∙ c.if-is_same.true)) in (
      c.get.ensures.some.0 occupied,
      λ items from.
          let is = c.loop.invariant items from in
          let value = value_here state links arena (key c.args.start) items from (key c.loop.at) c.loop.points.items c.loop.counter is c.in-Some.point.now c.in-Some.ensures.value in
          read_all state links arena (key c.args.start) items from (key c.loop.at) c.loop.points.items c.loop.counter is key c.loop.at refl c.next.result c.next.ensures c.in-Some-next.next c.in-Some-next.is c.push.new.self.items c.in-Some.point.now c.in_ok-push.ensures.items value back,
    )

pub loop-preserved : goal.loop-preserved
loop-preserved g c = λ items from.
    let state = g.A.ArenaTrait.state in
    let links = g.A.ChainArenaTrait.interlinks in
    let arena = c.args.polygons.now in
    let key = g.P.PtrKey.key in
    let is = c.loop.invariant items from in
    let value = value_here state links arena (key c.args.start) items from (key c.loop.at) c.loop.points.items c.loop.counter is c.in-Some.point.now c.in-Some.ensures.value in
    read_more state links arena (key c.args.start) items from (key c.loop.at) c.loop.points.items c.loop.counter is key c.loop.at refl c.next.result c.next.ensures c.in-Some-next.next c.in-Some-next.is c.push.new.self.items c.in-Some.point.now c.in_ok-push.ensures.items value
    (λ back. false≢true (sym c.if-is_same.false ∙ (c.is_same.ensures ∙ (g.met.P.PtrKey.same_is_equal c.in-Some-next.next c.args.start).1 (g.met.P.PtrKey.same_key c.in-Some-next.next c.args.start back))))

pub unreachable-requires-2 : goal.unreachable-requires-2
unreachable-requires-2 g c =
    let state = g.A.ArenaTrait.state in
    let links = g.A.ChainArenaTrait.interlinks in
    let arena = c.args.polygons.now in
    let key = g.P.PtrKey.key in
    let occupied : is_some c.get.result ≡ true = search rules in
    let ring = ring_of_valid state links arena (key c.args.start) c.all_in_polygons.ensures (c.get.ensures.some.0 occupied) in
    let more = more_corners state links arena (key c.args.start) ring.0 ring.1 (key c.loop.at) c.loop.points.items c.loop.counter (c.loop.invariant ring.0 ring.1) in
    let few = few_corners state links arena ring.0 ring.1.ring in
    omega (arith, more, few, c.loop-test.false, c.len-end.ensures.count)
