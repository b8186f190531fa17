use Rattle.std.proofs.Common.{◌≡◌, ◌+◌, pos, ◌<ℤ◌, List, [], ◌∷◌, ◌++◌, length, refl, sym, ap, ◌∙◌, subst, arith}
use Rattle.std.specs.Prelude.{is_some}
use Rattle.std.proofs.lemmas.Bool.{false≢true}
use Rattle.chain_laws.proofs.InterlinkLemmas.Inverses.{one_some}
use Rattle.arena_traits.specs.Entries.{count}
use Rattle.chain_lists.specs.Lists.{Item}
use Rattle.triangulation.specs.declared.points.Point.{Point}
use Rattle.triangulation.specs.declared.points.Triangle.{Triangle}
use Rattle.triangulation.specs.Triangulations.{triangle_area, IsInTriangle}
use Rattle.triangulation.specs.Clippings.{points, IsRingFrom, SeesNoEar}
use Rattle.triangulation.proofs.CornerLemmas.{value_got, ring_turned, next_is_second}
use Rattle.triangulation.proofs.EarSearchLemmas.{three_first, reach_starts, reach_next, next_there, valid_there, if_none, begins_long, the_triangle, triangle_same}
use Rattle.triangulation.proofs.WholeRingLemmas.{all_in_ring, others_have, stored_point}
use Rattle.triangulation.proofs.clipping.ear_after.Goals.{else-is_left-via-then-is_left+else-not-holds_corner, else-is_left-via-else-is_left}
use Rattle.triangulation.proofs.clipping.ear_after.Goals as goal

pub returns-then-not-holds_corner-clause-ear : goal.returns-then-not-holds_corner-clause-ear
returns-then-not-holds_corner-clause-ear g c = λ a m b rest from.
    let state = g.A.ArenaTrait.state in
    let links = g.A.ChainArenaTrait.interlinks in
    let arena = c.args.ring.now in
    let entry = g.A.ArenaTrait.entry arena in
    let key = g.P.PtrKey.key in
    let at_a = sym (one_some from.first) in
    let at_m = next_is_second state links key arena c.args.before c.in_ok-corner.corner c.next.result a m (b ∷ rest) c.next.ensures c.in_ok-corner.was at_a from.ring in
    let second = ring_turned state links arena (a ∷ []) (m ∷ b ∷ rest) from.ring in
    let at_b = next_is_second state links key arena c.in_ok-corner.corner c.in_ok-after.after c.next-2.result m b (rest ++ a ∷ []) c.next-2.ensures c.in_ok-after.was at_m second in
    let stored = from.ring.are_stored in (
      at_m,
      at_b,
      value_got entry (key c.args.before) a c.get.result c.in_ok-a.field-0 c.get.ensures.value c.in_ok-a.was at_a stored.0,
      value_got entry (key c.in_ok-corner.corner) m c.get-2.result c.in_ok-b.field-0 c.get-2.ensures.value c.in_ok-b.was at_m stored.1.0,
      value_got entry (key c.in_ok-after.after) b c.get-3.result c.in_ok-c.field-0 c.get-3.ensures.value c.in_ok-c.was at_b stored.1.1.0,
      record {
        positive = c.is_left.ensures.0 c.if-is_left.true;
        empty = λ p has inside.
            let at = stored_point entry rest p stored.1.1.1 has in
            c.holds_corner.ensures.none c.if-not-holds_corner.true (record { at = at.0; point = p; stored = at.1; inside = inside });
      },
    )

pub returns-in_err-corner-clause-none : goal.returns-in_err-corner-clause-none
returns-in_err-corner-clause-none g c =
    let state = g.A.ArenaTrait.state in
    let links = g.A.ChainArenaTrait.interlinks in
    let arena = c.args.ring.now in
    let key = g.P.PtrKey.key in
    let start = key c.args.before in
    if_none (SeesNoEar state links arena start) c.from_residual.result (λ items from number ear.
    next_there state links arena start items from start 0 (reach_starts state links arena start items from) key c.args.before refl c.next.result c.next.ensures c.in_err-corner.was)

pub returns-in_err-after-clause-none : goal.returns-in_err-after-clause-none
returns-in_err-after-clause-none g c =
    let state = g.A.ArenaTrait.state in
    let links = g.A.ChainArenaTrait.interlinks in
    let arena = c.args.ring.now in
    let key = g.P.PtrKey.key in
    let start = key c.args.before in
    if_none (SeesNoEar state links arena start) c.from_residual-in_err-after.result (λ items from number ear.
    let long = begins_long items ear in
    let one = reach_next state links arena start items from start 0 (reach_starts state links arena start items from) key c.args.before refl c.next.result c.next.ensures c.in_ok-corner.corner c.in_ok-corner.was (omega (arith, long)) in
    next_there state links arena start items from (key c.in_ok-corner.corner) (0 + 1) one key c.in_ok-corner.corner refl c.next-2.result c.next-2.ensures c.in_err-after.was)

pub returns-in_err-a-clause-none : goal.returns-in_err-a-clause-none
returns-in_err-a-clause-none g c =
    let state = g.A.ArenaTrait.state in
    let links = g.A.ChainArenaTrait.interlinks in
    let arena = c.args.ring.now in
    let start = g.P.PtrKey.key c.args.before in
    if_none (SeesNoEar state links arena start) c.from_residual-in_err-a.result (λ items from number ear.
    let some = c.get.ensures.some.1 (valid_there state links arena start items from start 0 (reach_starts state links arena start items from)) in
    let none = ap is_some c.in_err-a.was in
    let both = sym some ∙ none in
    absurd (cc))

pub returns-in_err-c-clause-none : goal.returns-in_err-c-clause-none
returns-in_err-c-clause-none g c =
    let state = g.A.ArenaTrait.state in
    let links = g.A.ChainArenaTrait.interlinks in
    let arena = c.args.ring.now in
    let key = g.P.PtrKey.key in
    let start = key c.args.before in
    if_none (SeesNoEar state links arena start) c.from_residual-in_err-c.result (λ items from number ear.
    let long = begins_long items ear in
    let one = reach_next state links arena start items from start 0 (reach_starts state links arena start items from) key c.args.before refl c.next.result c.next.ensures c.in_ok-corner.corner c.in_ok-corner.was (omega (arith, long)) in
    let two = reach_next state links arena start items from (key c.in_ok-corner.corner) (0 + 1) one key c.in_ok-corner.corner refl c.next-2.result c.next-2.ensures c.in_ok-after.after c.in_ok-after.was (omega (arith, long)) in
    let some = c.get-3.ensures.some.1 (valid_there state links arena start items from (key c.in_ok-after.after) (0 + 1 + 1) two) in
    let none = ap is_some c.in_err-c.was in
    let both = sym some ∙ none in
    absurd (cc))

pub returns-else-is_left-clause-none : goal.returns-else-is_left-clause-none
returns-else-is_left-clause-none g c = λ items from number ear.
    let state = g.A.ArenaTrait.state in
    let links = g.A.ChainArenaTrait.interlinks in
    let arena = c.args.ring.now in
    let entry = g.A.ArenaTrait.entry arena in
    let key = g.P.PtrKey.key in
    three_first (λ (l : List (Item g.row.P-Gen.Denot Point)). IsRingFrom state links arena (key c.args.before) l × (count (g.A.ArenaTrait.view arena) ≡ length l)) items (from, number.alone) ear (λ a m b rest holds is.
    let ring = holds.0.ring in
    let at_a = sym (one_some holds.0.first) in
    let at_m = next_is_second state links key arena c.args.before c.in_ok-corner.corner c.next.result a m (b ∷ rest) c.next.ensures c.in_ok-corner.was at_a ring in
    let second = ring_turned state links arena (a ∷ []) (m ∷ b ∷ rest) ring in
    let at_b = next_is_second state links key arena c.in_ok-corner.corner c.in_ok-after.after c.next-2.result m b (rest ++ a ∷ []) c.next-2.ensures c.in_ok-after.was at_m second in
    let same = triangle_same
    (value_got entry (key c.args.before) a c.get.result c.in_ok-a.field-0 c.get.ensures.value c.in_ok-a.was at_a ring.are_stored.0)
    (value_got entry (key c.in_ok-corner.corner) m c.get-2.result c.in_ok-b.field-0 c.get-2.ensures.value c.in_ok-b.was at_m ring.are_stored.1.0)
    (value_got entry (key c.in_ok-after.after) b c.get-3.result c.in_ok-c.field-0 c.get-3.ensures.value c.in_ok-c.was at_b ring.are_stored.1.1.0) in
    elim c.else-is_left.branch [
      | else-is_left-via-then-is_left+else-not-holds_corner w ↦
          let held = w.holds_corner.ensures.some w.if-not-holds_corner.false in
          let inside = subst (λ (t : Triangle). IsInTriangle t held.point) same held.inside in
          is.empty held.point (others_have (the_triangle a.1 m.1 b.1) (points rest) held.point (all_in_ring state links arena (a ∷ m ∷ b ∷ rest) ring holds.1 held.at held.point held.stored) inside) inside
      | else-is_left-via-else-is_left w ↦
          false≢true (sym w.if-is_left.false ∙ c.is_left.ensures.1 (subst (λ (t : Triangle). pos 0 <ℤ triangle_area t) (sym same) is.positive))
    ])
