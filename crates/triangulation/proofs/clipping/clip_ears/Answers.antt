use Rattle.std.proofs.Common.{◌≡◌, ◌-◌, List, length, sym, subst, arith}
use Rattle.std.proofs.lemmas.List.{length-map}
use Rattle.chain_lists.specs.Lists.{Item}
use Rattle.triangulation.specs.declared.points.Point.{Point}
use Rattle.arena_core.proofs.PointerKindLemmas.{kind_by}
use Rattle.triangulation.specs.declared.points.Triangle.{Triangle}
use Rattle.triangulation.specs.Triangulations.{IsClipping}
use Rattle.triangulation.specs.Clippings.{points, IsRemaining}
use Rattle.triangulation.proofs.ClippingLemmas.{clipping_starts, clipping_ends}
use Rattle.triangulation.proofs.RingClippingLemmas.{remaining_shrinks, entries_kept}
use Rattle.triangulation.proofs.CornerIndexLemmas.{index_kept}
use Rattle.triangulation.proofs.clipping.clip_ears.Goals as goal

pub loop-left-init : goal.loop-left-init
loop-left-init g c = record {
  remaining = λ items from whole. record { remaining = items; ring = from; whole = whole; clipping = subst (λ (ts : List Triangle). IsClipping (points items) ts (points items)) (sym c.in_ok-triangles.ensures.items) (clipping_starts (points items)) };
  index = c.requires;
  enough = λ enough. enough;
}

pub loop-left-preserved : goal.loop-left-preserved
loop-left-preserved g c = record {
  remaining = λ items from whole. (
      let state = g.A.ArenaTrait.state in
      let links = g.A.ChainArenaTrait.interlinks in
      let key = g.P.PtrKey.key in
      let ear = c.in-Some.ear in
      let before = c.loop-left.invariant.remaining items from whole in
      let found = c.in-Some.ensures.ear before.remaining before.ring (omega (arith, before.whole.number, c.loop-left-test.true)) in
      subst (λ (ts : List Triangle). IsRemaining state links c.remove.new.self items ts (key ear.after) (c.loop-left.left - 1)) (sym c.in_ok-push.ensures.items)
      (remaining_shrinks state links (kind_by g.P.PtrKey g.P.Inx.InxKey g.P.Gen.GenKey) c.loop-left.ring c.remove.new.self ear.corner c.remove.result items c.loop-left.triangles.items (key c.loop-left.start) (key ear.before) (key ear.after) c.loop-left.left ear.triangle before found c.remove.ensures));
  index = (
      let entry = g.A.ArenaTrait.entry in
      let kept = entries_kept g.A.ArenaTrait.state g.A.ChainArenaTrait.interlinks (kind_by g.P.PtrKey g.P.Inx.InxKey g.P.Gen.GenKey) c.loop-left.ring c.remove.new.self c.in-Some.ear.corner c.remove.result c.remove.ensures in
      index_kept (entry c.loop-left.ring) (entry c.remove.new.self) _ _ _ _ kept c.loop-left.invariant.index);
  enough = λ enough. omega (arith, c.loop-left-test.true);
}

pub returns : goal.returns
returns g c = λ items from whole enough.
    let rest = c.loop-left.invariant.remaining items from whole in
    let two : length (points rest.remaining) ≡ 2 = omega (arith, length-map rest.remaining (λ (x : Item g.row.P-Gen.Denot Point). x.1), rest.whole.number, c.loop-left-test.false, c.loop-left.invariant.enough enough) in
    clipping_ends (points items) c.loop-left.triangles.items (points rest.remaining) two rest.clipping

pub returns-in-None : goal.returns-in-None
returns-in-None g c = λ items from whole enough.
    let rest = c.loop-left.invariant.remaining items from whole in
    record {
      triangles = c.loop-left.triangles.items;
      remaining = points rest.remaining;
      clipping = rest.clipping;
      three = omega (arith, length-map rest.remaining (λ (x : Item g.row.P-Gen.Denot Point). x.1), rest.whole.number, c.loop-left-test.true);
      none = c.in-None.ensures.none rest.remaining rest.ring rest.whole;
    }
