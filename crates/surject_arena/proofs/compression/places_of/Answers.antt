use Rattle.std.proofs.Common.{ℕ, map, length, List, sym, ap, ◌∙◌, subst, arith}
use Rattle.std.proofs.lemmas.List.{length-map}
use Rattle.arena_traits.specs.Advancers.{ahead}
use Rattle.arena_traits.specs.Entries.{index_of}
use Rattle.surject_arena.specs.KeySets.{IsAscending}
use Rattle.surject_arena.proofs.IterLemmas.{pointers, all_ahead, still_ascending, yields_first}
use Rattle.surject_arena.proofs.PlaceLemmas.{indexes, indexes_of, indexes_rise, Rise, ArePlaced, placing_begins, placing_goes_on, count_below}
use Rattle.surject_arena.proofs.compression.places_of.Goals as goal

pub loop-p-init : goal.loop-p-init
loop-p-init g c =
    let b = c.args.values.now in
    let es = (g.B.ArenaTrait.view b).entries in
    let ascends = (g.B.ArenaTrait.state b).ascends in
    let all = ap (λ cursor. pointers (ahead cursor es)) c.advancer-all.ensures ∙ all_ahead es ascends in
    record {
      up = subst IsAscending (sym c.advancer-all.ensures) tt;
      placed = subst (λ (l : List ℕ). ArePlaced (map index_of es) (indexes (pointers (ahead (g.B.ArenaTrait.cursor c.advancer-all.result) es))) l 0) (sym c.new-places.ensures.items)
          (placing_begins (map index_of es) _ (ap indexes all ∙ indexes_of es) (subst (λ ps. Rise 0 (indexes ps)) (sym all) (indexes_rise 1 0 es (omega arith) ascends)));
    }

pub overflow_add-n : goal.overflow_add-n
overflow_add-n g c =
    let b = c.args.values.now in
    let es = (g.B.ArenaTrait.view b).entries in
    let is = g.met.B.ArenaTrait.advances c.loop-p.all c.advance.new.self b _ c.in-Some.ensures in
    let first = ap indexes (yields_first es (g.B.ArenaTrait.state b).ascends (g.B.ArenaTrait.cursor c.loop-p.all) (g.B.ArenaTrait.cursor c.advance.new.self) (g.P.PtrKey.key c.in-Some.p) c.loop-p.invariant.up is) in
    omega (arith, count_below (map index_of es) _ _ _ c.loop-p.n _ c.loop-p.invariant.placed first, length-map es index_of, c.len.ensures.sound.one_more)

pub loop-p-smaller : goal.loop-p-smaller
loop-p-smaller g c =
    let b = c.args.values.now in
    let es = (g.B.ArenaTrait.view b).entries in
    let is = g.met.B.ArenaTrait.advances c.loop-p.all c.advance.new.self b _ c.in-Some.ensures in
    let first = ap indexes (yields_first es (g.B.ArenaTrait.state b).ascends (g.B.ArenaTrait.cursor c.loop-p.all) (g.B.ArenaTrait.cursor c.advance.new.self) (g.P.PtrKey.key c.in-Some.p) c.loop-p.invariant.up is) in
    omega (arith, ap length first)

pub loop-p-preserved : goal.loop-p-preserved
loop-p-preserved g c =
    let b = c.args.values.now in
    let es = (g.B.ArenaTrait.view b).entries in
    let ascends = (g.B.ArenaTrait.state b).ascends in
    let p = g.P.PtrKey.key c.in-Some.p in
    let before = g.B.ArenaTrait.cursor c.loop-p.all in
    let after = g.B.ArenaTrait.cursor c.advance.new.self in
    let is = g.met.B.ArenaTrait.advances c.loop-p.all c.advance.new.self b _ c.in-Some.ensures in
    let first = ap indexes (yields_first es ascends before after p c.loop-p.invariant.up is) in
    record {
      up = still_ascending es ascends before after _ c.loop-p.invariant.up is;
      placed = placing_goes_on (map index_of es) _ _ c.loop-p.places.items c.loop-p.n p.0 c.loop-p.invariant.placed first c.resize.new.self.items c.push.new.self.items
          (omega (arith, c.resize.new.self.ok.0, c.in_ok-resize.ensures.len, c.index_number-i.ensures))
          (λ j low inside. c.in_ok-resize.ensures.by_index.0 j 0 (omega (arith, low, c.index_number-i.ensures)) (omega (arith, inside, c.loop-p.places.ok.0)))
          c.in_ok-push.ensures.items;
    }
