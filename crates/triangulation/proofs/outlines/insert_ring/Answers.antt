use Rattle.std.proofs.Common.{pos, ◌+◌, List, [], ◌∷◌, ◌++◌, map, take, length, refl, sym, ap, ◌∙◌, subst, arith}
use Rattle.std.proofs.lemmas.List.{take_more, map-append, length-append, length-map, length-take-le}
use Rattle.triangulation.specs.declared.points.Point.{Point}
use Rattle.triangulation.proofs.OutlineLemmas.{ring_begins, ring_grows}
use Rattle.triangulation.proofs.CornerIndexLemmas.{listed_none, listed_more}
use Rattle.triangulation.specs.CornerIndexes.{AreListed}
use Rattle.triangulation.proofs.outlines.insert_ring.Goals as goal

pub loop-corner-init : goal.loop-corner-init
loop-corner-init g c =
    let state = g.A.ArenaTrait.state in
    let entry = g.A.ArenaTrait.entry in
    let key = g.P.PtrKey.key in
    let item = c.in-Ok.ensures.outcome.0.item.entries in
    let pushed = c.in_ok-push.ensures.items ∙ ap (λ l. l ++ c.in-Ok.start ∷ []) c.requires.pointers in
    record {
      ring = ring_begins state g.A.ChainArenaTrait.interlinks c.start.new.self (key c.in-Ok.start) c.args.first c.in-Ok.ensures.outcome.0.list (omega (arith, c.in-Ok.ensures.outcome.0.item.more, ap length c.requires.ring));
      listed = subst (λ l. AreListed (entry c.start.new.self) l (c.args.first ∷ [])) (sym (ap (map key) pushed))
          (listed_more (entry c.args.ring.now) (entry c.start.new.self) [] [] (key c.in-Ok.start) c.args.first (listed_none (g.A.ArenaTrait.view c.args.ring.now) (entry c.args.ring.now) (state c.args.ring.now) c.requires.ring) refl item);
      number = ap length pushed;
    }

pub loop-corner-preserved : goal.loop-corner-preserved
loop-corner-preserved g c =
    let state = g.A.ArenaTrait.state in
    let entry = g.A.ArenaTrait.entry in
    let key = g.P.PtrKey.key in
    let now = c.loop-corner.invariant in
    let corner = c.in-Ok-insert_after.corner in
    let others = c.args.others.now in
    let index = c.loop-corner.corner-index in
    let more = ap (λ (l : List Point). c.args.first ∷ l) (take_more others index (record { x = pos 0; y = pos 0 }) c.loop-corner-test.true) in
    let pushed = c.in_ok-push-2.ensures.items in
    let keys = ap (map key) pushed ∙ map-append key c.loop-corner.pointers.items (corner ∷ []) in
    record {
      ring = ring_grows state g.A.ChainArenaTrait.interlinks c.loop-corner.ring c.insert_after.new.self (key c.in-Ok.start) (key c.loop-corner.last) (key corner) _ _ _
          now.ring c.in-Ok-insert_after.ensures.outcome.1.0.list c.in-Ok-insert_after.ensures.outcome.1.0.item.more more;
      listed = subst (λ l. AreListed (entry c.insert_after.new.self) l (c.args.first ∷ take (index + 1) others)) (sym keys)
          (subst (λ (l : List Point). AreListed (entry c.insert_after.new.self) (map key c.loop-corner.pointers.items ++ key corner ∷ []) l) (sym more)
          (listed_more (entry c.loop-corner.ring) (entry c.insert_after.new.self) (map key c.loop-corner.pointers.items) (c.args.first ∷ take index others) (key corner) _ now.listed
          (omega (arith, now.number, length-map c.loop-corner.pointers.items key, length-take-le index others (omega (arith, c.loop-corner-test.true)))) c.in-Ok-insert_after.ensures.outcome.1.0.item.entries));
      number = ap length pushed ∙ omega (arith, now.number, length-append c.loop-corner.pointers.items (corner ∷ []));
    }
