use Rattle.std.proofs.Common.{◌+◌, ◌∙◌, ap, ◌∷◌, [], arith}
use Rattle.arena_traits.specs.Entries.{count}
use Rattle.chain_lists.proofs.ItemListLemmas.{stored_kept}
use Rattle.polygons.proofs.RingLemmas.{split_along, exchange_keeps_view}
use Rattle.polygons.proofs.polygons.Polygons.split_within_capacity.Goals as goal

pub add_before-first-requires-clause-valid : goal.add_before-first-requires-clause-valid
add_before-first-requires-clause-valid g c = rw c.self.view_is (record { value = c.args.both.0; stored = c.requires.first })

pub add_before-first-requires-clause-capacity : goal.add_before-first-requires-clause-capacity
add_before-first-requires-clause-capacity g c = rw c.self.view_is (let within_capacity = c.requires.capacity in omega arith)

pub add_after-second-requires-clause-valid : goal.add_after-second-requires-clause-valid
add_after-second-requires-clause-valid g c =
    let v = g.P.PtrKey.key c.args.v in
    let stored = stored_kept (g.A.ArenaTrait.entry c.self.inside.corners) (g.A.ArenaTrait.entry c.add_before-first.new.corners) (g.P.PtrKey.key c.add_before-first.result) c.add_before-first.ensures.corner.item.entries.free c.add_before-first.ensures.corner.item.entries.rest
    ((v, c.args.both.1) ∷ []) (rw c.self.view_is (c.requires.second, tt)) in
    record { value = c.args.both.1; stored = stored.0 }

pub add_after-second-requires-clause-capacity : goal.add_after-second-requires-clause-capacity
add_after-second-requires-clause-capacity g c =
    let size = c.add_before-first.ensures.corner.item.more ∙ ap (λ (a : g.row.A.Denot). count (g.A.ArenaTrait.view a) + 1) c.self.view_is in
    let capacity = c.add_before-first.ensures.capacity ∙ ap (λ (a : g.row.A.Denot). (g.A.ArenaTrait.view a).capacity) c.self.view_is in
    let within_capacity = c.requires.capacity in
    omega arith

pub invariant_of-self : goal.invariant_of-self
invariant_of-self g c = c.add_after-second.ensures.all_cyclic (c.add_before-first.ensures.all_cyclic c.self.invariant)

pub returns : goal.returns
returns g c =
    let old = c.self.inside.corners in
    let first = c.add_before-first.new.corners in
    let second = c.add_after-second.new.corners in
    let new = c.exchange.new.self in
    let u = g.P.PtrKey.key c.args.u in
    let v = g.P.PtrKey.key c.args.v in
    let p = g.P.PtrKey.key c.add_before-first.result in
    let q = g.P.PtrKey.key c.add_after-second.result in
    record {
      rings = rw (← c.self.view_is) (split_along g.A.ArenaTrait.state g.A.ChainArenaTrait.interlinks old first second new u v p q c.args.both.0 c.args.both.1 (rw (← c.self.view_is) at c.requires.first) (rw (← c.self.view_is) at c.requires.second)
          c.add_before-first.ensures.corner c.add_after-second.ensures.corner c.exchange.result c.exchange.ensures);
      capacity = rw (← c.self.view_is) (ap (λ s. s.capacity) (exchange_keeps_view g.A.ArenaTrait.state g.A.ChainArenaTrait.interlinks second new v p c.exchange.result c.exchange.ensures) ∙ (c.add_after-second.ensures.capacity ∙ c.add_before-first.ensures.capacity));
    }
