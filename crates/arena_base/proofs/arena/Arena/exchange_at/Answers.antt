use Rattle.std.proofs.Common.{sym, arith}
use Rattle.std.specs.Prelude.{slice_get}
use Rattle.arena_base.specs.Slots.{entry_in}
use Rattle.arena_base.proofs.SlotLemmas.{entry_at-position, the_value, allocated-at}
use Rattle.arena_base.proofs.ExchangeLemmas.{exchanged_sound, exchanged_view}
use Rattle.arena_base.proofs.arena.Arena.exchange_at.Goals as goal

pub exchange_values_at-requires-clause-first : goal.exchange_values_at-requires-clause-first
exchange_values_at-requires-clause-first g c =
    let items = g.S.SlotStack.items c.self.inside.slots in
    let some = rw (← c.self.view_is, entry_at-position items c.position_of.result (g.P.Inx.InxKey.number c.args.i) c.position_of.ensures) at c.requires.first in
    some

pub exchange_values_at-requires-clause-second : goal.exchange_values_at-requires-clause-second
exchange_values_at-requires-clause-second g c =
    let items = g.S.SlotStack.items c.self.inside.slots in
    let some = rw (← c.self.view_is, entry_at-position items c.position_of-2.result (g.P.Inx.InxKey.number c.args.j) c.position_of-2.ensures) at c.requires.second in
    some

pub invariant_of-self : goal.invariant_of-self
invariant_of-self g c =
    let packed_number = g.P.Inx.InxKey.packed_number in
    let number = g.P.Inx.InxKey.number in
    let items = g.S.SlotStack.items c.self.inside.slots in
    let k = c.position_of.result in
    let m = c.position_of-2.result in
    let some = rw (← c.self.view_is, entry_at-position items k (number c.args.i) c.position_of.ensures) at c.requires.first in
    let also = rw (← c.self.view_is, entry_at-position items m (number c.args.j) c.position_of-2.ensures) at c.requires.second in
    let e = the_value (entry_in (slice_get items k)) some in
    let f = the_value (entry_in (slice_get items m)) also in
    let first = allocated-at (slice_get items k) e.0 e.1 in
    let second = allocated-at (slice_get items m) f.0 f.1 in
    exchanged_sound packed_number k m (number c.args.i) (number c.args.j) e.0.0 f.0.0 e.0.1 f.0.1 c.self.invariant first second
    (λ is. c.requires.apart (omega (arith, is, c.position_of.ensures, c.position_of-2.ensures)))
    (c.exchange_values_at.ensures.items e.0.0 f.0.0 e.0.1 f.0.1 first second)

pub returns : goal.returns
returns g c h l t u at also_at =
    let packed_number = g.P.Inx.InxKey.packed_number in
    let number = g.P.Inx.InxKey.number in
    let slots = c.self.inside.slots in
    let items = g.S.SlotStack.items slots in
    let k = c.position_of.result in
    let m = c.position_of-2.result in
    let some = rw (← c.self.view_is, entry_at-position items k (number c.args.i) c.position_of.ensures) at at in
    let also = rw (← c.self.view_is, entry_at-position items m (number c.args.j) c.position_of-2.ensures) at also_at in
    let first = allocated-at (slice_get items k) (h, t) (sym some) in
    let second = allocated-at (slice_get items m) (l, u) (sym also) in
    rw (← c.self.view_is) (exchanged_view packed_number k m (number c.args.i) (number c.args.j) h l t u c.self.invariant first second
    (λ is. c.requires.apart (omega (arith, is, c.position_of.ensures, c.position_of-2.ensures)))
    (c.exchange_values_at.ensures.items h l t u first second)
    c.self.inside.counter (g.S.SlotStack.capacity slots) _ (g.S.SlotStack.maximum slots) _ c.self.inside.placed.count c.self.inside.touched.count
    c.position_of.ensures c.position_of-2.ensures c.exchange_values_at.ensures.bounds.0 c.exchange_values_at.ensures.bounds.1)
