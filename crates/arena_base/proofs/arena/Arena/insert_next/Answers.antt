use Rattle.std.proofs.Common.{◌<◌, ap, sym, ◌∙◌, arith}
use Rattle.arena_traits.specs.Arena.{insert_next}
use Rattle.arena_base.proofs.ArenaModelLemmas.{filled_freed_view, filled_next_view}
use Rattle.arena_base.proofs.arena.Arena.insert_next.Goals.{in-Some, in-None}
use Rattle.arena_base.proofs.arena.Arena.insert_next.Goals as goal

pub invariant_of-self : goal.invariant_of-self
invariant_of-self g c =
    let packed_number = g.P.Inx.InxKey.packed_number in
    let inside = c.self.inside in
    let capacity = g.S.SlotStack.capacity inside.slots in
    let maximum = g.S.SlotStack.maximum inside.slots in
    let within_capacity = rw (← c.self.view_is) at c.requires in
    let less : inside.len < g.P.Inx.InxKey.greatest = omega (arith, within_capacity, c.self.invariant.counted) in
    elim c.match-unpack.branch [
      | in-Some w ↦ rw w.self-inside-is
          (filled_freed_view packed_number c.self.invariant inside.counter capacity _ maximum _ inside.placed.count _ inside.touched.count w.position_of.result _ w.fill-self-inside.result c.args.t (g.S.SlotStack.items w.fill-self-inside.new.slots)
          (sym w.in-Some.ensures) w.position_of.ensures w.fill-self-inside.ensures.was w.fill-self-inside.ensures.items w.fill-self-inside.ensures.bounds.0 w.fill-self-inside.ensures.bounds.1 (rw w.self-inside-is at c.one_more-self-inside.ensures)).0
      | in-None w ↦ rw w.self-inside-is
          (filled_next_view packed_number c.self.invariant inside.counter capacity _ maximum _ inside.placed.count _ inside.touched.count c.args.t (g.S.SlotStack.items w.push_within.new.self)
          (sym w.in-None.ensures) less w.push_within.ensures.items w.push_within.ensures.capacity w.push_within.ensures.maximum (rw w.self-inside-is at c.one_more-self-inside.ensures)).0
    ]

pub returns-clause-after : goal.returns-clause-after
returns-clause-after g c =
    let packed_number = g.P.Inx.InxKey.packed_number in
    let inside = c.self.inside in
    let capacity = g.S.SlotStack.capacity inside.slots in
    let maximum = g.S.SlotStack.maximum inside.slots in
    let within_capacity = rw (← c.self.view_is) at c.requires in
    let less : inside.len < g.P.Inx.InxKey.greatest = omega (arith, within_capacity, c.self.invariant.counted) in
    let view_after = ap (λ a. insert_next a c.args.t) c.self.view_is in
    elim c.match-unpack.branch [
      | in-Some w ↦ rw w.self-inside-is
          ((filled_freed_view packed_number c.self.invariant inside.counter capacity _ maximum _ inside.placed.count _ inside.touched.count w.position_of.result _ w.fill-self-inside.result c.args.t (g.S.SlotStack.items w.fill-self-inside.new.slots)
          (sym w.in-Some.ensures) w.position_of.ensures w.fill-self-inside.ensures.was w.fill-self-inside.ensures.items w.fill-self-inside.ensures.bounds.0 w.fill-self-inside.ensures.bounds.1 (rw w.self-inside-is at c.one_more-self-inside.ensures)).1 ∙ view_after)
      | in-None w ↦ rw w.self-inside-is ((filled_next_view packed_number c.self.invariant inside.counter capacity _ maximum _ inside.placed.count _ inside.touched.count c.args.t (g.S.SlotStack.items w.push_within.new.self)
          (sym w.in-None.ensures) less w.push_within.ensures.items w.push_within.ensures.capacity w.push_within.ensures.maximum (rw w.self-inside-is at c.one_more-self-inside.ensures)).1 ∙ view_after)
    ]
