use Rattle.std.proofs.Common.{arith}
use Rattle.surject_arena.specs.Partitions.{counted, counted_view}
use Rattle.surject_arena.proofs.ViewLemmas.{added-each, grows-each}
use Rattle.surject_arena.proofs.SplitLemmas.{shares, partition_apart, key_set_apart, grows_apart}
use Rattle.surject_arena.proofs.surject.SurjectArena.set_apart.Goals as goal

pub overflow_sub-n : goal.overflow_sub-n
overflow_sub-n g c =
    let many = shares g.P.PtrKey.key g.A.ArenaTrait.state g.A.ChainArenaTrait.interlinks g.B.ArenaTrait.state c.self.inside.keys c.self.inside.keys c.self.inside.keys c.self.inside.values c.self.inside.values c.self.inside.values c.self.inside.redirected
    c.self.invariant c.args.p c.args.w c.args.w (rw (← c.self.view_is) at c.requires.key) (rw (← c.self.view_is) at c.requires.shared) c.size_of-n.result c.size_of-n.ensures in
    omega (arith, many)

pub invariant_of-self-2 : goal.invariant_of-self-2
invariant_of-self-2 g c =
    partition_apart g.P.PtrKey.key g.A.ArenaTrait.state g.A.ChainArenaTrait.interlinks g.B.ArenaTrait.state c.self.inside.keys c.put_into.new.keys c.leave_ring.new.keys c.self.inside.values c.insert_reallocating.new.self c.set_size.new.values c.self.inside.redirected
    c.self.invariant c.args.p c.args.w c.in-Ok.own (rw (← c.self.view_is) at c.requires.key) (rw (← c.self.view_is) at c.requires.shared) c.size_of-n.result c.size_of-n.ensures
    c.args.v c.in-Ok.ensures.outcome.0.entries c.set_size.ensures c.put_into.ensures c.leave_ring.ensures

pub returns-clause-outcome : goal.returns-clause-outcome
returns-clause-outcome g c =
    let b = c.self.inside.values in
    let d = c.insert_reallocating.new.self in
    let grown = c.in-Ok.ensures.outcome in
    let value = grown.0 in
    rw (← c.self.view_is) (
      key_set_apart g.P.PtrKey.key g.A.ArenaTrait.state g.A.ChainArenaTrait.interlinks g.B.ArenaTrait.state c.self.inside.keys c.put_into.new.keys c.leave_ring.new.keys b d c.set_size.new.values c.self.inside.redirected
          c.self.invariant c.args.p c.args.w c.in-Ok.own (rw (← c.self.view_is) at c.requires.key) (rw (← c.self.view_is) at c.requires.shared) c.size_of-n.result c.size_of-n.ensures
          c.args.v value.entries c.set_size.ensures c.put_into.ensures c.leave_ring.ensures
          (added-each counted_view g.B.ArenaTrait.state b d (counted c.args.v 1) (g.P.PtrKey.key c.in-Ok.own) value.entries value.more value.generation value.index value.slots value.counter value.maximum),
      grows_apart g.P.PtrKey.key g.A.ArenaTrait.state g.A.ChainArenaTrait.interlinks g.B.ArenaTrait.state c.self.inside.keys c.put_into.new.keys c.leave_ring.new.keys b d c.set_size.new.values c.self.inside.redirected
          c.self.invariant c.args.p c.args.w c.in-Ok.own (rw (← c.self.view_is) at c.requires.key) (rw (← c.self.view_is) at c.requires.shared) c.size_of-n.result c.size_of-n.ensures
          c.args.v value.entries c.set_size.ensures c.put_into.ensures c.leave_ring.ensures g.P.Inx.InxKey.greatest
          (grows-each counted_view g.P.Inx.InxKey.greatest (g.B.ArenaTrait.view b) (g.B.ArenaTrait.view d) grown.1),
    )
