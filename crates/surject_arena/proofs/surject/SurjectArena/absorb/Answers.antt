use Rattle.std.proofs.Common.{arith}
use Rattle.surject_arena.proofs.UnionLemmas.{both_fit, is_returned, partition_joined, are_absorbed}
use Rattle.surject_arena.proofs.surject.SurjectArena.absorb.Goals as goal

pub overflow_add-n : goal.overflow_add-n
overflow_add-n g c =
    let few = both_fit g.P.PtrKey.key g.P.Gen.GenKey.following g.A.ArenaTrait.state g.A.ChainArenaTrait.interlinks g.B.ArenaTrait.state c.self.inside.keys c.self.inside.keys c.self.inside.keys c.self.inside.values c.self.inside.values c.self.inside.values c.self.inside.redirected
    c.self.invariant c.args.p c.args.q c.args.v c.args.w (rw (← c.self.view_is) at c.requires.first) (rw (← c.self.view_is) at c.requires.second) c.requires.differ c.size_of-n.result c.size_of-m.result c.size_of-n.ensures c.size_of-m.ensures in
    omega (arith, few, c.invariants.ensures.sound.one_more)

pub unreachable-requires : goal.unreachable-requires
unreachable-requires g c =
    is_returned g.P.PtrKey.key g.P.Gen.GenKey.following g.A.ArenaTrait.state g.A.ChainArenaTrait.interlinks g.B.ArenaTrait.state c.self.inside.keys c.redirect.new.keys c.exchange_next.new.self c.self.inside.values c.set_size.new.values c.take_value.new.values c.self.inside.redirected
    c.self.invariant c.args.p c.args.q c.args.v c.args.w (rw (← c.self.view_is) at c.requires.first) (rw (← c.self.view_is) at c.requires.second) c.requires.differ c.size_of-n.result c.size_of-m.result c.size_of-n.ensures c.size_of-m.ensures
    c.redirect.ensures c.exchange_next.result c.exchange_next.ensures.outcome c.set_size.ensures c.take_value.result c.take_value.ensures c.in-None.is

pub invariant_of-self : goal.invariant_of-self
invariant_of-self g c =
    partition_joined g.P.PtrKey.key g.P.Gen.GenKey.following g.A.ArenaTrait.state g.A.ChainArenaTrait.interlinks g.B.ArenaTrait.state c.self.inside.keys c.redirect.new.keys c.exchange_next.new.self c.self.inside.values c.set_size.new.values c.take_value.new.values c.self.inside.redirected
    c.self.invariant c.args.p c.args.q c.args.v c.args.w (rw (← c.self.view_is) at c.requires.first) (rw (← c.self.view_is) at c.requires.second) c.requires.differ c.size_of-n.result c.size_of-m.result c.size_of-n.ensures c.size_of-m.ensures
    c.redirect.ensures c.exchange_next.result c.exchange_next.ensures.outcome c.set_size.ensures c.take_value.result c.take_value.ensures

pub returns : goal.returns
returns g c =
    rw (← c.self.view_is) (are_absorbed g.P.PtrKey.key g.P.Gen.GenKey.following g.A.ArenaTrait.state g.A.ChainArenaTrait.interlinks g.B.ArenaTrait.state c.self.inside.keys c.redirect.new.keys c.exchange_next.new.self c.self.inside.values c.set_size.new.values c.take_value.new.values c.self.inside.redirected
    c.self.invariant c.args.p c.args.q c.args.v c.args.w (rw (← c.self.view_is) at c.requires.first) (rw (← c.self.view_is) at c.requires.second) c.requires.differ c.size_of-n.result c.size_of-m.result c.size_of-n.ensures c.size_of-m.ensures
    c.redirect.ensures c.exchange_next.result c.exchange_next.ensures.outcome c.set_size.ensures c.take_value.result c.take_value.ensures
    c.in-Some.t c.saturating_add-self-inside.result c.in-Some.is c.saturating_add-self-inside.ensures)
