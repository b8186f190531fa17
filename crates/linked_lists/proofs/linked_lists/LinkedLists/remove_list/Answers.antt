use Rattle.std.proofs.Common.{[], ap}
use Rattle.arena_core.proofs.PointerKindLemmas.{kind_by}
use Rattle.arena_core.specs.Invalidation.{value_within}
use Rattle.linked_lists.proofs.ListRemovalLemmas.{removes_list, each_list_removed}
use Rattle.linked_lists.proofs.linked_lists.LinkedLists.remove_list.Goals as goal

pub returns-in-Some : goal.returns-in-Some
returns-in-Some g c =
    let emptied = rw (← c.self.view_is) at c.in-Some.ensures.1 in
    rw c.from_overflow.ensures (rw (ap (λ x. x.1) c.overflowing-overflow.ensures) (
    removes_list g.A.ArenaTrait.state g.A.ChainArenaTrait.interlinks (kind_by g.P.PtrKey g.P.Inx.InxKey g.P.Gen.GenKey) c.args.self.now c.self.inside.arena c.take.new.arena c.args.h.head (c.in-Some.items, c.in-Some.wrapped) emptied c.take.result c.take.ensures.item c.take.ensures.overflow))

pub returns-in-None : goal.returns-in-None
returns-in-None g c = ([], c.in-None.ensures)

pub invariant_of-self : goal.invariant_of-self
invariant_of-self g c =
    let emptied = rw (← c.self.view_is) at c.in-Some.ensures.1 in
    each_list_removed g.A.ArenaTrait.state g.A.ChainArenaTrait.interlinks (kind_by g.P.PtrKey g.P.Inx.InxKey g.P.Gen.GenKey) c.args.self.now c.self.inside.arena c.take.new.arena c.args.h.head (c.in-Some.items, c.in-Some.wrapped) emptied c.self.invariant (value_within c.take.result) c.take.ensures.item
