use Rattle.linked_lists.specs.LinkedLists.{GrowsAtStart}
use Rattle.linked_lists.proofs.InsertionLemmas.{pushes_front, each_at_start, each_added}
use Rattle.linked_lists.proofs.linked_lists.LinkedLists.push_front.Goals as goal

pub returns-clause-outcome : goal.returns-clause-outcome
returns-clause-outcome g c =
    let test = rw (← c.self.view_is) at c.is_list-may.ensures in
    rw (← c.self.view_is) (pushes_front g.A.ArenaTrait.state g.A.ChainArenaTrait.interlinks g.P.PtrKey.key _ c.self.inside.arena c.put_after.new.arena (g.P.PtrKey.key c.args.h.head) c.args.value c.put_after.result c.is_list-may.result test c.put_after.ensures.outcome)

pub invariant_of-self : goal.invariant_of-self
invariant_of-self g c =
    let state = g.A.ArenaTrait.state in
    let interlinks = g.A.ChainArenaTrait.interlinks in
    let old = c.self.inside.arena in
    let new = c.put_after.new.arena in
    let p = g.P.PtrKey.key c.args.h.head in
    let test = rw (← c.self.view_is) at c.is_list-may.ensures in
    each_added state interlinks g.P.PtrKey.key _ old new p c.args.value c.put_after.result _ (λ a b. GrowsAtStart state interlinks a b p) c.self.invariant
    (pushes_front state interlinks g.P.PtrKey.key _ old new p c.args.value c.put_after.result c.is_list-may.result test c.put_after.ensures.outcome)
    (λ q holds. each_at_start state interlinks old new p (g.P.PtrKey.key q, c.args.value) c.self.invariant holds)
