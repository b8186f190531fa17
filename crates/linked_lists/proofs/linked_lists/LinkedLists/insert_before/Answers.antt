use Rattle.linked_lists.specs.LinkedLists.{GrowsBefore}
use Rattle.linked_lists.proofs.InsertionLemmas.{inserts_before, each_ahead, each_added}
use Rattle.linked_lists.proofs.linked_lists.LinkedLists.insert_before.Goals as goal

pub returns-clause-outcome : goal.returns-clause-outcome
returns-clause-outcome g c =
    let test = rw (← c.self.view_is) at c.is_item-may.ensures in
    rw (← c.self.view_is) (inserts_before g.A.ArenaTrait.state g.A.ChainArenaTrait.interlinks g.P.PtrKey.key _ c.self.inside.arena c.put_before.new.arena (g.P.PtrKey.key c.args.p) c.args.value c.put_before.result c.is_item-may.result test c.put_before.ensures.outcome)

pub invariant_of-self : goal.invariant_of-self
invariant_of-self g c =
    let state = g.A.ArenaTrait.state in
    let interlinks = g.A.ChainArenaTrait.interlinks in
    let old = c.self.inside.arena in
    let new = c.put_before.new.arena in
    let p = g.P.PtrKey.key c.args.p in
    let test = rw (← c.self.view_is) at c.is_item-may.ensures in
    each_added state interlinks g.P.PtrKey.key _ old new p c.args.value c.put_before.result _ (λ a b. GrowsBefore state interlinks a b p) c.self.invariant
    (inserts_before state interlinks g.P.PtrKey.key _ old new p c.args.value c.put_before.result c.is_item-may.result test c.put_before.ensures.outcome)
    (λ q holds. each_ahead state interlinks old new p (g.P.PtrKey.key q, c.args.value) c.self.invariant holds)
