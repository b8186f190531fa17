use Rattle.std.proofs.Common.{refl, subst}
use Rattle.linked_lists.specs.LinkedLists.{MovesToBack}
use Rattle.linked_lists.specs.RingCalls.{EndsList}
use Rattle.linked_lists.proofs.ListLemmas.{not_both}
use Rattle.linked_lists.proofs.MoveLemmas.{moved_to_back, at_end_already, each_to_back}
use Rattle.linked_lists.proofs.linked_lists.LinkedLists.move_to_back.Given.{Over}
use Rattle.linked_lists.proofs.linked_lists.LinkedLists.move_to_back.Goals.{After-move_after}
use Rattle.linked_lists.proofs.linked_lists.LinkedLists.move_to_back.Goals as goal

moved : (g : Over) (c : After-move_after g) → MovesToBack g.A.ArenaTrait.state g.A.ChainArenaTrait.interlinks c.self.inside.arena (g.P.PtrKey.key c.args.p) (g.P.PtrKey.key c.args.h.head) c.move_after.result c.move_after.new.self
moved g c =
    let item = rw (← c.self.view_is) at (c.if-not-is_item.ensures.0 refl) in
    let end = rw (← c.self.view_is) at c.in-Some.ensures in
    moved_to_back g.A.ArenaTrait.state g.A.ChainArenaTrait.interlinks c.self.inside.arena c.move_after.new.self (g.P.PtrKey.key c.args.p) (g.P.PtrKey.key c.args.h.head) item end.0 g.P.PtrKey.key c.args.p c.in-Some.last refl
    (λ same. not_both (c.are_same.ensures.1 same) c.if-are_same.false) end.2 end.1 c.move_after.result c.move_after.ensures.outcome c.move_after.ensures.none

pub returns : goal.returns
returns g c = rw (← c.self.view_is) (moved g c)

pub returns-then-are_same : goal.returns-then-are_same
returns-then-are_same g c =
    let item = c.if-not-is_item.ensures.0 refl in
    let end = c.in-Some.ensures in
    at_end_already g.A.ArenaTrait.state g.A.ChainArenaTrait.interlinks c.args.self.now c.args.self.now (g.P.PtrKey.key c.args.p) (g.P.PtrKey.key c.args.h.head) item end.0 refl
    (subst (EndsList g.A.ArenaTrait.state g.A.ChainArenaTrait.interlinks c.args.self.now (g.P.PtrKey.key c.args.h.head)) (c.if-are_same.ensures.0 refl) end.2)

pub invariant_of-self : goal.invariant_of-self
invariant_of-self g c = each_to_back g.A.ArenaTrait.state g.A.ChainArenaTrait.interlinks c.self.inside.arena c.move_after.new.self (g.P.PtrKey.key c.args.p) (g.P.PtrKey.key c.args.h.head) c.self.invariant c.move_after.result (moved g c)
