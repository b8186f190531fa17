use Rattle.std.proofs.Common.{refl}
use Rattle.linked_lists.specs.LinkedLists.{MovesAfterItem}
use Rattle.linked_lists.proofs.ListLemmas.{not_both}
use Rattle.linked_lists.proofs.MoveLemmas.{moves_after_item, each_after_item}
use Rattle.linked_lists.proofs.linked_lists.LinkedLists.move_after.Given.{Over}
use Rattle.linked_lists.proofs.linked_lists.LinkedLists.move_after.Goals.{After-move_after}
use Rattle.linked_lists.proofs.linked_lists.LinkedLists.move_after.Goals as goal

moved : (g : Over) (c : After-move_after g) → MovesAfterItem g.A.ArenaTrait.state g.A.ChainArenaTrait.interlinks c.self.inside.arena (g.P.PtrKey.key c.args.p) (g.P.PtrKey.key c.args.q) c.move_after.result c.move_after.new.self
moved g c =
    let item = rw (← c.self.view_is) at (c.if-not-is_item.ensures.0 refl) in
    let target = rw (← c.self.view_is) at (c.if-not-is_item-2.ensures.0 refl) in
    moves_after_item g.A.ArenaTrait.state g.A.ChainArenaTrait.interlinks c.self.inside.arena c.move_after.new.self (g.P.PtrKey.key c.args.p) g.P.PtrKey.key c.args.p c.args.q refl (λ same. not_both (c.are_same.ensures.1 same) c.if-are_same.false)
    c.move_after.result item target c.move_after.ensures.outcome c.move_after.ensures.none

pub returns : goal.returns
returns g c = rw (← c.self.view_is) (moved g c)

pub invariant_of-self : goal.invariant_of-self
invariant_of-self g c = each_after_item g.A.ArenaTrait.state g.A.ChainArenaTrait.interlinks c.self.inside.arena c.move_after.new.self (g.P.PtrKey.key c.args.p) (g.P.PtrKey.key c.args.q) c.self.invariant c.move_after.result (moved g c)

pub returns-then-are_same : goal.returns-then-are_same
returns-then-are_same g c = (λ both. both.2 (c.if-are_same.ensures.0 refl), refl)
