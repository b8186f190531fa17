use Rattle.std.proofs.Common.{refl}
use Rattle.linked_lists.specs.LinkedLists.{MovesToFront}
use Rattle.linked_lists.proofs.MoveLemmas.{moves_to_front, each_to_front}
use Rattle.linked_lists.proofs.linked_lists.LinkedLists.move_to_front.Given.{Over}
use Rattle.linked_lists.proofs.linked_lists.LinkedLists.move_to_front.Goals.{After-move_after}
use Rattle.linked_lists.proofs.linked_lists.LinkedLists.move_to_front.Goals as goal

moved : (g : Over) (c : After-move_after g) → MovesToFront g.A.ArenaTrait.state g.A.ChainArenaTrait.interlinks c.self.inside.arena (g.P.PtrKey.key c.args.p) (g.P.PtrKey.key c.args.h.head) c.move_after.result c.move_after.new.self
moved g c =
    let item = rw (← c.self.view_is) at (c.if-not-is_item.ensures.0 refl) in
    let head = rw (← c.self.view_is) at (c.if-not-is_list.ensures.0 refl) in
    moves_to_front g.A.ArenaTrait.state g.A.ChainArenaTrait.interlinks c.self.inside.arena c.move_after.new.self (g.P.PtrKey.key c.args.p) g.P.PtrKey.key c.args.p c.args.h.head refl c.move_after.result item head c.move_after.ensures.outcome c.move_after.ensures.none

pub returns : goal.returns
returns g c = rw (← c.self.view_is) (moved g c)

pub invariant_of-self : goal.invariant_of-self
invariant_of-self g c = each_to_front g.A.ArenaTrait.state g.A.ChainArenaTrait.interlinks c.self.inside.arena c.move_after.new.self (g.P.PtrKey.key c.args.p) (g.P.PtrKey.key c.args.h.head) c.self.invariant c.move_after.result (moved g c)
