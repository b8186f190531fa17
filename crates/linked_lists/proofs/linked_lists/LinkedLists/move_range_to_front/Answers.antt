use Rattle.std.proofs.Common.{refl}
use Rattle.linked_lists.specs.LinkedLists.{MovesRangeToFront}
use Rattle.linked_lists.proofs.RangeMoveLemmas.{moves_range_to_front, each_range_to_front}
use Rattle.linked_lists.proofs.linked_lists.LinkedLists.move_range_to_front.Given.{Over}
use Rattle.linked_lists.proofs.linked_lists.LinkedLists.move_range_to_front.Goals.{After-splice_after}
use Rattle.linked_lists.proofs.linked_lists.LinkedLists.move_range_to_front.Goals as goal

moved : (g : Over) (c : After-splice_after g) → MovesRangeToFront g.A.ArenaTrait.state g.A.ChainArenaTrait.interlinks c.self.inside.arena (g.P.PtrKey.key c.args.first) (g.P.PtrKey.key c.args.last) (g.P.PtrKey.key c.args.h.head) c.splice_after.result c.splice_after.new.self
moved g c =
    let range = rw (← c.self.view_is) at c.requires in
    let may = rw (← c.self.view_is) at (c.if-not-is_list.ensures.0 refl) in
    moves_range_to_front g.A.ArenaTrait.state g.A.ChainArenaTrait.interlinks c.self.inside.arena c.splice_after.new.self (g.P.PtrKey.key c.args.first) (g.P.PtrKey.key c.args.last) g.P.PtrKey.key c.args.first c.args.last c.args.h.head refl refl range may c.splice_after.result c.splice_after.ensures.outcome c.splice_after.ensures.none

pub returns : goal.returns
returns g c = rw (← c.self.view_is) (moved g c)

pub invariant_of-self : goal.invariant_of-self
invariant_of-self g c =
    let range = rw (← c.self.view_is) at c.requires in
    each_range_to_front g.A.ArenaTrait.state g.A.ChainArenaTrait.interlinks c.self.inside.arena c.splice_after.new.self (g.P.PtrKey.key c.args.first) (g.P.PtrKey.key c.args.last) (g.P.PtrKey.key c.args.h.head) (g.P.PtrKey.key c.args.h.head) c.self.invariant range c.splice_after.result (moved g c)
