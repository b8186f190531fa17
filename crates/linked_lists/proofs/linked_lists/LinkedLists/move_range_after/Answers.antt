use Rattle.std.proofs.Common.{refl}
use Rattle.linked_lists.specs.LinkedLists.{MovesRangeAfter}
use Rattle.linked_lists.proofs.RangeMoveLemmas.{moves_range_after, each_range_after}
use Rattle.linked_lists.proofs.linked_lists.LinkedLists.move_range_after.Given.{Over}
use Rattle.linked_lists.proofs.linked_lists.LinkedLists.move_range_after.Goals.{After-splice_after}
use Rattle.linked_lists.proofs.linked_lists.LinkedLists.move_range_after.Goals as goal

moved : (g : Over) (c : After-splice_after g) → MovesRangeAfter g.A.ArenaTrait.state g.A.ChainArenaTrait.interlinks c.self.inside.arena (g.P.PtrKey.key c.args.first) (g.P.PtrKey.key c.args.last) (g.P.PtrKey.key c.args.q) c.splice_after.result c.splice_after.new.self
moved g c =
    let range = rw (← c.self.view_is) at c.requires in
    let may = rw (← c.self.view_is) at (c.if-not-is_item.ensures.0 refl) in
    moves_range_after g.A.ArenaTrait.state g.A.ChainArenaTrait.interlinks c.self.inside.arena c.splice_after.new.self (g.P.PtrKey.key c.args.first) (g.P.PtrKey.key c.args.last) g.P.PtrKey.key c.args.first c.args.last c.args.q refl refl range may c.splice_after.result c.splice_after.ensures.outcome c.splice_after.ensures.none

pub returns : goal.returns
returns g c = rw (← c.self.view_is) (moved g c)

pub invariant_of-self : goal.invariant_of-self
invariant_of-self g c =
    let range = rw (← c.self.view_is) at c.requires in
    each_range_after g.A.ArenaTrait.state g.A.ChainArenaTrait.interlinks c.self.inside.arena c.splice_after.new.self (g.P.PtrKey.key c.args.first) (g.P.PtrKey.key c.args.last) (g.P.PtrKey.key c.args.q) c.self.invariant range c.splice_after.result (moved g c)
