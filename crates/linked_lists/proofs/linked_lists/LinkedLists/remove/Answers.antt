use Rattle.std.proofs.Common.{refl}
use Rattle.arena_core.proofs.PointerKindLemmas.{kind_by}
use Rattle.arena_core.specs.Invalidation.{value_within}
use Rattle.linked_lists.proofs.ChangeLemmas.{removes_item, each_removed}
use Rattle.linked_lists.proofs.linked_lists.LinkedLists.remove.Goals as goal

pub returns : goal.returns
returns g c =
    let may = rw (← c.self.view_is) at (c.if-not-is_item.ensures.0 refl) in
    rw (← c.self.view_is) (rw c.removed_value.ensures (removes_item g.A.ArenaTrait.state g.A.ChainArenaTrait.interlinks (kind_by g.P.PtrKey g.P.Inx.InxKey g.P.Gen.GenKey) c.self.inside.arena c.take.new.arena c.args.p c.take.result may c.take.ensures.item c.take.ensures.overflow))

pub invariant_of-self : goal.invariant_of-self
invariant_of-self g c =
    let may = rw (← c.self.view_is) at (c.if-not-is_item.ensures.0 refl) in
    each_removed g.A.ArenaTrait.state g.A.ChainArenaTrait.interlinks (kind_by g.P.PtrKey g.P.Inx.InxKey g.P.Gen.GenKey) c.self.inside.arena c.take.new.arena c.args.p c.self.invariant (value_within c.take.result) may c.take.ensures.item
