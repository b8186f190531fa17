use Rattle.std.proofs.Common.{refl}
use Rattle.linked_lists.proofs.ReadingLemmas.{reads_last}
use Rattle.linked_lists.proofs.linked_lists.LinkedLists.last.Goals as goal

pub returns : goal.returns
returns g c =
    let a = c.self.inside.arena in
    let may = rw (← c.self.view_is) at (c.if-not-is_list.ensures.0 refl) in
    let kept = rw (← c.self.view_is) at c.item_only.ensures in
    rw (← c.self.view_is) (reads_last g.A.ArenaTrait.state g.A.ChainArenaTrait.interlinks g.P.PtrKey.key a c.args.h.head c.prev_link.result c.item_only.result kept may c.prev_link.ensures)
