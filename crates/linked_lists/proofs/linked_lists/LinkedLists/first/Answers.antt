use Rattle.std.proofs.Common.{refl}
use Rattle.linked_lists.proofs.ReadingLemmas.{reads_first}
use Rattle.linked_lists.proofs.linked_lists.LinkedLists.first.Goals as goal

pub returns : goal.returns
returns g c =
    let a = c.self.inside.arena in
    let may = rw (← c.self.view_is) at (c.if-not-is_list.ensures.0 refl) in
    let kept = rw (← c.self.view_is) at c.item_only.ensures in
    rw (← c.self.view_is) (reads_first g.A.ArenaTrait.state g.A.ChainArenaTrait.interlinks g.P.PtrKey.key a c.args.h.head c.next_link.result c.item_only.result kept may c.next_link.ensures)
