use Rattle.std.proofs.Common.{refl}
use Rattle.linked_lists.proofs.ReadingLemmas.{reads_last_link}
use Rattle.linked_lists.proofs.linked_lists.LinkedLists.last_link.Goals as goal

pub returns-then-is_list : goal.returns-then-is_list
returns-then-is_list g c =
    let head = rw (← c.self.view_is) at (c.if-is_list.ensures.0 refl) in
    rw (← c.self.view_is) (reads_last_link g.A.ArenaTrait.state g.A.ChainArenaTrait.interlinks g.P.PtrKey.key c.self.inside.arena c.args.h.head c.self.invariant head c.prev_link.result c.prev_link.ensures)
