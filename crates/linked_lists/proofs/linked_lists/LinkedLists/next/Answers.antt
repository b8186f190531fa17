use Rattle.std.proofs.Common.{refl}
use Rattle.linked_lists.proofs.ListLemmas.{not_both}
use Rattle.linked_lists.proofs.ReadingLemmas.{reads_next, no_next}
use Rattle.linked_lists.proofs.linked_lists.LinkedLists.next.Goals as goal

pub returns : goal.returns
returns g c =
    let a = c.self.inside.arena in
    let may = rw (← c.self.view_is) at (c.if-not-is_item.ensures.0 refl) in
    let kept = rw (← c.self.view_is) at c.item_only.ensures in
    rw (← c.self.view_is) (reads_next g.A.ArenaTrait.state g.A.ChainArenaTrait.interlinks g.P.PtrKey.key a c.args.p c.next_link.result c.item_only.result kept may c.next_link.ensures)

pub returns-then-not-is_item : goal.returns-then-not-is_item
returns-then-not-is_item g c = no_next g.A.ArenaTrait.state g.A.ChainArenaTrait.interlinks g.P.PtrKey.key c.args.self.now c.args.p (λ item. not_both (c.is_item.ensures.1 item) c.if-not-is_item.true)
