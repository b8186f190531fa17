use Rattle.std.proofs.Common.{refl}
use Rattle.linked_lists.proofs.ListLemmas.{not_both}
use Rattle.linked_lists.proofs.ReadingLemmas.{reads_prev, no_prev}
use Rattle.linked_lists.proofs.linked_lists.LinkedLists.prev.Goals as goal

pub returns : goal.returns
returns g c =
    let a = c.self.inside.arena in
    let may = rw (← c.self.view_is) at (c.if-not-is_item.ensures.0 refl) in
    let kept = rw (← c.self.view_is) at c.item_only.ensures in
    rw (← c.self.view_is) (reads_prev g.A.ArenaTrait.state g.A.ChainArenaTrait.interlinks g.P.PtrKey.key a c.args.p c.prev_link.result c.item_only.result kept may c.prev_link.ensures)

pub returns-then-not-is_item : goal.returns-then-not-is_item
returns-then-not-is_item g c = no_prev g.A.ArenaTrait.state g.A.ChainArenaTrait.interlinks g.P.PtrKey.key c.args.self.now c.args.p (λ item. not_both (c.is_item.ensures.1 item) c.if-not-is_item.true)
