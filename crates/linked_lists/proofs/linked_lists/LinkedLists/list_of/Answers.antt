use Rattle.std.proofs.Common.{refl}
use Rattle.linked_lists.proofs.ListLemmas.{not_both}
use Rattle.linked_lists.proofs.HandleLemmas.{reads_handle, no_handle}
use Rattle.linked_lists.proofs.linked_lists.LinkedLists.list_of.Goals as goal

pub returns : goal.returns
returns g c =
    let item = rw (← c.self.view_is) at (c.if-not-is_item.ensures.0 refl) in
    rw (← c.self.view_is) (reads_handle g.A.ArenaTrait.state g.A.ChainArenaTrait.interlinks g.P.PtrKey.key (λ h. g.P.PtrKey.key h.head) c.self.inside.arena c.args.p c.find_head.result item c.find_head.ensures)

pub returns-then-not-is_item : goal.returns-then-not-is_item
returns-then-not-is_item g c = no_handle g.A.ArenaTrait.state g.A.ChainArenaTrait.interlinks g.P.PtrKey.key (λ h. g.P.PtrKey.key h.head) c.args.self.now c.args.p (λ item. not_both (c.is_item.ensures.1 item) c.if-not-is_item.true)
