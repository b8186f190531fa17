use Rattle.std.proofs.Common.{refl}
use Rattle.linked_lists.specs.declared.handle.ListHandle.{ListHandle}
use Rattle.linked_lists.proofs.HandleLemmas.{no_end, reads_end}
use Rattle.linked_lists.proofs.linked_lists.LinkedLists.end_of_list_of.Goals as goal

pub returns-in-Some : goal.returns-in-Some
returns-in-Some g c =
    let item = c.if-not-is_item.ensures.0 refl in
    let finds = rw c.self.view_is at c.in-Some.ensures in
    reads_end g.A.ArenaTrait.state g.A.ChainArenaTrait.interlinks g.P.PtrKey.key (λ h. g.P.PtrKey.key h.head) c.args.self.now c.args.p c.all_in_lists.ensures item c.in-Some.h finds c.last_link.result c.last_link.ensures

pub returns-in-None : goal.returns-in-None
returns-in-None g c =
    let item = c.if-not-is_item.ensures.0 refl in
    let finds = rw c.self.view_is at c.in-None.ensures in
    no_end g.A.ArenaTrait.state g.A.ChainArenaTrait.interlinks {H = ListHandle g.row.P.Denot g.row.P-Inx.Denot g.row.P-Gen.Denot g.row.P-Inx-Word.Denot} g.P.PtrKey.key (λ h. g.P.PtrKey.key h.head) c.args.self.now c.args.p c.all_in_lists.ensures item finds
