use Rattle.std.proofs.Common.{refl}
use Rattle.linked_lists.proofs.WalkedLemmas.{lists_items, first_is_valid, some_or_none}
use Rattle.linked_lists.proofs.linked_lists.LinkedLists.walk.Goals as goal

pub returns-in-Some-2-clause-items : goal.returns-in-Some-2-clause-items
returns-in-Some-2-clause-items g c =
    let list = c.all_in_lists.ensures.lists (g.P.PtrKey.key c.args.h.head) (c.if-not-is_list.ensures.0 refl) in
    let is = rw (← c.self.view_is) at list.1 in
    let reads = rw (← c.self.view_is) at c.in-Some.ensures in
    let walk = rw c.in-Some-2.is at c.in_ok-pointers-in-Some.ensures.walk in
    let valid = rw c.in-Some-2.is at c.in_ok-pointers-in-Some.ensures.valid in
    rw (← c.self.view_is) (lists_items g.A.ArenaTrait.state g.A.ChainArenaTrait.interlinks g.P.PtrKey.key c.self.inside.arena c.args.h.head c.in-Some.first c.in-Some-2.pointers.items c.without_last.result.items list.0 is reads walk valid c.without_last.ensures)

pub unreachable-requires : goal.unreachable-requires
unreachable-requires g c =
    let list = c.all_in_lists.ensures.lists (g.P.PtrKey.key c.args.h.head) (c.if-not-is_list.ensures.0 refl) in
    let is = rw (← c.self.view_is) at list.1 in
    let reads = rw (← c.self.view_is) at c.in-Some.ensures in
    let some = c.in_ok-pointers-in-Some.ensures.some.1 (first_is_valid g.A.ArenaTrait.state g.A.ChainArenaTrait.interlinks g.P.PtrKey.key c.self.inside.arena c.args.h.head c.in-Some.first list.0 is reads) in
    some_or_none c.in_ok-pointers-in-Some.field-0 some c.in-None-2.is
