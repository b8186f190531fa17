use Rattle.std.proofs.Common.{refl}
use Rattle.linked_lists.specs.LinkedLists.{JoinsLists}
use Rattle.linked_lists.proofs.ListLemmas.{not_both}
use Rattle.linked_lists.proofs.RunLemmas.{joins_nothing, appends_run, each_joined}
use Rattle.linked_lists.proofs.linked_lists.LinkedLists.join.Given.{Over}
use Rattle.linked_lists.proofs.linked_lists.LinkedLists.join.Goals.{After-splice_after}
use Rattle.linked_lists.proofs.linked_lists.LinkedLists.join.Goals as goal

appended : (g : Over) (c : After-splice_after g) → JoinsLists g.A.ArenaTrait.state g.A.ChainArenaTrait.interlinks c.self.inside.arena (g.P.PtrKey.key c.args.h.head) (g.P.PtrKey.key c.args.k.head) c.splice_after.result c.splice_after.new.self
appended g c =
    let end = rw (← c.self.view_is) at c.in-Some.ensures in
    let last = rw (← c.self.view_is) at c.in-Some-last_link.ensures in
    let first = rw (← c.self.view_is) at c.in-Some-first.ensures in
    appends_run g.A.ArenaTrait.state g.A.ChainArenaTrait.interlinks g.P.PtrKey.key c.self.inside.arena c.splice_after.new.self c.args.h.head c.args.k.head c.self.invariant end.0 last.0
    (λ same. not_both (c.are_same.ensures.1 same) c.if-are_same.false)
    c.in-Some.end c.in-Some-first.first c.in-Some-last_link.last end.2 last.2 end.1 last.1 first c.splice_after.result c.splice_after.ensures.outcome c.splice_after.ensures.none

pub returns-then-are_same : goal.returns-then-are_same
returns-then-are_same g c = (λ both. both.2 (c.if-are_same.ensures.0 refl), refl)

pub returns-in-Some-first : goal.returns-in-Some-first
returns-in-Some-first g c = rw (← c.self.view_is) (appended g c)

pub returns-in-None : goal.returns-in-None
returns-in-None g c =
    let end = rw (← c.self.view_is) at c.in-Some.ensures in
    let last = rw (← c.self.view_is) at c.in-Some-last_link.ensures in
    let none = rw (← c.self.view_is) at c.in-None.ensures in
    rw (← c.self.view_is) (joins_nothing g.A.ArenaTrait.state g.A.ChainArenaTrait.interlinks g.P.PtrKey.key c.self.inside.arena c.self.inside.arena c.args.h.head c.args.k.head c.self.invariant end.0 last.0
    (λ same. not_both (c.are_same.ensures.1 same) c.if-are_same.false) none refl)

pub invariant_of-self : goal.invariant_of-self
invariant_of-self g c = each_joined g.A.ArenaTrait.state g.A.ChainArenaTrait.interlinks c.self.inside.arena c.splice_after.new.self (g.P.PtrKey.key c.args.h.head) (g.P.PtrKey.key c.args.k.head) c.self.invariant c.splice_after.result (appended g c)
