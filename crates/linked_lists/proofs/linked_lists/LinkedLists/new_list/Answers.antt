use Rattle.linked_lists.proofs.ChangeLemmas.{starts_list, each_list_started}
use Rattle.linked_lists.proofs.linked_lists.LinkedLists.new_list.Goals as goal

pub returns-clause-outcome : goal.returns-clause-outcome
returns-clause-outcome g c = rw (← c.self.view_is) (starts_list g.A.ArenaTrait.state g.A.ChainArenaTrait.interlinks (λ h. g.P.PtrKey.key h.head) _ c.self.inside.arena c.start_ring.new.arena c.start_ring.result c.start_ring.ensures.outcome)

pub invariant_of-self : goal.invariant_of-self
invariant_of-self g c =
    let state = g.A.ArenaTrait.state in
    let interlinks = g.A.ChainArenaTrait.interlinks in
    each_list_started state interlinks (λ h. g.P.PtrKey.key h.head) _ c.self.inside.arena c.start_ring.new.arena c.start_ring.result c.self.invariant
    (starts_list state interlinks (λ h. g.P.PtrKey.key h.head) _ c.self.inside.arena c.start_ring.new.arena c.start_ring.result c.start_ring.ensures.outcome)
