use Rattle.linked_lists.proofs.ListLemmas.{all_in_lists}
use Rattle.linked_lists.proofs.linked_lists.LinkedLists.all_in_lists.Goals as goal

pub returns : goal.returns
returns g c = rw (← c.self.view_is) (all_in_lists g.A.ArenaTrait.state g.A.ChainArenaTrait.interlinks c.self.inside.arena c.self.invariant)
