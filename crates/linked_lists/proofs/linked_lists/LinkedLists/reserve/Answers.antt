use Rattle.linked_lists.proofs.ChangeLemmas.{each_viewed}
use Rattle.linked_lists.proofs.linked_lists.LinkedLists.reserve.Goals as goal

pub invariant_of-self : goal.invariant_of-self
invariant_of-self g c = each_viewed g.A.ArenaTrait.state g.A.ChainArenaTrait.interlinks c.self.inside.arena c.reserve.new.arena c.reserve.ensures.reserves.kept.0 c.reserve.ensures.reserves.kept.1 c.self.invariant
