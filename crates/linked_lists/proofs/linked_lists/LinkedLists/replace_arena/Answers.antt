use Rattle.std.proofs.Common.{sym, subst}
use Rattle.linked_lists.specs.LinkedLists.{EachInList}
use Rattle.linked_lists.proofs.linked_lists.LinkedLists.replace_arena.Goals as goal

pub invariant_of-self : goal.invariant_of-self
invariant_of-self g c = subst (EachInList g.A.ArenaTrait.state g.A.ChainArenaTrait.interlinks) (sym c.replace.ensures.after) c.requires

pub returns-clause-lists : goal.returns-clause-lists
returns-clause-lists g c = subst (EachInList g.A.ArenaTrait.state g.A.ChainArenaTrait.interlinks) (sym c.replace.ensures.value) c.self.invariant
