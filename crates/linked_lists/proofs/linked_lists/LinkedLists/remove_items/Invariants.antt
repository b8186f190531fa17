-- A part of the list is removed, and the rest is left.
use Rattle.arena_traits.specs.Entries.{count}
use Rattle.linked_lists.proofs.ListRemovalLemmas.{IsPartlyEmptied}
use Rattle.linked_lists.proofs.linked_lists.LinkedLists.remove_items.Given as goal

abbrev pub invariant-loop-p : goal.invariant-loop-p
invariant-loop-p g l = IsPartlyEmptied g.A.ArenaTrait.state g.A.ChainArenaTrait.interlinks g.P.Gen.GenKey.wraps g.P.Gen.GenKey.following l.fn.self l.self (g.P.PtrKey.key l.fn.h.head) l.wrapped

abbrev pub decreases-loop-p : goal.decreases-loop-p
decreases-loop-p g l = count (g.A.ArenaTrait.view l.self)
