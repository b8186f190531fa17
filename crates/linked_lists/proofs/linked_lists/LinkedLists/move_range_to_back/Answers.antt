use Rattle.std.proofs.Common.{refl, subst}
use Rattle.linked_lists.specs.LinkedLists.{MovesRangeToBack}
use Rattle.linked_lists.specs.RingCalls.{EndsList}
use Rattle.linked_lists.proofs.ListLemmas.{not_both}
use Rattle.linked_lists.proofs.RangeMoveLemmas.{moves_range_to_back, range_at_end, each_range_to_back}
use Rattle.linked_lists.proofs.linked_lists.LinkedLists.move_range_to_back.Given.{Over}
use Rattle.linked_lists.proofs.linked_lists.LinkedLists.move_range_to_back.Goals.{After-splice_after}
use Rattle.linked_lists.proofs.linked_lists.LinkedLists.move_range_to_back.Goals as goal

moved : (g : Over) (c : After-splice_after g) → MovesRangeToBack g.A.ArenaTrait.state g.A.ChainArenaTrait.interlinks c.self.inside.arena (g.P.PtrKey.key c.args.first) (g.P.PtrKey.key c.args.last) (g.P.PtrKey.key c.args.h.head) c.splice_after.result c.splice_after.new.self
moved g c =
    let range = rw (← c.self.view_is) at c.requires in
    let end = rw (← c.self.view_is) at c.in-Some.ensures in
    moves_range_to_back g.A.ArenaTrait.state g.A.ChainArenaTrait.interlinks c.self.inside.arena c.splice_after.new.self (g.P.PtrKey.key c.args.first) (g.P.PtrKey.key c.args.last) (g.P.PtrKey.key c.args.h.head) (g.P.PtrKey.key c.args.h.head) range end.0 g.P.PtrKey.key c.args.first c.args.last c.in-Some.end refl refl
    (λ same. not_both (c.are_same.ensures.1 same) c.if-are_same.false) end.2 end.1 c.splice_after.result c.splice_after.ensures.outcome c.splice_after.ensures.none

pub returns : goal.returns
returns g c = rw (← c.self.view_is) (moved g c)

pub returns-then-are_same : goal.returns-then-are_same
returns-then-are_same g c =
    range_at_end g.A.ArenaTrait.state g.A.ChainArenaTrait.interlinks c.args.self.now c.args.self.now (g.P.PtrKey.key c.args.first) (g.P.PtrKey.key c.args.last) (g.P.PtrKey.key c.args.h.head) (g.P.PtrKey.key c.args.h.head) c.requires c.in-Some.ensures.0 refl
    (subst (EndsList g.A.ArenaTrait.state g.A.ChainArenaTrait.interlinks c.args.self.now (g.P.PtrKey.key c.args.h.head)) (c.if-are_same.ensures.0 refl) c.in-Some.ensures.2)

pub invariant_of-self : goal.invariant_of-self
invariant_of-self g c =
    let range = rw (← c.self.view_is) at c.requires in
    each_range_to_back g.A.ArenaTrait.state g.A.ChainArenaTrait.interlinks c.self.inside.arena c.splice_after.new.self (g.P.PtrKey.key c.args.first) (g.P.PtrKey.key c.args.last) (g.P.PtrKey.key c.args.h.head) (g.P.PtrKey.key c.args.h.head) c.self.invariant range c.splice_after.result (moved g c)
