use Rattle.std.proofs.Common.{Some, Ok, refl}
use Rattle.linked_lists.specs.LinkedLists.{SplitsList}
use Rattle.linked_lists.proofs.ListLemmas.{each_of_all}
use Rattle.linked_lists.proofs.SplitLemmas.{splits_list, each_split}
use Rattle.linked_lists.proofs.linked_lists.LinkedLists.split_at.Given.{Over}
use Rattle.linked_lists.proofs.linked_lists.LinkedLists.split_at.Goals.{After-splice_after}
use Rattle.linked_lists.proofs.linked_lists.LinkedLists.split_at.Goals as goal

split : (g : Over) (c : After-splice_after g) → SplitsList g.A.ArenaTrait.state g.A.ChainArenaTrait.interlinks g.P.PtrKey.key (λ h. g.P.PtrKey.key h.head) g.P.Inx.InxKey.greatest c.args.self.now c.args.p (Ok (Some c.in_ok-h.h)) c.splice_after.new.self
split g c =
    let started = rw (← c.self.view_is) at c.in_ok-h.ensures.outcome.outcome in
    splits_list g.A.ArenaTrait.state g.A.ChainArenaTrait.interlinks c.args.self.now c.self.inside.arena c.splice_after.new.self g.P.PtrKey.key (λ h. g.P.PtrKey.key h.head) g.P.Inx.InxKey.greatest c.args.p c.in_ok-h.h c.in_ok-h.h.head c.in-Some.last refl
    c.in-Some.ensures.0 started.0 started.1 c.in-Some.ensures.1 c.in-Some.ensures.2 c.splice_after.result c.splice_after.ensures.outcome

pub returns : goal.returns
returns g c = split g c

pub invariant_of-self : goal.invariant_of-self
invariant_of-self g c =
    let done = split g c in
    each_split g.A.ArenaTrait.state g.A.ChainArenaTrait.interlinks c.args.self.now c.splice_after.new.self (g.P.PtrKey.key c.args.p) (g.P.PtrKey.key c.in_ok-h.h.head)
    (each_of_all g.A.ArenaTrait.state g.A.ChainArenaTrait.interlinks c.args.self.now c.all_in_lists.ensures) done.0 done.1
