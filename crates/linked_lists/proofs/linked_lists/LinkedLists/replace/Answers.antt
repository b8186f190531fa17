use Rattle.std.proofs.Common.{refl}
use Rattle.linked_lists.specs.LinkedLists.{IsItem, ReplacesItem}
use Rattle.linked_lists.specs.RingCalls.{value_in}
use Rattle.linked_lists.proofs.ChangeLemmas.{replaces_item, each_replaced}
use Rattle.linked_lists.proofs.linked_lists.LinkedLists.replace.Given.{Over}
use Rattle.linked_lists.proofs.linked_lists.LinkedLists.replace.Goals.{After-value_of}
use Rattle.linked_lists.proofs.linked_lists.LinkedLists.replace.Goals as goal

changed : (g : Over) (c : After-value_of g) → IsItem (g.A.ArenaTrait.entry c.self.inside.arena) (g.P.PtrKey.key c.args.p)
    → ReplacesItem g.A.ArenaTrait.state g.A.ChainArenaTrait.interlinks c.self.inside.arena (g.P.PtrKey.key c.args.p) c.args.value (value_in c.replace.result) c.replace.new.self
changed g c item =
    let old = c.self.inside.arena in
    replaces_item g.A.ArenaTrait.state g.A.ChainArenaTrait.interlinks old c.replace.new.self g.P.PtrKey.key c.args.p c.args.value c.replace.result item c.replace.ensures.outcome c.replace.ensures.invalid
    (λ written. g.met.A.ChainArenaTrait.write_keeps old c.replace.new.self (g.P.PtrKey.key c.args.p).0 _ written) c.replace.ensures.implementation

pub returns : goal.returns
returns g c =
    let may = rw (← c.self.view_is) at (c.if-not-is_item.ensures.0 refl) in
    rw (← c.self.view_is) (rw c.value_of.ensures (changed g c may))

pub invariant_of-self : goal.invariant_of-self
invariant_of-self g c =
    let may = rw (← c.self.view_is) at (c.if-not-is_item.ensures.0 refl) in
    each_replaced g.A.ArenaTrait.state g.A.ChainArenaTrait.interlinks c.self.inside.arena c.replace.new.self (g.P.PtrKey.key c.args.p) c.self.invariant c.args.value (value_in c.replace.result) may (changed g c may)
