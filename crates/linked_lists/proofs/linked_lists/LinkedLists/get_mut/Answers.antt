use Rattle.std.proofs.Common.{Some, refl, ◌∙◌, ap}
use Rattle.linked_lists.specs.declared.entry.Entry.TheVariants as entries
use Rattle.linked_lists.specs.LinkedLists.{HasItem}
use Rattle.linked_lists.specs.RingCalls.{value_in}
use Rattle.linked_lists.proofs.ListLemmas.{item_valid, not_both}
use Rattle.linked_lists.proofs.ChangeLemmas.{written, each_written, read_through, on_any, same_value}
use Rattle.linked_lists.proofs.linked_lists.LinkedLists.get_mut.Goals as goal

pub invariant_of-self-lent : goal.invariant_of-self-lent
invariant_of-self-lent g c w =
    let state = g.A.ArenaTrait.state in
    let interlinks = g.A.ChainArenaTrait.interlinks in
    let a = c.self.inside.arena in
    let p = g.P.PtrKey.key c.args.p in
    let lender = c.get_mut.follows.lender in
    let e = c.in-Some-get_mut.entry.now in
    let item = c.in-Some.ensures.some in (
      (λ t i.
          let held = rw c.in-Some-get_mut.is at (c.get_mut.follows.holds (entries.Item t)) in
          each_written state interlinks a (lender (entries.Item t)) p item c.self.invariant (entries.Item t) t refl held.0 (g.met.A.ChainArenaTrait.write_keeps _ _ _ _ held.1) i),
      (λ i.
          let held = rw c.in-Some-get_mut.is at (c.get_mut.follows.holds e) in
          each_written state interlinks a (lender e) p item c.self.invariant e item.value (same_value (g.A.ArenaTrait.entry a) p e item.value c.in-Some-get_mut.ensures.value item.stored) held.0 (g.met.A.ChainArenaTrait.write_keeps _ _ _ _ held.1) i),
    )

pub returns-in-Some-get_mut : goal.returns-in-Some-get_mut
returns-in-Some-get_mut g c =
    let state = g.A.ArenaTrait.state in
    let interlinks = g.A.ChainArenaTrait.interlinks in
    let a = c.self.inside.arena in
    let p = g.P.PtrKey.key c.args.p in
    let e = c.in-Some-get_mut.entry.now in
    let item = c.in-Some.ensures.some in
    let read = read_through (HasItem (g.A.ArenaTrait.entry a) p) c.value_mut.result item.value
    (c.value_mut.ensures.value ∙ ap (λ v. value_in (Some v)) (same_value (g.A.ArenaTrait.entry a) p e item.value c.in-Some-get_mut.ensures.value item.stored)) item.stored in (
      (
        refl,
        (λ t.
            let held = rw c.in-Some-get_mut.is at (c.get_mut.follows.holds (entries.Item t)) in
            on_any c.value_mut.result (rw (← c.self.view_is) (written state interlinks a (c.get_mut.follows.lender (entries.Item t)) p item t held.0 (g.met.A.ChainArenaTrait.write_keeps _ _ _ _ held.1)))),
        rw (← c.self.view_is) (λ none. absurd (none item)),
      ),
      record { writes_back = tt; some = rw (← c.self.view_is) (λ some. item, λ valid. read.0); value = rw (← c.self.view_is) read.1 },
    )

pub returns-in-None-get_mut : goal.returns-in-None-get_mut
returns-in-None-get_mut g c =
    let item = c.in-Some.ensures.some in
    absurd (not_both (c.in-None-get_mut.ensures.some.1 (item_valid (g.A.ArenaTrait.entry c.self.inside.arena) (g.P.PtrKey.key c.args.p) item.value item.stored)) refl)
