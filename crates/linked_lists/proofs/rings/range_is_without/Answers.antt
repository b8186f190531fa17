use Rattle.std.proofs.Common.{◌≡◌, None, refl, sym, ap, subst}
use Rattle.chain_laws.specs.Walks.{IsWalk, passes_ahead}
use Rattle.chain_laws.proofs.WalkLemmas.Steps.{first_ahead}
use Rattle.linked_lists.proofs.ListLemmas.{not_both}
use Rattle.linked_lists.proofs.RangeTestLemmas.{none_passed, never_ends, one_more_passed, no_range_at_head, no_range_at_q, range_at_last}
use Rattle.linked_lists.proofs.rings.range_is_without.Goals as goal

pub loop-p-init : goal.loop-p-init
loop-p-init g c =
    let links = g.A.ChainArenaTrait.interlinks c.args.arena.now in
    let begins = ap (passes_ahead links) c.in-Some.ensures.walker in
    none_passed g.A.ArenaTrait.state g.A.ChainArenaTrait.interlinks c.args.arena.now (g.P.PtrKey.key c.args.first) (g.P.PtrKey.key c.args.last) (g.P.PtrKey.key c.args.q) (g.A.ChainArenaTrait.walker c.in-Some.along)
    (subst (IsWalk links (g.P.PtrKey.key c.args.first).0) (sym begins) (c.advancer_passes_the_walk.ensures (c.in-Some.ensures.some.0 refl)))

pub returns-then-is_head : goal.returns-then-is_head
returns-then-is_head g c = λ all item.
    let at = all.items (g.P.PtrKey.key c.args.first) item.value item.stored in
    let step = (g.met.A.ChainArenaTrait.passes c.loop-p.along c.advance.new.self c.args.arena.now _ c.in-Some-advance.ensures).passed in (
      (λ yes. absurd (not_both yes refl)),
      (λ range. absurd (no_range_at_head g.A.ArenaTrait.state g.A.ChainArenaTrait.interlinks c.args.arena.now (g.P.PtrKey.key c.args.first) (g.P.PtrKey.key c.args.last) (g.P.PtrKey.key c.args.q) (g.A.ChainArenaTrait.walker c.loop-p.along) (g.A.ChainArenaTrait.walker c.advance.new.self) (g.P.PtrKey.key c.in-Some-advance.p) step.0 step.1
          at.handle item.value at.before at.after at.list c.loop-p.invariant (c.if-is_head.ensures.0 refl) range)),
    )

pub returns-then-are_same : goal.returns-then-are_same
returns-then-are_same g c = λ all item.
    let at = all.items (g.P.PtrKey.key c.args.first) item.value item.stored in
    let step = (g.met.A.ChainArenaTrait.passes c.loop-p.along c.advance.new.self c.args.arena.now _ c.in-Some-advance.ensures).passed in (
      (λ yes. absurd (not_both yes refl)),
      (λ range. absurd (no_range_at_q g.A.ArenaTrait.state g.A.ChainArenaTrait.interlinks c.args.arena.now (g.P.PtrKey.key c.args.first) (g.P.PtrKey.key c.args.last) (g.P.PtrKey.key c.args.q) (g.A.ChainArenaTrait.walker c.loop-p.along) (g.A.ChainArenaTrait.walker c.advance.new.self) (g.P.PtrKey.key c.in-Some-advance.p) step.0 step.1
          at.handle item.value at.before at.after at.list c.loop-p.invariant (λ head. not_both (c.is_head.ensures.1 head) c.if-is_head.false) (c.if-are_same.ensures.0 refl) range)),
    )

pub returns-then-are_same-2 : goal.returns-then-are_same-2
returns-then-are_same-2 g c = λ all item.
    let at = all.items (g.P.PtrKey.key c.args.first) item.value item.stored in
    let step = (g.met.A.ChainArenaTrait.passes c.loop-p.along c.advance.new.self c.args.arena.now _ c.in-Some-advance.ensures).passed in (
      (λ yes. range_at_last g.A.ArenaTrait.state g.A.ChainArenaTrait.interlinks c.args.arena.now (g.P.PtrKey.key c.args.first) (g.P.PtrKey.key c.args.last) (g.P.PtrKey.key c.args.q) (g.A.ChainArenaTrait.walker c.loop-p.along) (g.A.ChainArenaTrait.walker c.advance.new.self) (g.P.PtrKey.key c.in-Some-advance.p) step.0 step.1
          at.handle item.value at.before at.after at.list c.loop-p.invariant (λ head. not_both (c.is_head.ensures.1 head) c.if-is_head.false) (λ same. not_both (c.are_same.ensures.1 same) c.if-are_same.false) (c.if-are_same-2.ensures.0 refl)),
      (λ range. refl),
    )

pub loop-p-preserved : goal.loop-p-preserved
loop-p-preserved g c =
    let step = (g.met.A.ChainArenaTrait.passes c.loop-p.along c.advance.new.self c.args.arena.now _ c.in-Some-advance.ensures).passed in
    one_more_passed g.A.ArenaTrait.state g.A.ChainArenaTrait.interlinks c.args.arena.now (g.P.PtrKey.key c.args.first) (g.P.PtrKey.key c.args.last) (g.P.PtrKey.key c.args.q) (g.A.ChainArenaTrait.walker c.loop-p.along) (g.A.ChainArenaTrait.walker c.advance.new.self) (g.P.PtrKey.key c.in-Some-advance.p) step.0 step.1
    (λ head. not_both (c.is_head.ensures.1 head) c.if-is_head.false) (λ same. not_both (c.are_same.ensures.1 same) c.if-are_same.false) (λ same. not_both (c.are_same-in-Some-advance.ensures.1 same) c.if-are_same-2.false) c.loop-p.invariant

pub returns : goal.returns
returns g c = λ all item.
    let at = all.items (g.P.PtrKey.key c.args.first) item.value item.stored in
    let walker = g.A.ChainArenaTrait.walker c.loop-p.along in
    let end = (g.met.A.ChainArenaTrait.passes c.loop-p.along c.advance.new.self c.args.arena.now _ c.in_default.ensures).end in
    absurd (never_ends g.A.ArenaTrait.state g.A.ChainArenaTrait.interlinks c.args.arena.now (g.P.PtrKey.key c.args.first) (g.P.PtrKey.key c.args.last) (g.P.PtrKey.key c.args.q) walker
    (first_ahead (g.A.ChainArenaTrait.interlinks c.args.arena.now) walker (λ j. g.A.ArenaTrait.entry c.args.arena.now j ≡ None) end) at.handle item.value at.before at.after at.list c.loop-p.invariant)
