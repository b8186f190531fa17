use Rattle.std.proofs.Common.{◌≡◌, None, refl, sym, ap, subst}
use Rattle.chain_laws.specs.Chains.{IsMember}
use Rattle.chain_laws.specs.Walks.{IsWalk, passes_ahead}
use Rattle.chain_laws.proofs.WalkLemmas.Steps.{first_ahead}
use Rattle.chain_laws.proofs.WalkLemmas.Walker.{no_other_walk}
use Rattle.chain_traits.proofs.GenericArenaLemmas.{valid_some}
use Rattle.linked_lists.proofs.ListLemmas.{not_both}
use Rattle.linked_lists.proofs.HandleLemmas.{not_ahead, was_ahead, passed_in_walk, still_ahead}
use Rattle.linked_lists.proofs.rings.find_head.Goals as goal

pub returns : goal.returns
returns g c = λ valid walk k is head has.
    let a = c.args.arena.now in
    let links = g.A.ChainArenaTrait.interlinks a in
    let entry = g.A.ArenaTrait.entry a in
    let walker = g.A.ChainArenaTrait.walker in
    let p = (g.P.PtrKey.key c.args.p).0 in
    let end = (g.met.A.ChainArenaTrait.passes c.loop-q.along c.advance.new.self a _ c.in_default.ensures).end in
    let begins = ap (passes_ahead links) c.in-Some.ensures.walker in
    let first = subst (IsWalk links p) (sym begins) (c.advancer_passes_the_walk.ensures valid) in
    not_ahead links entry (valid_some links entry (g.A.ArenaTrait.view a).entries (g.met.A.ChainArenaTrait.links_are_entries a) (g.A.ArenaTrait.state a).finds) p k.0
    (passes_ahead links (walker c.in-Some.along)) (passes_ahead links (walker c.loop-q.along)) first c.loop-q.invariant.in_walk (first_ahead links (walker c.loop-q.along) (λ j. entry j ≡ None) end)
    (c.loop-q.invariant.not_passed k head (subst (λ l. IsMember l k.0) (no_other_walk links p _ _ is first) has))

pub returns-in-None : goal.returns-in-None
returns-in-None g c = λ valid walk k is head has. not_both (c.in-None.ensures.some.1 valid) refl

pub returns-then-is_head : goal.returns-then-is_head
returns-then-is_head g c =
    let a = c.args.arena.now in
    let links = g.A.ChainArenaTrait.interlinks a in
    let walker = g.A.ChainArenaTrait.walker in
    let step = (g.met.A.ChainArenaTrait.passes c.loop-q.along c.advance.new.self a _ c.in-Some-advance.ensures).passed in
    let begins = ap (passes_ahead links) c.in-Some.ensures.walker in (
      c.if-is_head.ensures.0 refl,
      passes_ahead links (walker c.in-Some.along),
      subst (IsWalk links (g.P.PtrKey.key c.args.p).0) (sym begins) (c.advancer_passes_the_walk.ensures (c.in-Some.ensures.some.0 refl)),
      passed_in_walk links (g.A.ArenaTrait.entry a) (passes_ahead links (walker c.in-Some.along)) (walker c.loop-q.along) (walker c.advance.new.self) (g.P.PtrKey.key c.in-Some-advance.q) step.0 step.1 c.loop-q.invariant.in_walk,
    )

pub loop-q-preserved : goal.loop-q-preserved
loop-q-preserved g c =
    let a = c.args.arena.now in
    let links = g.A.ChainArenaTrait.interlinks a in
    let entry = g.A.ArenaTrait.entry a in
    let walker = g.A.ChainArenaTrait.walker in
    let q = g.P.PtrKey.key c.in-Some-advance.q in
    let step = (g.met.A.ChainArenaTrait.passes c.loop-q.along c.advance.new.self a _ c.in-Some-advance.ensures).passed in
    let walk = passes_ahead links (walker c.in-Some.along) in
    record {
      in_walk = was_ahead links entry walk (walker c.loop-q.along) (walker c.advance.new.self) q step.0 step.1 c.loop-q.invariant.in_walk;
      not_passed = still_ahead links entry walk (walker c.loop-q.along) (walker c.advance.new.self) q step.0 step.1 (λ head. not_both (c.is_head.ensures.1 head) c.if-is_head.false) c.loop-q.invariant.not_passed;
    }
