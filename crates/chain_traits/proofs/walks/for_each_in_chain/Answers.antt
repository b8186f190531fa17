use Rattle.std.proofs.Common.{◌≡◌, None, Some, refl, sym, ap, ◌∙◌, subst, of_calls}
use Rattle.std.specs.Prelude.{is_some, IfSome}
use Rattle.chain_laws.specs.Walks.{IsWalk, passes_ahead, step_of}
use Rattle.chain_laws.proofs.WalkLemmas.Members.{walk_once}
use Rattle.chain_laws.proofs.WalkLemmas.Steps.{step_ahead, first_ahead}
use Rattle.chain_traits.proofs.AdvancerWalkLemmas.{walk_whole}
use Rattle.chain_traits.proofs.ChainVisitLemmas.{visiting_begins, visiting_goes_on, chain_visited}
use Rattle.chain_traits.proofs.walks.for_each_in_chain.Goals as goal

pub loop-q-init : goal.loop-q-init
loop-q-init g c = record {
  callable = c.requires;
  visiting = visiting_begins g.A.ArenaTrait.state g.A.ChainArenaTrait.interlinks g.F.FnMut g.P.PtrKey.key c.args.f c.args.arena.now _;
}

pub loop-q-preserved-in-Some-get_mut : goal.loop-q-preserved-in-Some-get_mut
loop-q-preserved-in-Some-get_mut g c =
    let old = c.args.arena.now in
    let now = c.loop-q.arena in
    let is = c.loop-q.invariant.visiting in
    let links = g.A.ChainArenaTrait.interlinks old in
    let i = (g.P.PtrKey.key c.args.p).0 in
    let before = g.A.ChainArenaTrait.walker c.loop-q.along in
    let after = g.A.ChainArenaTrait.walker c.advance.new.self in
    let q = g.P.PtrKey.key c.in-Some-advance.q in
    let passing = (g.met.A.ChainArenaTrait.passes c.loop-q.along c.advance.new.self now _ c.in-Some-advance.ensures).passed in
    let walk = subst (λ w. IsWalk links i (passes_ahead links w)) (sym c.in-Some.ensures.walker) (c.advancer_passes_the_walk.ensures (c.in-Some.ensures.some.0 refl)) in
    let held = rw c.in-Some-get_mut.is at (c.get_mut.follows.holds c.f.new.arg3) in
    record {
      callable = search of_calls;
      visiting = visiting_goes_on g.A.ArenaTrait.state g.A.ChainArenaTrait.interlinks g.F.FnMut g.P.PtrKey.key c.args.f old (passes_ahead links (g.A.ChainArenaTrait.walker c.in-Some.along)) (walk_once links i _ walk) c.loop-q.f now
          (passes_ahead links before) is (record { ptr = c.in-Some-advance.q; value = c.in-Some-get_mut.value.now; left = c.f.new.arg3 }) c.f.new.self (c.get_mut.follows.lender c.f.new.arg3) (passes_ahead links after)
          (step_ahead links before after q.0 (subst (λ l. step_of l before ≡ Some (q.0, after)) is.links passing.1)) (record { lent = _; lends = refl; back = _; called = c.f.ensures; leaves = refl })
          c.in-Some-get_mut.ensures.value held.0 (g.met.A.ChainArenaTrait.write_keeps _ _ _ _ held.1);
    }

pub returns-clause-outcome : goal.returns-clause-outcome
returns-clause-outcome g c =
    let old = c.args.arena.now in
    let now = c.loop-q.arena in
    let is = c.loop-q.invariant.visiting in
    let links = g.A.ChainArenaTrait.interlinks old in
    let entry = g.A.ArenaTrait.entry now in
    let i = (g.P.PtrKey.key c.args.p).0 in
    let valid = c.in-Some.ensures.some.0 refl in
    let walker = g.A.ChainArenaTrait.walker c.loop-q.along in
    let end = (g.met.A.ChainArenaTrait.passes c.loop-q.along c.advance.new.self now _ c.in_default.ensures).end in (
      valid,
      chain_visited g.A.ArenaTrait.state g.A.ChainArenaTrait.interlinks g.F.FnMut g.P.PtrKey.key c.args.f old i _ c.loop-q.f now (passes_ahead links walker) is
          (walk_whole links entry (g.A.ArenaTrait.view now).entries (λ j. ap (λ l. is_some (l j)) (sym is.links) ∙ g.met.A.ChainArenaTrait.links_are_entries now j) (g.A.ArenaTrait.state now).finds i _ (passes_ahead links walker)
          (subst (IsWalk links i) (sym (is.parts ∙ ap (passes_ahead links) c.in-Some.ensures.walker)) (c.advancer_passes_the_walk.ensures valid))
          (first_ahead links walker (λ k. entry k ≡ None) (subst (λ l. IfSome (step_of l walker) (λ step. entry step.0 ≡ None)) is.links end))),
    )
