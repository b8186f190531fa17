use Rattle.std.proofs.Common.{◌≡◌, None, refl, sym, ap, ◌∙◌, subst, arith}
use Rattle.arena_traits.specs.Arena.{IsValid}
use Rattle.chain_laws.specs.Walks.{IsWalk, passes_ahead}
use Rattle.chain_laws.proofs.WalkLemmas.Steps.{first_ahead, step_left}
use Rattle.chain_traits.proofs.AdvancerWalkLemmas.{all_with_last, walk_whole, passed_on}
use Rattle.chain_traits.proofs.walks.walk.Goals as goal

pub loop-q-smaller : goal.loop-q-smaller
loop-q-smaller g c =
    let a = c.args.arena.now in
    let passing = (g.met.A.ChainArenaTrait.passes c.loop-q.along c.advance.new.self a _ c.in-Some-advance.ensures).passed in
    omega (arith, step_left (g.A.ChainArenaTrait.interlinks a) (g.A.ChainArenaTrait.walker c.loop-q.along) (g.A.ChainArenaTrait.walker c.advance.new.self) _ passing.1)

pub loop-q-preserved : goal.loop-q-preserved
loop-q-preserved g c =
    let a = c.args.arena.now in
    let links = g.A.ChainArenaTrait.interlinks a in
    let passing = (g.met.A.ChainArenaTrait.passes c.loop-q.along c.advance.new.self a _ c.in-Some-advance.ensures).passed in
    record {
      passed = passed_on (λ q. (g.P.PtrKey.key q).0) links (g.A.ChainArenaTrait.walker c.loop-q.along) (g.A.ChainArenaTrait.walker c.advance.new.self) c.loop-q.ptrs.items c.push.new.self.items c.in-Some-advance.q
          (passes_ahead links (g.A.ChainArenaTrait.walker c.in-Some.along)) c.loop-q.invariant.passed c.in_ok-push.ensures.items passing.1;
      valid = all_with_last (λ q. IsValid (g.A.ArenaTrait.entry a) (g.P.PtrKey.key q)) c.loop-q.ptrs.items c.push.new.self.items c.in-Some-advance.q c.loop-q.invariant.valid c.in_ok-push.ensures.items passing.0;
    }

pub returns : goal.returns
returns g c =
    let a = c.args.arena.now in
    let links = g.A.ChainArenaTrait.interlinks a in
    let entry = g.A.ArenaTrait.entry a in
    let i = (g.P.PtrKey.key c.args.p).0 in
    let valid = c.in-Some.ensures.some.0 refl in
    let end = (g.met.A.ChainArenaTrait.passes c.loop-q.along c.advance.new.self a _ c.in_default.ensures).end in
    record {
      some = (λ _. valid, λ _. refl);
      walk = walk_whole links entry (g.A.ArenaTrait.view a).entries (g.met.A.ChainArenaTrait.links_are_entries a) (g.A.ArenaTrait.state a).finds i _ (passes_ahead links (g.A.ChainArenaTrait.walker c.loop-q.along))
          (subst (IsWalk links i) (sym (c.loop-q.invariant.passed ∙ ap (passes_ahead links) c.in-Some.ensures.walker)) (c.advancer_passes_the_walk.ensures valid))
          (first_ahead links (g.A.ChainArenaTrait.walker c.loop-q.along) (λ k. entry k ≡ None) end);
      valid = c.loop-q.invariant.valid;
    }
