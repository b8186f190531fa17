use Rattle.std.proofs.Common.{◌≡◌, ◌∷◌, None, refl, sym, ap, ◌∙◌, subst, arith}
use Rattle.chain_laws.specs.Chains.{IsMember}
use Rattle.chain_laws.specs.Walks.{IsWalk, passes_ahead}
use Rattle.chain_laws.proofs.WalkLemmas.Steps.{step_ahead, step_left, first_ahead}
use Rattle.chain_laws.proofs.WalkLemmas.Walker.{no_other_walk}
use Rattle.arena_traits.specs.Arena.{IsValid}
use Rattle.chain_traits.proofs.AdvancerWalkLemmas.{walk_whole}
use Rattle.chain_examples.proofs.PlaceLemmas.{none_passed, one_passed, place_found}
use Rattle.chain_examples.proofs.tutorial.place_in_walk.Goals as goal

pub loop-r-init : goal.loop-r-init
loop-r-init g c = record {
  passed = none_passed (g.A.ArenaTrait.entry c.args.arena.now) (g.P.PtrKey.key c.args.q) (passes_ahead (g.A.ChainArenaTrait.interlinks c.args.arena.now) (g.A.ChainArenaTrait.walker c.in-Some.along));
  fits = omega (arith);
}

pub loop-r-preserved : goal.loop-r-preserved
loop-r-preserved g c =
    let a = c.args.arena.now in
    let links = g.A.ChainArenaTrait.interlinks a in
    let old = g.A.ChainArenaTrait.walker c.loop-r.along in
    let new = g.A.ChainArenaTrait.walker c.advance.new.self in
    let step = (g.met.A.ChainArenaTrait.passes c.loop-r.along c.advance.new.self a _ c.in-Some-advance.ensures).passed in
    record {
      passed = one_passed (g.A.ArenaTrait.entry a) (g.P.PtrKey.key c.args.q) (passes_ahead links old) (passes_ahead links new) (passes_ahead links (g.A.ChainArenaTrait.walker c.in-Some.along)) c.loop-r.n (g.P.PtrKey.key c.in-Some-advance.r)
          c.loop-r.invariant.passed (step_ahead links old new _ step.1) step.0 (λ same. absurd (let yes = c.is_same.ensures ∙ (g.met.P.PtrKey.same_is_equal c.in-Some-advance.r c.args.q).1 (g.met.P.PtrKey.same_key c.in-Some-advance.r c.args.q same) in let no = c.if-is_same.false in cc));
      fits = omega (arith, c.loop-r.invariant.fits, step_left links old new _ step.1);
    }

pub returns-then-is_same : goal.returns-then-is_same
returns-then-is_same g c =
    let a = c.args.arena.now in
    let links = g.A.ChainArenaTrait.interlinks a in
    let entry = g.A.ArenaTrait.entry a in
    let old = g.A.ChainArenaTrait.walker c.loop-r.along in
    let new = g.A.ChainArenaTrait.walker c.advance.new.self in
    let step = (g.met.A.ChainArenaTrait.passes c.loop-r.along c.advance.new.self a _ c.in-Some-advance.ensures).passed in
    let same = ap g.P.PtrKey.key ((g.met.P.PtrKey.same_is_equal c.in-Some-advance.r c.args.q).0 (sym c.if-is_same.ensures)) in
    let begins = ap (passes_ahead links) c.in-Some.ensures.walker in
    place_found entry (g.P.PtrKey.key c.args.q) links (g.P.PtrKey.key c.args.p) (passes_ahead links old) (passes_ahead links new) (passes_ahead links (g.A.ChainArenaTrait.walker c.in-Some.along)) c.loop-r.n c.loop-r.invariant.passed
    (step_ahead links old new _ step.1 ∙ ap (λ k. k.0 ∷ passes_ahead links new) same) (c.in-Some.ensures.some.0 refl) (subst (IsValid entry) same step.0)
    (subst (IsWalk links (g.P.PtrKey.key c.args.p).0) (sym begins) (c.advancer_passes_the_walk.ensures (c.in-Some.ensures.some.0 refl)))

pub returns : goal.returns
returns g c = λ valid there walk is has.
    let a = c.args.arena.now in
    let links = g.A.ChainArenaTrait.interlinks a in
    let entry = g.A.ArenaTrait.entry a in
    let i = (g.P.PtrKey.key c.args.p).0 in
    let part = c.loop-r.invariant.passed in
    let end = (g.met.A.ChainArenaTrait.passes c.loop-r.along c.advance.new.self a _ c.in_default.ensures).end in
    let begins = ap (passes_ahead links) c.in-Some.ensures.walker in
    let whole = walk_whole links entry (g.A.ArenaTrait.view a).entries (g.met.A.ChainArenaTrait.links_are_entries a) (g.A.ArenaTrait.state a).finds i part.links (passes_ahead links (g.A.ChainArenaTrait.walker c.loop-r.along))
    (subst (IsWalk links i) (sym (part.rest ∙ begins)) (c.advancer_passes_the_walk.ensures valid))
    (first_ahead links (g.A.ChainArenaTrait.walker c.loop-r.along) (λ k. entry k ≡ None) end) in
    part.without there (subst (λ l. IsMember l (g.P.PtrKey.key c.args.q).0) (no_other_walk links i walk part.links is whole) has)
