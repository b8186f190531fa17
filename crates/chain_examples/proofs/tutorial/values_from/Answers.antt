use Rattle.std.proofs.Common.{◌≡◌, None, refl, sym, ap, ◌∙◌, subst}
use Rattle.chain_laws.specs.Walks.{IsWalk, passes_ahead}
use Rattle.chain_laws.proofs.WalkLemmas.Steps.{step_ahead, first_ahead}
use Rattle.chain_traits.proofs.AdvancerWalkLemmas.{walk_whole}
use Rattle.chain_examples.proofs.PlaceLemmas.{AreRead, none_read, one_read}
use Rattle.chain_examples.proofs.tutorial.values_from.Goals as goal

pub loop-q-init : goal.loop-q-init
loop-q-init g c =
    let ahead = passes_ahead (g.A.ChainArenaTrait.interlinks c.args.arena.now) (g.A.ChainArenaTrait.walker c.in-Some.along) in
    record { read = subst (AreRead (g.A.ArenaTrait.entry c.args.arena.now) ahead ahead) (sym c.new-values.ensures.items) (none_read (g.A.ArenaTrait.entry c.args.arena.now) ahead) }

pub loop-q-preserved : goal.loop-q-preserved
loop-q-preserved g c =
    let a = c.args.arena.now in
    let links = g.A.ChainArenaTrait.interlinks a in
    let old = g.A.ChainArenaTrait.walker c.loop-q.along in
    let new = g.A.ChainArenaTrait.walker c.advance.new.self in
    let step = (g.met.A.ChainArenaTrait.passes c.loop-q.along c.advance.new.self a _ c.in-Some-advance.ensures).passed in
    record {
      read = one_read (g.A.ArenaTrait.entry a) (passes_ahead links old) (passes_ahead links new) (passes_ahead links (g.A.ChainArenaTrait.walker c.in-Some.along)) c.loop-q.values.items c.push.new.self.items (g.P.PtrKey.key c.in-Some-advance.q) _
          c.loop-q.invariant.read (step_ahead links old new _ step.1) c.in-Some-get.ensures.value c.in_ok-push-in-Some-get.ensures.items;
    }

pub unreachable-requires : goal.unreachable-requires
unreachable-requires g c =
    let a = c.args.arena.now in
    let step = (g.met.A.ChainArenaTrait.passes c.loop-q.along c.advance.new.self a _ c.in-Some-advance.ensures).passed in
    absurd (let some = c.in-None-get.ensures.some.1 step.0 in cc)

pub returns : goal.returns
returns g c =
    let a = c.args.arena.now in
    let links = g.A.ChainArenaTrait.interlinks a in
    let entry = g.A.ArenaTrait.entry a in
    let i = (g.P.PtrKey.key c.args.p).0 in
    let part = c.loop-q.invariant.read in
    let valid = c.in-Some.ensures.some.0 refl in
    let end = (g.met.A.ChainArenaTrait.passes c.loop-q.along c.advance.new.self a _ c.in_default.ensures).end in
    let begins = ap (passes_ahead links) c.in-Some.ensures.walker in
    let whole = walk_whole links entry (g.A.ArenaTrait.view a).entries (g.met.A.ChainArenaTrait.links_are_entries a) (g.A.ArenaTrait.state a).finds i part.links (passes_ahead links (g.A.ChainArenaTrait.walker c.loop-q.along))
    (subst (IsWalk links i) (sym (part.rest ∙ begins)) (c.advancer_passes_the_walk.ensures valid))
    (first_ahead links (g.A.ChainArenaTrait.walker c.loop-q.along) (λ k. entry k ≡ None) end) in
    (valid, part.links, whole, part.are_values)
