use Rattle.std.proofs.Common.{◌≡◌, None, sym, ap, subst}
use Rattle.chain_laws.specs.Chains.{IsMember}
use Rattle.chain_laws.specs.Walks.{IsWalk, passes_ahead}
use Rattle.chain_laws.proofs.WalkLemmas.Steps.{first_ahead}
use Rattle.chain_laws.proofs.WalkLemmas.Walker.{no_other_walk}
use Rattle.chain_traits.proofs.GenericArenaLemmas.{valid_some}
use Rattle.polygons.proofs.WalkedRingLemmas.{not_ahead}
use Rattle.polygons.proofs.polygons.passes.Goals as goal

pub returns : goal.returns
returns g c =
    let a = c.args.corners.now in
    let links = g.A.ChainArenaTrait.interlinks a in
    let entry = g.A.ArenaTrait.entry a in
    let walker = g.A.ChainArenaTrait.walker in
    let u = (g.P.PtrKey.key c.args.u).0 in
    let v = (g.P.PtrKey.key c.args.v).0 in
    let end = (g.met.A.ChainArenaTrait.passes c.loop-q.along c.advance.new.self a _ c.in_default.ensures).end in
    let begins = ap (passes_ahead links) c.in-Some.ensures.walker in (
      λ yes. absurd (cc),
      λ passes.
          let walk = subst (IsWalk links u) (sym begins) (c.advancer_passes_the_walk.ensures passes.valid.0) in
          absurd (not_ahead links entry (valid_some links entry (g.A.ArenaTrait.view a).entries (g.met.A.ChainArenaTrait.links_are_entries a) (g.A.ArenaTrait.state a).finds) u v
          (passes_ahead links (walker c.in-Some.along)) (passes_ahead links (walker c.loop-q.along)) walk c.loop-q.invariant.in_walk (first_ahead links (walker c.loop-q.along) (λ k. entry k ≡ None) end)
          (c.loop-q.invariant.not_passed (subst (λ l. IsMember l v) (no_other_walk links u _ _ passes.is_walk walk) passes.among))),
    )
