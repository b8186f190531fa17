use Rattle.chain_traits.proofs.GenericArenaLemmas.{valid_some}
use Rattle.polygons.proofs.WalkedRingLemmas.{passed_in_ring}
use Rattle.polygons.proofs.polygons.Polygons.same_polygon.Goals as goal

pub returns : goal.returns
returns g c =
    let a = c.self.inside.corners in
    let ring = passed_in_ring g.A.ArenaTrait.state g.A.ChainArenaTrait.interlinks a
    (valid_some (g.A.ChainArenaTrait.interlinks a) (g.A.ArenaTrait.entry a) (g.A.ArenaTrait.view a).entries (g.met.A.ChainArenaTrait.links_are_entries a) (g.A.ArenaTrait.state a).finds) c.self.invariant (g.P.PtrKey.key c.args.u) (g.P.PtrKey.key c.args.v) in
    rw (← c.self.view_is) ((λ yes. ring.0 (c.passes.ensures.0 yes)), (λ is. c.passes.ensures.1 (ring.1 is)))
