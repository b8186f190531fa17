use Rattle.polygons.proofs.RingLemmas.{all_in_rings}
use Rattle.polygons.proofs.polygons.Polygons.all_in_polygons.Goals as goal

pub returns : goal.returns
returns g c =
    let a = c.self.inside.corners in
    rw (← c.self.view_is) (all_in_rings g.A.ArenaTrait.state g.A.ChainArenaTrait.interlinks a (g.met.A.ChainArenaTrait.links_are_entries a) _ c.invariants.ensures.sound.indexes c.invariants.ensures.agree c.self.invariant)
