use Rattle.polygons.proofs.WalkedRingLemmas.{walked}
use Rattle.polygons.proofs.polygons.Polygons.walk.Goals as goal

pub returns-clause-ring : goal.returns-clause-ring
returns-clause-ring g c = rw (← c.self.view_is) (walked g.A.ArenaTrait.state g.A.ChainArenaTrait.interlinks c.self.inside.corners g.P.PtrKey.key c.args.corner (λ r. r.items) c.self.invariant c.walk.result c.walk.ensures.some c.walk.ensures.walk c.walk.ensures.valid)
