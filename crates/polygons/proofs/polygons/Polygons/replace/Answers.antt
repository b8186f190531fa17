use Rattle.polygons.proofs.RingLemmas.{replaces_point}
use Rattle.polygons.proofs.polygons.Polygons.replace.Goals as goal

pub returns : goal.returns
returns g c =
    let a = c.self.inside.corners in
    rw (← c.self.view_is) (replaces_point g.A.ArenaTrait.state g.A.ChainArenaTrait.interlinks g.P.PtrKey.key a c.replace.new.self c.args.corner c.args.point c.replace.result
    c.replace.ensures.outcome c.replace.ensures.invalid (g.met.A.ChainArenaTrait.write_keeps a c.replace.new.self (g.P.PtrKey.key c.args.corner).0 c.args.point) c.replace.ensures.implementation)
