use Rattle.chain_traits.proofs.GenericArenaLemmas.{some_valid}
use Rattle.polygons.proofs.RingLemmas.{exchanges_successors}
use Rattle.polygons.proofs.polygons.Polygons.exchange.Goals as goal

pub returns : goal.returns
returns g c =
    let a = c.self.inside.corners in
    rw (← c.self.view_is) (exchanges_successors g.A.ArenaTrait.state g.A.ChainArenaTrait.interlinks g.P.PtrKey.key a c.exchange_next.new.self c.args.u c.args.v
    (some_valid (g.A.ChainArenaTrait.interlinks a) (g.A.ArenaTrait.entry a) (g.A.ArenaTrait.view a).entries (g.met.A.ChainArenaTrait.links_are_entries a) (g.A.ArenaTrait.state a).finds)
    c.agrees.ensures c.self.invariant c.exchange_next.result c.exchange_next.ensures.outcome c.exchange_next.ensures.none)

pub exchange_next-requires : goal.exchange_next-requires
exchange_next-requires g c κs = λ outlives. outlives
