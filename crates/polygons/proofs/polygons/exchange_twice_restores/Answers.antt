use Rattle.polygons.proofs.RingLemmas.{second_exchange}
use Rattle.polygons.proofs.polygons.exchange_twice_restores.Goals as goal

pub returns : goal.returns
returns g c = second_exchange g.A.ArenaTrait.state g.A.ChainArenaTrait.interlinks
