use Rattle.surject_arena.proofs.SetReadLemmas.{is_surjection}
use Rattle.surject_arena.proofs.surject.SurjectArena.invariants.Goals as goal

pub returns : goal.returns
returns g c =
    let keys = c.self.inside.keys in
    rw (← c.self.view_is) (is_surjection g.P.PtrKey.key g.A.ArenaTrait.state g.B.ArenaTrait.state keys c.self.inside.values c.self.inside.redirected (g.A.ChainArenaTrait.interlinks keys) c.self.invariant)
