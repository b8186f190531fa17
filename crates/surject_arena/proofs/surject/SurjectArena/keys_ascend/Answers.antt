use Rattle.surject_arena.specs.Partitions.{member_view}
use Rattle.surject_arena.proofs.ViewLemmas.{ascends-each}
use Rattle.surject_arena.proofs.surject.SurjectArena.keys_ascend.Goals as goal

pub returns : goal.returns
returns g c =
    let keys = c.self.inside.keys in
    rw (← c.self.view_is) (ascends-each (member_view g.P.PtrKey.key) 1 (g.A.ArenaTrait.view keys).entries (g.A.ArenaTrait.state keys).ascends)
