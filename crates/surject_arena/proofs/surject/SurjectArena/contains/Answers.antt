use Rattle.surject_arena.specs.Partitions.{member_view}
use Rattle.surject_arena.proofs.ViewLemmas.{valid-each, each-valid}
use Rattle.surject_arena.proofs.surject.SurjectArena.contains.Goals as goal

pub returns : goal.returns
returns g c =
    let p = g.P.PtrKey.key c.args.p in
    rw (← c.self.view_is) (
      λ is. valid-each (member_view g.P.PtrKey.key) g.A.ArenaTrait.state c.self.inside.keys p (c.contains.ensures.0 is),
      λ is. c.contains.ensures.1 (each-valid (member_view g.P.PtrKey.key) g.A.ArenaTrait.state c.self.inside.keys p is),
    )
