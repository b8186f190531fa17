use Rattle.surject_arena.proofs.IterLemmas.{yields, goes_on}
use Rattle.surject_arena.proofs.iter.IterIterator.next.Goals as goal

pub returns-clause-steps : goal.returns-clause-steps
returns-clause-steps g c =
    let a = c.self.inside.keys.now in
    let state = g.A.ArenaTrait.state a in
    rw (← c.self.view_is) (yields (g.A.ArenaTrait.view a).entries state.ascends g.P.PtrKey.key (g.A.ArenaTrait.cursor c.self.inside.all) (g.A.ArenaTrait.cursor c.advance.new.self) c.advance.result c.self.invariant
    (g.met.A.ArenaTrait.advances c.self.inside.all c.advance.new.self a c.advance.result c.advance.ensures))

pub returns-clause-goes : goal.returns-clause-goes
returns-clause-goes g c =
    let a = c.self.inside.keys.now in
    let state = g.A.ArenaTrait.state a in
    rw (← c.self.view_is) (goes_on g.P.PtrKey.key _ (λ l. tt) _ c.advance.result _ (yields (g.A.ArenaTrait.view a).entries state.ascends g.P.PtrKey.key (g.A.ArenaTrait.cursor c.self.inside.all) (g.A.ArenaTrait.cursor c.advance.new.self) c.advance.result c.self.invariant
    (g.met.A.ArenaTrait.advances c.self.inside.all c.advance.new.self a c.advance.result c.advance.ensures)))
