use Rattle.equate_commands.proofs.CallLemmas.{union_unites}
use Rattle.equate_commands.proofs.equations.Equations.unite.Goals as goal

pub returns : goal.returns
returns g c =
    rw (← c.self.view_is, c.is_some.ensures) (union_unites g.P.PtrKey.key g.P.Gen.GenKey.following c.self.inside.table c.self.inside.words c.union.new.self c.self.invariant c.invariants.ensures c.args.p c.args.q c.union.result c.union.ensures.outcome c.union.ensures.none)
