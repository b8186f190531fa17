use Rattle.surject_arena.proofs.CallLemmas.{inserts_set}
use Rattle.surject_arena.proofs.surject.SurjectArena.insert.Goals as goal

pub returns-in-Ok-clause-outcome : goal.returns-in-Ok-clause-outcome
returns-in-Ok-clause-outcome g c = inserts_set g.P.PtrKey.key g.P.Inx.InxKey.greatest c.args.self.now c.reserve_key.new.self c.insert_within_keys.new.self c.args.k c.args.v c.in-Ok.ensures.same c.in-Ok.ensures.outcome
    c.insert_within_keys.result c.insert_within_keys.ensures.outcome
