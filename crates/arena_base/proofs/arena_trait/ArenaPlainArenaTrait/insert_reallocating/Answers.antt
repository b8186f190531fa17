use Rattle.arena_base.proofs.InsertedEntryLemmas.{inserts_growing}
use Rattle.arena_base.proofs.arena_trait.ArenaPlainArenaTrait.insert_reallocating.Goals as goal

pub returns-clause-outcome : goal.returns-clause-outcome
returns-clause-outcome g c = inserts_growing c.args.self.now _ c.args.t g.S.SlotStack.may_reach g.P.Inx.InxKey.greatest g.P.PtrKey.key _ c.invariants.ensures.listed c.insert_reallocating.ensures.outcome
