use Rattle.arena_base.proofs.InsertedEntryLemmas.{inserts_within}
use Rattle.arena_base.proofs.arena_trait.ArenaPlainArenaTrait.insert_within_capacity.Goals as goal

pub returns-clause-outcome : goal.returns-clause-outcome
returns-clause-outcome g c = inserts_within c.args.self.now _ c.args.t g.P.PtrKey.key _ c.invariants.ensures.listed c.insert_within_capacity.ensures.outcome
