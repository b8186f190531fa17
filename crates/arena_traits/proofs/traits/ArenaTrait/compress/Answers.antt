use Rattle.std.proofs.Common.{rules}
use Rattle.arena_traits.proofs.ClosureLemmas.{values_kept}
use Rattle.arena_traits.proofs.traits.ArenaTrait.compress.Goals as goal

pub returns-clause-values : goal.returns-clause-values
returns-clause-values g c = values_kept _ g.P.PtrKey.key (λ f visit next is. search (rules, is.lends, is.leaves, is.called)) c.compress_with.ensures.visits
