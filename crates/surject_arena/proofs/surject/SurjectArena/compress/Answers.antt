use Rattle.std.proofs.Common.{rules}
use Rattle.arena_traits.proofs.ClosureLemmas.{values_kept}
use Rattle.surject_arena.proofs.OptionLemmas.{if_ok_to}
use Rattle.surject_arena.proofs.surject.SurjectArena.compress.Goals as goal

pub returns-clause-keys : goal.returns-clause-keys
returns-clause-keys g c = if_ok_to c.compress_with.result c.compress_with.ensures.visits (λ r visits. values_kept _ g.P.PtrKey.key (λ f visit next is. search (rules, is.lends, is.leaves, is.called)) visits)
