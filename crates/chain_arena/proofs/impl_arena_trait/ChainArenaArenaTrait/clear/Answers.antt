use Rattle.std.proofs.Common.{ap, sym, ◌∙◌}
use Rattle.arena_core.specs.Invalidation.{invalidation_option}
use Rattle.arena_traits.specs.Arena.{overflows_after_clear}
use Rattle.arena_traits.proofs.ArenaViewLemmas.{length-entries}
use Rattle.chain_links.proofs.ArenaInsertionLemmas.{count-values}
use Rattle.chain_arena.proofs.EntryWriteLemmas.{cleared-view_after}
use Rattle.chain_arena.proofs.impl_arena_trait.ChainArenaArenaTrait.clear.Goals as goal

pub returns-clause-outcome : goal.returns-clause-outcome
returns-clause-outcome g c =
    let packed = g.P.Inx.InxKey.packed_number in
    let a = c.self.inside.arena in
    rw (← c.self.view_is) (record {
      after = cleared-view_after packed g.P.Gen.GenKey.following a _ c.clear.ensures.implementation;
      overflow = c.clear.ensures.outcome.overflow ∙ ap (λ n. invalidation_option (overflows_after_clear g.P.Gen.GenKey.wraps n a.counter) tt) (length-entries a ∙ sym (count-values packed a));
    })
