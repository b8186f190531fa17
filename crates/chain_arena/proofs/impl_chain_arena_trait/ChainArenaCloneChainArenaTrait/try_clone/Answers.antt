use Rattle.chain_arena.proofs.LinkCopyLemmas.{copies_links, clone_reaches}
use Rattle.chain_arena.proofs.impl_chain_arena_trait.ChainArenaCloneChainArenaTrait.try_clone.Goals as goal

pub returns-clause-outcome : goal.returns-clause-outcome
returns-clause-outcome g c = copies_links g.S.SlotStack.may_reach g.P.Inx.InxKey.greatest g.P.Gen.GenKey.first g.S.SlotStack.initial_maximum c.args.self.now c.clone.result c.clone.ensures.cloned (λ none. (c.clone.ensures.no_capacity none).1)

pub returns-clause-implementation : goal.returns-clause-implementation
returns-clause-implementation g c = clone_reaches g.S.SlotStack.may_reach g.P.Inx.InxKey.greatest g.P.Gen.GenKey.first g.S.SlotStack.initial_maximum c.args.self.now c.clone.result c.clone.ensures.cloned
