use Rattle.chain_arena.proofs.impl_chain_arena_trait.ChainArenaChainArenaTrait.compress_canonical.Goals as goal

pub returns : goal.returns
returns g c = let made = c.compress_canonical_with.ensures.compressed in record { outcome = made.0; implementation = made.1 }
