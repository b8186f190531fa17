use Rattle.chain_arena.proofs.impl_chain_arena_trait.ChainArenaChainArenaTrait.remove_inx_link_no_gen.Goals as goal

pub returns : goal.returns
returns g c = let made = c.unlink.ensures in record { outcome = made.0; invalid = made.1; implementation = made.2 }
