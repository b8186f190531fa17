use Rattle.chain_arena.proofs.ChainHeadLemmas.{all_within}
use Rattle.chain_arena.proofs.chain_arena.ChainArena.mark_chain.Goals as goal

pub mark_walk-requires : goal.mark_walk-requires
mark_walk-requires g c = all_within c.args.self.now (g.P.PtrKey.key c.args.p).0 c.in-Some.links c.in-Some.ensures.1 _ c.requires.long

pub returns : goal.returns
returns g c = c.mark_walk.ensures c.args.self.now c.requires.valid c.in-Some.ensures.1 c.requires.long
