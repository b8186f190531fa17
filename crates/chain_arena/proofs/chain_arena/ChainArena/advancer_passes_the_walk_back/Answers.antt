use Rattle.chain_linking.proofs.NeighborLemmas.{valid_link}
use Rattle.chain_arena.proofs.ChainIterLemmas.{back_ahead-walk}
use Rattle.chain_arena.proofs.chain_arena.ChainArena.advancer_passes_the_walk_back.Goals as goal

pub returns : goal.returns
returns g c = λ valid. back_ahead-walk c.args.self.now (g.P.PtrKey.key c.args.p).0 c.invariants.ensures.agree (valid_link c.args.self.now (g.P.PtrKey.key c.args.p) valid)
