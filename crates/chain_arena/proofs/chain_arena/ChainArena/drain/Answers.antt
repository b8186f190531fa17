use Rattle.chain_arena.proofs.LinkDrainLemmas.{all_left}
use Rattle.chain_arena.proofs.chain_arena.ChainArena.drain.Goals as goal

pub returns-clause-left : goal.returns-clause-left
returns-clause-left g c = all_left c.args.self.now
