use Rattle.std.proofs.Common.{ap, sym}
use Rattle.arena_traits.specs.Entries.{first_key}
use Rattle.chain_arena.proofs.LinkDrainLemmas.{none_left}
use Rattle.chain_arena.proofs.chain_arena.ChainArena.first_from.Goals as goal

pub returns-in-None : goal.returns-in-None
returns-in-None g c =
    sym (ap first_key (none_left g.P.Inx.InxKey.greatest c.args.self.now c.args.at (λ within. let none = c.in-None.ensures.variant.1 within in cc) c.invariants.ensures.sound.indexes))
