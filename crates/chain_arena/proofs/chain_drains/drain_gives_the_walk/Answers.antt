use Rattle.chain_arena.proofs.DrainLawLemmas as lemmas
use Rattle.chain_arena.proofs.chain_drains.drain_gives_the_walk.Goals as goal

pub returns : goal.returns
returns g c = lemmas.drain_gives_the_walk g.P.PtrKey.key g.P.Inx.InxKey.packed_number g.P.Gen.GenKey.following g.P.Gen.GenKey.wraps
