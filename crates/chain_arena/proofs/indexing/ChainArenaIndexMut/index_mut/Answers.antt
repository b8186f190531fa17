use Rattle.std.proofs.Common.{refl}
use Rattle.chain_arena.proofs.indexing.ChainArenaIndexMut.index_mut.Goals as goal

pub returns : goal.returns
returns g c = (
  (refl, λ w. let held = rw c.in-Some.is at (c.get_mut.follows.holds w) in held.1.0),
  record { writes_back = tt; value = c.in-Some.ensures.value },
)
