use Rattle.std.proofs.Common.{refl, sym}
use Rattle.chain_arena.proofs.chain_arena.ChainArena.get_inx_mut_unwrap.Goals as goal

pub returns : goal.returns
returns g c = (
  (refl, λ w. let held = rw c.in-Some.is at (c.get_inx_mut.follows.holds w) in held.1.0),
  record { writes_back = tt; value = sym c.in-Some.ensures.value },
)
