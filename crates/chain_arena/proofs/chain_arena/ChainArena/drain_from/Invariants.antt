-- Removing the remaining walk gives the arena that removing the whole walk gives.
use Rattle.std.proofs.Common.{◌≡◌, length}
use Rattle.chain_arena.specs.Drains.{walk_left, without_each}
use Rattle.chain_arena.proofs.chain_arena.ChainArena.drain_from.Given as goal

abbrev pub invariant-loop-next : goal.invariant-loop-next
invariant-loop-next g l = without_each g.P.Gen.GenKey.following l.self (walk_left l.self l.at) ≡ without_each g.P.Gen.GenKey.following l.fn.self (walk_left l.fn.self l.fn.from)

abbrev pub decreases-loop-next : goal.decreases-loop-next
decreases-loop-next g l = length (walk_left l.self l.at)
