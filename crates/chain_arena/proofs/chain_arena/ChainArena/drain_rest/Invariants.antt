-- Removing the remaining links gives the arena that removing all links gives.
use Rattle.std.proofs.Common.{◌≡◌, length, map}
use Rattle.arena_traits.specs.Entries.{index_of}
use Rattle.chain_arena.specs.Drains.{entries_left, without_each}
use Rattle.chain_arena.proofs.chain_arena.ChainArena.drain_rest.Given as goal

abbrev pub invariant-loop-next : goal.invariant-loop-next
invariant-loop-next g l =
    without_each g.P.Gen.GenKey.following l.self (map index_of (entries_left l.self l.at))
    ≡ without_each g.P.Gen.GenKey.following l.fn.self (map index_of (entries_left l.fn.self l.fn.from))

abbrev pub decreases-loop-next : goal.decreases-loop-next
decreases-loop-next g l = length (entries_left l.self l.at)
