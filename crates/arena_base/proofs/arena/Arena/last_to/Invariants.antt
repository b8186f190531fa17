-- No entry is between this position and the last one.
use Rattle.std.proofs.Common.{◌≡◌, take}
use Rattle.arena_traits.specs.Entries.{entries_from, last_key}
use Rattle.arena_base.proofs.arena.Arena.last_to.Given as goal

abbrev pub invariant-loop-k : goal.invariant-loop-k
invariant-loop-k g l = last_key (entries_from 1 (take l.k l.self.slots)) ≡ last_key (entries_from 1 (take l.to l.self.slots))
