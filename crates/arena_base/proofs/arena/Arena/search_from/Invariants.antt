-- No entry is between the first position and this one.
use Rattle.std.proofs.Common.{◌≡◌, ◌+◌, drop}
use Rattle.arena_traits.specs.Entries.{entries_from}
use Rattle.arena_base.proofs.arena.Arena.search_from.Given as goal

abbrev pub invariant-loop-k : goal.invariant-loop-k
invariant-loop-k g l = entries_from (l.from + 1) (drop l.from l.self.slots) ≡ entries_from (l.k + 1) (drop l.k l.self.slots)
