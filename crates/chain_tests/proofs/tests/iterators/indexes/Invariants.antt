-- The indexes pushed so far and those of the remaining links are all indexes.
use Rattle.std.proofs.Common.{◌≡◌, ◌++◌, map}
use Rattle.arena_ptr.specs.Indexes.{number_of_inx32}
use Rattle.arena_traits.specs.Entries.{entries, index_of}
use Rattle.chain_tests.proofs.tests.iterators.indexes.Given as goal

abbrev pub invariant-loop-p : goal.invariant-loop-p
invariant-loop-p g l = map number_of_inx32 l.all.items ++ map index_of l.p-iterator ≡ map index_of (entries l.arena)
