-- The places of the values that were passed are in the table.
use Rattle.std.proofs.Common.{length, map}
use Rattle.arena_traits.specs.Advancers.{ahead}
use Rattle.arena_traits.specs.Entries.{index_of}
use Rattle.surject_arena.specs.KeySets.{IsAscending}
use Rattle.surject_arena.proofs.IterLemmas.{pointers}
use Rattle.surject_arena.proofs.PlaceLemmas.{indexes, ArePlaced}
use Rattle.surject_arena.proofs.compression.places_of.Given as goal

abbrev pub invariant-loop-p : goal.invariant-loop-p
invariant-loop-p g l = record {
  up : IsAscending (g.B.ArenaTrait.cursor l.all);
  placed : ArePlaced (map index_of (g.B.ArenaTrait.view l.values).entries) (indexes (pointers (ahead (g.B.ArenaTrait.cursor l.all) (g.B.ArenaTrait.view l.values).entries))) l.places.items l.n;
}

abbrev pub decreases-loop-p : goal.decreases-loop-p
decreases-loop-p g l = length (indexes (pointers (ahead (g.B.ArenaTrait.cursor l.all) (g.B.ArenaTrait.view l.values).entries)))
