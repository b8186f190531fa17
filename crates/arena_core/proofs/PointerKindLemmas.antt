-- The pointer kind of a bound.
use Rattle.arena_core.specs.declared.keys.GenKey as generations
use Rattle.arena_core.specs.declared.keys.InxKey as indexes
use Rattle.arena_core.specs.declared.keys.PtrKey as pointers
use Rattle.arena_core.specs.PointerKinds.{PointerKind}

abbrev pub kind_by : {P I Gen W : Type 0} → pointers.Ghosts P I Gen W → indexes.Ghosts I W → generations.Ghosts Gen → PointerKind P I Gen W
kind_by pointer index generation = record {
  key = pointer.key;
  number = index.number;
  packed = index.packed_number;
  greatest = index.greatest;
  first = generation.first;
  following = generation.following;
  wraps = generation.wraps;
}
