-- The holes so far have been joined.
use Rattle.std.proofs.Common.{◌<◌, length, take}
use Rattle.triangulation.specs.Polygons.{rings_of, AreJoined}
use Rattle.triangulation.proofs.joining.joined.Given as goal

abbrev pub invariant-loop-hole : goal.invariant-loop-hole
invariant-loop-hole l = record {
  all : AreJoined l.fn.outline.items (rings_of (take l.hole-index l.holes)) l.joined.items;
  some : 0 < length l.joined.items;
}
