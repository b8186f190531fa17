-- The corners so far are a ring, and listed.
use Rattle.std.proofs.Common.{◌≡◌, ◌+◌, ◌∷◌, take, map, length}
use Rattle.triangulation.specs.Clippings.{IsRingBetween}
use Rattle.triangulation.specs.CornerIndexes.{AreListed}
use Rattle.triangulation.proofs.outlines.insert_ring.Given as goal

abbrev pub invariant-loop-corner : goal.invariant-loop-corner
invariant-loop-corner g l = record {
  ring : IsRingBetween g.A.ArenaTrait.state g.A.ChainArenaTrait.interlinks l.ring (g.P.PtrKey.key l.start) (g.P.PtrKey.key l.last) (l.fn.first ∷ take l.corner-index l.others);
  listed : AreListed (g.A.ArenaTrait.entry l.ring) (map g.P.PtrKey.key l.pointers.items) (l.fn.first ∷ take l.corner-index l.others);
  number : length l.pointers.items ≡ l.corner-index + 1;
}
