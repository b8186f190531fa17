-- The lines so far have been parsed.
use Rattle.std.proofs.Common.{take}
use Rattle.triangulation.specs.Polygons.{rings_of}
use Rattle.triangulate.specs.RingTexts.{texts_of, AreRingTexts}
use Rattle.triangulate.proofs.rings.rings.Given as goal

abbrev pub invariant-loop-i : goal.invariant-loop-i
invariant-loop-i l = AreRingTexts (texts_of (take l.i l.lines)) (rings_of l.rings.items)
