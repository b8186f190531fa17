use Rattle.std.proofs.Common.{inr, length, ap, subst, rules, arith}
use Rattle.triangulation.specs.Polygons.{rings_of}
use Rattle.triangulate.specs.RingTexts.{texts_of, AreRingTexts}
use Rattle.triangulate.proofs.LineLemmas.{some_rings}
use Rattle.triangulate.proofs.rings.triangulate_lines.Goals as goal

pub returns-in-Some : goal.returns-in-Some
returns-in-Some g c = inr (record { outline = c.deref-in-Some.result.now; holes = rings_of c.in-Some.holes.now; rings = search rules; reason = c.in-Err-triangulate_polygon.ensures })

pub unreachable-requires : goal.unreachable-requires
unreachable-requires g c = omega (arith, some_rings c.args.lines.items c.in-Ok.rings.items c.requires (subst (λ lines. AreRingTexts (texts_of lines) (rings_of c.in-Ok.rings.items)) c.deref.ensures.value c.in-Ok.ensures), ap length c.deref-2.ensures.value, c.in-None.ensures.cases)
