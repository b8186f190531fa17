use Rattle.std.proofs.Common.{◌∙◌, ap, refl}
use Rattle.std.specs.Option.{option_map}
use Rattle.polygons.proofs.RingLemmas.{ring_continues, in_a_ring}
use Rattle.polygons.proofs.polygons.Polygons.next.Goals as goal

pub returns-in-Some : goal.returns-in-Some
returns-in-Some g c = rw (← c.self.view_is) (record {
  none = λ invalid. absurd (invalid (c.in-Some.ensures.outcome.some.0 refl));
  next = λ t others is. ap (option_map g.P.PtrKey.key) c.next.ensures ∙ (c.in-Some.ensures.outcome.link.after ∙ ring_continues g.A.ArenaTrait.state g.A.ChainArenaTrait.interlinks c.self.inside.corners (g.P.PtrKey.key c.args.corner) t others is);
})

pub returns-in-None : goal.returns-in-None
returns-in-None g c = rw (← c.self.view_is) (record {
  none = λ invalid. refl;
  next = λ t others is. absurd (let valid = c.in-None.ensures.outcome.some.1 (in_a_ring g.A.ArenaTrait.state g.A.ChainArenaTrait.interlinks c.self.inside.corners (g.P.PtrKey.key c.args.corner) t others is) in cc);
})
