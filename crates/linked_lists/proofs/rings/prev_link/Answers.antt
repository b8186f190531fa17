use Rattle.std.proofs.Common.{◌∙◌, ap, refl}
use Rattle.std.specs.Option.{option_map}
use Rattle.linked_lists.proofs.ListLemmas.{not_both}
use Rattle.linked_lists.proofs.RingLemmas.{ring_precedes, in_a_ring}
use Rattle.linked_lists.proofs.rings.prev_link.Goals as goal

pub returns-in-Some : goal.returns-in-Some
returns-in-Some g c = λ v others is. ap (option_map g.P.PtrKey.key) c.prev.ensures ∙ (c.in-Some.ensures.outcome.link.before ∙ ring_precedes g.A.ArenaTrait.state g.A.ChainArenaTrait.interlinks c.args.arena.now (g.P.PtrKey.key c.args.p) v others is)

pub returns-in-None : goal.returns-in-None
returns-in-None g c = λ v others is. absurd (not_both (c.in-None.ensures.outcome.some.1 (in_a_ring g.A.ArenaTrait.state g.A.ChainArenaTrait.interlinks c.args.arena.now (g.P.PtrKey.key c.args.p) v others is)) refl)
