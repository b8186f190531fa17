use Rattle.std.proofs.Common.{refl, ◌∙◌}
use Rattle.surject_arena.proofs.OptionLemmas.{none_some}
use Rattle.surject_arena.proofs.SplitLemmas.{before_is, left_ring}
use Rattle.surject_arena.proofs.keys.leave_ring.Goals as goal

pub returns-in-Some : goal.returns-in-Some
returns-in-Some g c = λ x j valid ring.
    left_ring g.P.PtrKey.key g.A.ArenaTrait.state g.A.ChainArenaTrait.interlinks g.met.A.ChainArenaTrait.links_are_entries c.args.keys.now c.exchange_next.new.self c.args.p x j c.agrees.ensures ring
    valid c.in-Some.q (c.in-Some.ensures valid) c.exchange_next.result c.exchange_next.ensures.outcome

pub returns-in-None : goal.returns-in-None
returns-in-None g c = λ x j valid ring. absurd (none_some _ _ refl (c.in-None.ensures valid
    ∙ before_is g.P.PtrKey.key g.A.ArenaTrait.state g.A.ChainArenaTrait.interlinks g.met.A.ChainArenaTrait.links_are_entries c.args.keys.now c.args.keys.now c.args.p x j c.agrees.ensures ring))
