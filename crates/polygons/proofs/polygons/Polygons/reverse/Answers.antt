use Rattle.std.proofs.Common.{sym, ap, subst, ◌∙◌}
use Rattle.std.specs.Prelude.{is_some}
use Rattle.chain_traits.proofs.GenericArenaLemmas.{some_valid, valid_some, links_within}
use Rattle.chain_traits.proofs.GenericRemovalLemmas.{same_entry}
use Rattle.chain_traits.proofs.OutcomeLemmas.{either_some}
use Rattle.polygons.specs.Rings.{AllCyclic}
use Rattle.polygons.proofs.CyclicLemmas.{cyclic_turned}
use Rattle.polygons.proofs.RingLemmas.{reverses_ring, reversed_on}
use Rattle.polygons.proofs.polygons.Polygons.reverse.Goals as goal

pub invariant_of-self : goal.invariant_of-self
invariant_of-self g c =
    let a = c.self.inside.corners in
    let new = c.reverse_chain.new.self in
    let links = g.A.ChainArenaTrait.interlinks in
    let entry = g.A.ArenaTrait.entry in
    let stored = g.met.A.ChainArenaTrait.links_are_entries in
    let finds = λ (b : g.row.A.Denot). (g.A.ArenaTrait.state b).finds in
    either_some c.reverse_chain.result (reversed_on g.A.ArenaTrait.state links g.P.PtrKey.key a new c.args.corner c.reverse_chain.result c.reverse_chain.ensures.outcome) c.reverse_chain.ensures.none
    (λ some is. cyclic_turned (links a) (links new) _ (g.P.PtrKey.key c.args.corner).0 c.invariants.ensures.agree (links_within (links a) (entry a) (g.A.ArenaTrait.view a).entries (stored a) (finds a) _ c.invariants.ensures.sound.indexes) c.self.invariant
    (λ k has. some_valid (links a) (entry a) (g.A.ArenaTrait.view a).entries (stored a) (finds a) k
    (sym (ap (λ e. is_some (e k)) (same_entry g.A.ArenaTrait.state a new (ap (λ s. s.entries) is.view_after))) ∙ valid_some (links new) (entry new) (g.A.ArenaTrait.view new).entries (stored new) (finds new) k has)) is.chains)
    (λ same. subst (λ b. AllCyclic (links b)) (sym same) c.self.invariant)

pub returns : goal.returns
returns g c = rw (← c.self.view_is) (reverses_ring g.A.ArenaTrait.state g.A.ChainArenaTrait.interlinks g.P.PtrKey.key c.self.inside.corners c.reverse_chain.new.self c.args.corner c.reverse_chain.result c.reverse_chain.ensures.outcome c.reverse_chain.ensures.none)
