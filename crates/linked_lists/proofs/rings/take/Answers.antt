use Rattle.std.proofs.Common.{refl}
use Rattle.arena_core.proofs.PointerKindLemmas.{kind_by}
use Rattle.arena_core.specs.Invalidation.{value_within}
use Rattle.chain_laws.specs.Chains.{cyclic}
use Rattle.chain_traits.proofs.OutcomeLemmas.{on_some}
use Rattle.chain_traits.proofs.GenericRemovalLemmas.{removal}
use Rattle.chain_lists.proofs.ItemRemovalLemmas.{removes_item}
use Rattle.linked_lists.proofs.ChangeLemmas.{overflow_reported}
use Rattle.linked_lists.proofs.rings.take.Goals as goal

pub returns-clause-item : goal.returns-clause-item
returns-clause-item g c =
    let old = c.args.arena.now in
    let new = c.remove.new.self in
    let p = g.P.PtrKey.key c.args.p in
    let kind = kind_by g.P.PtrKey g.P.Inx.InxKey g.P.Gen.GenKey in
    removes_item g.A.ArenaTrait.state g.A.ChainArenaTrait.interlinks kind old new c.args.p cyclic (λ l. refl) (value_within c.remove.result)
    (removal g.A.ArenaTrait.state g.A.ChainArenaTrait.interlinks kind old new c.args.p c.agrees.ensures c.remove.result c.remove.ensures.outcome c.remove.ensures.invalid
    (on_some (value_within c.remove.result) c.remove.ensures.implementation (λ removed. g.met.A.ChainArenaTrait.removal_removes old new p.0 removed)))
    (λ chains. chains.from_cyclic)

pub returns-clause-overflow : goal.returns-clause-overflow
returns-clause-overflow g c = overflow_reported g.P.Gen.GenKey.wraps _ _ _ c.remove.result c.remove.ensures.outcome
