use Rattle.std.proofs.Common.{refl, sym, subst}
use Rattle.arena_core.proofs.PointerKindLemmas.{kind_by}
use Rattle.arena_core.specs.Invalidation.{value_within}
use Rattle.chain_laws.specs.Chains.{cyclic}
use Rattle.chain_traits.proofs.OutcomeLemmas.{on_some}
use Rattle.chain_traits.proofs.GenericRemovalLemmas.{TakesEntry, removal}
use Rattle.chain_lists.proofs.ItemRemovalLemmas.{removes_item}
use Rattle.polygons.proofs.CyclicLemmas.{cyclic_of}
use Rattle.polygons.proofs.polygons.Polygons.remove.Given.{Over}
use Rattle.polygons.proofs.polygons.Polygons.remove.Goals.{After-allow}
use Rattle.polygons.proofs.polygons.Polygons.remove.Goals as goal

it : (g : Over) (c : After-allow g) → TakesEntry g.A.ArenaTrait.state g.A.ChainArenaTrait.interlinks g.P.Gen.GenKey.following c.self.inside.corners c.remove.new.self (g.P.PtrKey.key c.args.corner) c.allow.result
it g c =
    let old = c.self.inside.corners in
    let new = c.remove.new.self in
    let p = g.P.PtrKey.key c.args.corner in
    subst (TakesEntry g.A.ArenaTrait.state g.A.ChainArenaTrait.interlinks g.P.Gen.GenKey.following old new p) (sym c.allow.ensures)
    (removal g.A.ArenaTrait.state g.A.ChainArenaTrait.interlinks (kind_by g.P.PtrKey g.P.Inx.InxKey g.P.Gen.GenKey) old new c.args.corner c.agrees.ensures c.remove.result c.remove.ensures.outcome c.remove.ensures.invalid
    (on_some (value_within c.remove.result) c.remove.ensures.implementation (λ removed. g.met.A.ChainArenaTrait.removal_removes old new p.0 removed)))

pub invariant_of-self : goal.invariant_of-self
invariant_of-self g c = cyclic_of g.A.ArenaTrait.state g.A.ChainArenaTrait.interlinks (kind_by g.P.PtrKey g.P.Inx.InxKey g.P.Gen.GenKey) _ _ c.args.corner c.allow.result (it g c) c.agrees.ensures c.self.invariant

pub returns : goal.returns
returns g c = rw (← c.self.view_is) (removes_item g.A.ArenaTrait.state g.A.ChainArenaTrait.interlinks (kind_by g.P.PtrKey g.P.Inx.InxKey g.P.Gen.GenKey) c.self.inside.corners c.remove.new.self c.args.corner cyclic (λ l. refl) c.allow.result (it g c) (λ chains. chains.from_cyclic))
