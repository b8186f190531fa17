use Rattle.std.proofs.Common.{refl, sym, subst}
use Rattle.chain_laws.specs.Chains.{cyclic}
use Rattle.chain_laws.specs.declared.insert_kind.InsertKind.TheVariants.{SingleLinkCyclic}
use Rattle.polygons.specs.Rings.{AllCyclic}
use Rattle.chain_traits.proofs.OutcomeLemmas.{growth_to, either_grown}
use Rattle.chain_lists.proofs.ListChangeLemmas.{item_started}
use Rattle.polygons.proofs.CyclicLemmas.{cyclic_inserted}
use Rattle.polygons.proofs.polygons.Polygons.start.Goals as goal

pub invariant_of-self : goal.invariant_of-self
invariant_of-self g c = either_grown _ _ c.insert.result c.insert.ensures.outcome c.insert.ensures.err
    (λ q gained. cyclic_inserted (g.A.ChainArenaTrait.interlinks c.self.inside.corners) (g.A.ChainArenaTrait.interlinks c.insert.new.self) (g.P.PtrKey.key q).0 _ _ gained.0.pairs (λ i other at. c.self.invariant i at))
    (λ same. subst (λ a. AllCyclic (g.A.ChainArenaTrait.interlinks a)) (sym same) c.self.invariant)

pub returns : goal.returns
returns g c = rw (← c.self.view_is) (record {
  outcome = growth_to _ _ _ c.insert.result c.insert.ensures.outcome (λ q gained. (
    item_started g.A.ArenaTrait.state g.A.ChainArenaTrait.interlinks g.met.A.ChainArenaTrait.links_are_entries cyclic c.self.inside.corners c.insert.new.self c.agrees.ensures (g.P.PtrKey.key q) c.args.point SingleLinkCyclic refl gained.0 (gained.0.chains.ring refl refl),
    gained.1,
  ));
  err = c.insert.ensures.err;
})
