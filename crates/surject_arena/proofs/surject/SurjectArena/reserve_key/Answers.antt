use Rattle.std.proofs.Common.{◌≡◌, refl, ap}
use Rattle.std.specs.Option.{option_map}
use Rattle.chain_traits.proofs.OutcomeLemmas.{either_grown}
use Rattle.surject_arena.proofs.SetChangeLemmas.{same_partition, same_entries}
use Rattle.surject_arena.proofs.surject.SurjectArena.reserve_key.Goals as goal

pub invariant_of-self : goal.invariant_of-self
invariant_of-self g c =
    let a = c.self.inside.keys in
    let b = c.reallocate_min_capacity.new.self in
    let view = g.A.ArenaTrait.view in
    let same : (view b).entries ≡ (view a).entries = either_grown _ _ c.reallocate_min_capacity.result c.reallocate_min_capacity.ensures.outcome c.reallocate_min_capacity.ensures.err (λ done grown. ap (λ s. s.entries) grown.0) (λ same. ap (λ x. (view x).entries) same) in
    same_partition _ _ _ _ _ _ c.self.invariant (λ i. ap (option_map (λ e. g.P.PtrKey.key e.1.set)) (same_entries g.A.ArenaTrait.state a b same i))
    (g.met.A.ChainArenaTrait.growth_keeps _ a b c.reallocate_min_capacity.ensures.implementation) (λ j. refl)
