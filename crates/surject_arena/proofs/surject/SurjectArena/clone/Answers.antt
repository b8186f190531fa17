use Rattle.std.proofs.Common.{ap}
use Rattle.std.specs.Option.{option_map}
use Rattle.surject_arena.proofs.SetChangeLemmas.{same_partition, same_entries}
use Rattle.surject_arena.proofs.surject.SurjectArena.clone.Goals as goal

pub invariant_of-result : goal.invariant_of-result
invariant_of-result g c =
    let key = g.P.PtrKey.key in
    let keys = c.in_ok-keys.ensures.outcome in
    let values = c.in_ok-values.ensures.outcome in
    same_partition _ _ _ _ _ _ c.self.invariant
    (λ i. ap (option_map (λ e. key e.1.set)) (same_entries g.A.ArenaTrait.state c.self.inside.keys c.in_ok-keys.keys keys.0.entries i))
    keys.1
    (λ j. ap (option_map (λ e. (e.0, e.1.size))) (same_entries g.B.ArenaTrait.state c.self.inside.values c.in_ok-values.values values.entries j))
