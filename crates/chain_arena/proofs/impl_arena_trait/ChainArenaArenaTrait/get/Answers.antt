use Rattle.std.proofs.Common.{refl, ap, ◌∙◌}
use Rattle.std.specs.Option.{option_map}
use Rattle.chain_links.specs.ChainArena.{on_value}
use Rattle.chain_linking.proofs.ConnectionLemmas.{same_valid, value_at}
use Rattle.chain_links.specs.Links.{held_in}
use Rattle.chain_arena.proofs.impl_arena_trait.ChainArenaArenaTrait.get.Goals as goal

pub returns-in-Some : goal.returns-in-Some
returns-in-Some g c =
    let number = g.P.Inx.InxKey.packed_number in
    let a = c.self.inside.arena in
    let p = g.P.PtrKey.key c.args.p in
    let same = same_valid number a p in
    rw (← c.self.view_is) (record {
      some = (λ _. same.0 (c.in-Some.ensures.some.0 refl), λ _. refl);
      value = rw c.value_of.ensures (value_at number a p.0 ∙ ap (option_map (on_value held_in)) c.in-Some.ensures.value);
    })

pub returns-in-None : goal.returns-in-None
returns-in-None g c =
    let same = same_valid g.P.Inx.InxKey.packed_number c.self.inside.arena (g.P.PtrKey.key c.args.p) in
    rw (← c.self.view_is) (record { some = (λ h. same.0 (c.in-None.ensures.some.0 h), λ valid. c.in-None.ensures.some.1 (same.1 valid)); value = tt })
