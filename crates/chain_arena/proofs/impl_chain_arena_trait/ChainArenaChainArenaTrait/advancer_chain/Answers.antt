use Rattle.std.proofs.Common.{ap, sym, ◌∙◌, refl}
use Rattle.std.specs.Prelude.{Some}
use Rattle.std.specs.Option.{option_map}
use Rattle.std.proofs.lemmas.Bool.{false≢true}
use Rattle.chain_links.specs.Links.{links_view}
use Rattle.chain_linking.proofs.AdvancerLemmas.{same_walkers}
use Rattle.chain_linking.proofs.ConnectionLemmas.{prev_of-view_after, same_valid}
use Rattle.chain_links.proofs.ArenaInsertionLemmas.{entry_count-links_view, values-count}
use Rattle.chain_arena.proofs.impl_chain_arena_trait.ChainArenaChainArenaTrait.advancer_chain.Goals as goal

pub returns-in-Some : goal.returns-in-Some
returns-in-Some g c =
    let packed = g.P.Inx.InxKey.packed_number in
    let number = g.P.Inx.InxKey.number in
    let a = c.self.inside.arena in
    let p = g.P.PtrKey.key c.args.p in
    let made = c.new.ensures in
    rw (← c.self.view_is) (record {
      some = (λ _. (same_valid packed a p).0 (c.in-Some.ensures.some.0 refl), λ _. refl);
      walker = same_walkers
          (made.left ∙ (c.len.ensures.entries ∙ (sym (entry_count-links_view packed a) ∙ sym (values-count (links_view packed a)))))
          (ap number made.start ∙ c.inx.ensures)
          (ap (option_map number) made.forward ∙ ap Some c.inx.ensures)
          (ap (option_map number) made.back ∙ (c.prev.ensures ∙ sym (prev_of-view_after packed a p c.in-Some.link.now c.in-Some.ensures.value)));
    })

pub returns-in-None : goal.returns-in-None
returns-in-None g c =
    let same = same_valid g.P.Inx.InxKey.packed_number c.self.inside.arena (g.P.PtrKey.key c.args.p) in
    rw (← c.self.view_is) (record { some = (λ no. absurd (false≢true no), λ valid. absurd (false≢true (c.in-None.ensures.some.1 (same.1 valid)))); walker = tt })
