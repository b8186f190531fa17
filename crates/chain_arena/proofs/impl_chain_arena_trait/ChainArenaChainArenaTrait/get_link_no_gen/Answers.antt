use Rattle.std.proofs.Common.{◌≡◌, ℕ, Option, Some, None, ap, ◌∙◌}
use Rattle.std.specs.Prelude.{IfSome}
use Rattle.std.specs.Borrow.{Bor}
use Rattle.std.specs.Option.{option_map}
use Rattle.arena_traits.specs.Arena.{Arena, entry_at}
use Rattle.chain_links.specs.declared.links.RawLink.{RawLink}
use Rattle.chain_links.specs.Links.{link_view, links_view}
use Rattle.chain_links.specs.ChainArena.{on_value, link_map, entry, link_at}
use Rattle.chain_links.proofs.MappedArenaLemmas.{entry_at-with_each}
use Rattle.chain_linking.proofs.ConnectionLemmas.{same_valid}
use Rattle.chain_arena.proofs.ChainDrainLemmas.{link_at-entry}
use Rattle.chain_arena.proofs.impl_chain_arena_trait.ChainArenaChainArenaTrait.get_link_no_gen.Goals as goal

lent : {K Gen T : Type 0} (number : K → Option ℕ) (a : Arena Gen (RawLink K T)) (p : ℕ × Gen) (r : Option (Bor (RawLink K T))) → IfSome r (λ link. entry_at a p.0 ≡ Some (p.1, link.now))
    → IfSome r (λ link. link_at (entry (links_view number a)) (link_map (links_view number a)) p.0 ≡ Some (p.1, link_view number link.now))
lent number a p None stored = tt
lent number a p (Some link) stored =
    link_at-entry (links_view number a) p.0 ∙ (entry_at-with_each (link_view number) a p.0 ∙ ap (option_map (on_value (link_view number))) stored)

pub returns : goal.returns
returns g c =
    let number = g.P.Inx.InxKey.packed_number in
    let a = c.self.inside.arena in
    let p = g.P.PtrKey.key c.args.p in
    let same = same_valid number a p in
    rw (← c.self.view_is) (record {
      some = (λ h. same.0 (c.get.ensures.some.0 h), λ valid. c.get.ensures.some.1 (same.1 valid));
      link = lent number a p c.get.result c.get.ensures.value;
    })
