use Rattle.std.proofs.Common.{◌≡◌, ℕ, Option, Some, None, refl, sym, ap, ◌∙◌}
use Rattle.std.specs.Borrow.{Bor}
use Rattle.std.specs.Option.{option_map}
use Rattle.arena_traits.specs.Arena.{Arena, entry_at, borrowed_entry}
use Rattle.chain_links.specs.declared.links.RawLink.{RawLink}
use Rattle.chain_links.specs.Links.{link_view, links_view, borrowed_link}
use Rattle.chain_links.specs.ChainArena.{on_value, link_map, entry, link_at}
use Rattle.chain_links.proofs.MappedArenaLemmas.{entry_at-with_each}
use Rattle.chain_arena.proofs.ChainDrainLemmas.{link_at-entry}
use Rattle.chain_arena.proofs.impl_chain_arena_trait.ChainArenaChainArenaTrait.get_inx_link_no_gen.Goals as goal

lent : {K Gen T : Type 0} (number : K → Option ℕ) (a : Arena Gen (RawLink K T)) (i : ℕ) (r : Option (Gen × Bor (RawLink K T))) → option_map borrowed_entry r ≡ entry_at a i
    → option_map (borrowed_link number) r ≡ link_at (entry (links_view number a)) (link_map (links_view number a)) i
lent {K} {Gen} {T} number a i r stored =
    view_after r ∙ (ap (option_map (on_value (link_view number))) stored ∙ (sym (entry_at-with_each (link_view number) a i) ∙ sym (link_at-entry (links_view number a) i)))
  where
    view_after : (r : Option (Gen × Bor (RawLink K T))) → option_map (borrowed_link number) r ≡ option_map (on_value (link_view number)) (option_map borrowed_entry r)
    view_after None = refl
    view_after (Some e) = refl

pub returns : goal.returns
returns g c = rw (← c.self.view_is) (record {
  link = lent g.P.Inx.InxKey.packed_number c.self.inside.arena (g.P.Inx.InxKey.number c.args.i) c.get_inx.result c.get_inx.ensures;
  agree = c.self.invariant.agree;
})
