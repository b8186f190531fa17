use Rattle.std.proofs.Common.{◌≤◌, sym, ◌∙◌, subst, arith}
use Rattle.arena_traits.specs.Arena.{HasCapacityFor}
use Rattle.chain_links.specs.Links.{links_view}
use Rattle.chain_links.specs.ChainArena.{values_of, link_map}
use Rattle.chain_links.proofs.LinkStateLemmas.{length-links_view}
use Rattle.arena_base.proofs.SlotPartitionLemmas.{entries_within, they_fill}
use Rattle.chain_links.proofs.ArenaInsertionLemmas.{count-values, entry_count-links_view, link_map-within, length-values, listed-links_view, listed-values}
use Rattle.chain_laws.proofs.ChainLemmas.Partitions.{one_set}
use Rattle.chain_arena.proofs.impl_arena_trait.ChainArenaArenaTrait.len.Goals as goal

pub returns : goal.returns
returns g c =
    let number = g.P.Inx.InxKey.packed_number in
    let greatest = g.P.Inx.InxKey.greatest in
    let a = c.self.inside.arena in
    let links = links_view number a in
    let known = c.len.ensures in
    let counted = known.entries ∙ sym (count-values number a) in
    rw (← c.self.view_is) (record {
      count = counted;
      sound = record {
        fits = omega (arith, counted, known.count, known.sound.fits);
        one_more = omega (arith, counted, known.count, known.sound.one_more);
        indexes = entries_within (values_of links).slots greatest (subst (λ n. n ≤ greatest) (sym (length-values number a)) (omega (arith, known.capacity.0.fits, known.capacity.0.at_most_greatest)));
        filled = they_fill (values_of links) (listed-values number a known.listed) a.placed a.touched;
      };
      links = known.entries ∙ sym (entry_count-links_view number a);
      chains = one_set (link_map links) _ c.self.invariant.agree (link_map-within links);
      listed = listed-links_view number a known.listed;
      capacity = subst (λ n. HasCapacityFor greatest n links) (sym (length-links_view number a)) known.capacity;
    })
