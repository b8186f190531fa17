use Rattle.std.proofs.Common.{refl, sym, ap, ◌∙◌, subst}
use Rattle.std.specs.Option.{option_map, option_copied_mut}
use Rattle.chain_laws.specs.Joins.{with_prev}
use Rattle.arena_core.specs.declared.packed_option.PackedOption.{PackedOption}
use Rattle.chain_links.specs.declared.links.RawLink.{RawLink}
use Rattle.arena_traits.specs.Arena.{with_value}
use Rattle.chain_links.specs.Links.{links_view, link_view, AreAtRest}
use Rattle.chain_links.specs.ChainArena.{interlinks_in, with_interlinks}
use Rattle.chain_linking.proofs.NeighborLemmas.{nothing_named}
use Rattle.chain_links.proofs.RestLemmas.{written_at_rest}
use Rattle.chain_linking.proofs.LinkWriteLemmas.{IsWrite, links_view-write, with_link_map-own}
use Rattle.chain_linking.proofs.link_writes.set_prev.Goals as goal

pub returns-in-Some-get_inx_mut : goal.returns-in-Some-get_inx_mut
returns-in-Some-get_inx_mut g c =
    let number = g.P.Inx.InxKey.number in
    let packed_number = g.P.Inx.InxKey.packed_number in
    let a = c.args.arena.now in
    let n = number c.in-Some.i in
    let packed : PackedOption g.row.P-Inx.Denot g.row.P-Inx-Word.Denot = c.set_prev.new.link.prev in
    let write : RawLink (PackedOption g.row.P-Inx.Denot g.row.P-Inx-Word.Denot) g.row.T.Denot → RawLink (PackedOption g.row.P-Inx.Denot g.row.P-Inx-Word.Denot) g.row.T.Denot = λ l. record l { prev = packed } in
    let says : IsWrite packed_number write (with_prev (option_map number c.args.prev)) = λ l. ap (λ o. with_interlinks (with_prev o (interlinks_in (link_view packed_number l))) (link_view packed_number l)) c.set_prev.ensures.prev in
    let held = rw c.in-Some-get_inx_mut.is at (c.get_inx_mut.follows.holds c.set_prev.new.link) in
    let stored = sym c.get_inx_mut.ensures.value ∙ ap option_copied_mut c.in-Some-get_inx_mut.is in
    record {
      links = rw c.in-Some.is (ap (links_view packed_number) held.1
          ∙ (ap (λ l. links_view packed_number (with_value a n l)) c.set_prev.ensures.rest
          ∙ links_view-write packed_number a n c.in-Some-get_inx_mut.link.now write (with_prev (option_map number c.args.prev)) _ says
          stored (λ i. refl)));
      at_rest = λ rest. subst (λ b. AreAtRest packed_number b.slots) (sym held.1)
          (written_at_rest packed_number a.slots n c.in-Some-get_inx_mut.link.now c.set_prev.new.link stored (ap (λ l. packed_number l.destination) c.set_prev.ensures.rest) rest);
    }

pub proved_unreachable-assume_proved-requires : goal.proved_unreachable-assume_proved-requires
proved_unreachable-assume_proved-requires g c = absurd (
    nothing_named g.P.Inx.InxKey.packed_number c.args.arena.now (g.P.Inx.InxKey.number c.in-Some.i)
    (sym c.get_inx_mut.ensures.value ∙ ap option_copied_mut c.in-None-get_inx_mut.is) (rw c.in-Some.is at c.requires))

pub returns-in-None : goal.returns-in-None
returns-in-None g c = record {
  links = rw c.in-None.is (with_link_map-own (links_view g.P.Inx.InxKey.packed_number c.args.arena.now));
  at_rest = λ rest. rest;
}
