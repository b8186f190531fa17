use Rattle.std.proofs.Common.{refl, sym, ap, ◌∙◌, subst}
use Rattle.std.specs.Option.{option_copied_mut}
use Rattle.chain_laws.specs.Reversals.{turned}
use Rattle.arena_core.specs.declared.packed_option.PackedOption.{PackedOption}
use Rattle.chain_links.specs.declared.links.RawLink.{RawLink}
use Rattle.arena_traits.specs.Arena.{with_value}
use Rattle.chain_links.specs.Links.{links_view, AreAtRest}
use Rattle.chain_links.proofs.RestLemmas.{written_at_rest}
use Rattle.chain_linking.proofs.LinkWriteLemmas.{IsWrite, links_view-write}
use Rattle.chain_linking.proofs.ReversalLemmas.{prev_read, next_read}
use Rattle.chain_linking.proofs.reversal.turn.Goals as goal

pub returns : goal.returns
returns g c =
    let packed_number = g.P.Inx.InxKey.packed_number in
    let a = c.args.arena.now in
    let n = g.P.Inx.InxKey.number c.args.i in
    let link = c.in-Some.link.now in
    let write : RawLink (PackedOption g.row.P-Inx.Denot g.row.P-Inx-Word.Denot) g.row.T.Denot → RawLink (PackedOption g.row.P-Inx.Denot g.row.P-Inx-Word.Denot) g.row.T.Denot = λ l. record l { prev = l.next; next = l.prev } in
    let says : IsWrite packed_number write turned = λ l. refl in
    let held = rw c.in-Some.is at (c.get_inx_mut.follows.holds c.turn.new.link) in
    let stored = sym c.get_inx_mut.ensures.value ∙ ap option_copied_mut c.in-Some.is in
    record {
      prev = c.turn.ensures.prev ∙ sym (prev_read packed_number a n link stored);
      next = c.turn.ensures.next ∙ sym (next_read packed_number a n link stored);
      links = record {
        links = ap (links_view packed_number) held.1
            ∙ (ap (λ l. links_view packed_number (with_value a n l)) c.turn.ensures.turned
            ∙ links_view-write packed_number a n link write turned _ says stored (λ i. refl));
        at_rest = λ rest. subst (λ b. AreAtRest packed_number b.slots) (sym held.1)
            (written_at_rest packed_number a.slots n link c.turn.new.link stored (ap (λ l. packed_number l.destination) c.turn.ensures.turned) rest);
      };
    }
