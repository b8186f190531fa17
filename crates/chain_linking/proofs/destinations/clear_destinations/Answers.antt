use Rattle.std.proofs.Common.{◌≤◌, length, refl, ap, ◌∙◌, arith}
use Rattle.std.proofs.lemmas.List.{length-map}
use Rattle.arena_base.specs.Slots.{entry_of}
use Rattle.chain_links.proofs.LinkStateLemmas.{length-links_view}
use Rattle.chain_linking.proofs.DestinationLemmas.{clearing_begins, clearing_continues, clearing_ends}
use Rattle.chain_linking.proofs.destinations.clear_destinations.Goals as goal

pub loop-k-init : goal.loop-k-init
loop-k-init g c = record { links = refl; cleared = clearing_begins g.P.Inx.InxKey.packed_number c.args.arena.now.slots }

pub loop-k-preserved : goal.loop-k-preserved
loop-k-preserved g c =
    let inv = c.loop-k.invariant in
    let cleared = c.clear_destination.ensures in
    record {
      links = cleared.links ∙ inv.links;
      cleared = clearing_continues g.P.Inx.InxKey.packed_number c.loop-k.arena.slots c.clear_destination.new.arena.slots c.loop-k.k (g.P.Inx.InxKey.number c.inx_at.result) c.inx_at.ensures inv.cleared cleared.cleared cleared.others;
    }

pub returns : goal.returns
returns g c =
    let number = g.P.Inx.InxKey.packed_number in
    let old = c.args.arena.now in
    let now = c.loop-k.arena in
    let inv = c.loop-k.invariant in
    let long : length now.slots ≤ c.loop-k.k = omega (
      arith,
      c.loop-k-test.false,
      c.len-k-end.ensures,
      length-map (g.S.SlotStack.items c.backing.result.now) entry_of,
      ap (λ slots. length slots) c.backing.ensures.slots,
      ap (λ a. length a.slots) inv.links,
      length-links_view number old,
      length-links_view number now,
    ) in
    record { links = inv.links; at_rest = clearing_ends number now.slots c.loop-k.k long inv.cleared }
