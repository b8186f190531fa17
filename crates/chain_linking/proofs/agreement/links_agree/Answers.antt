use Rattle.std.proofs.Common.{◌+◌, ◌≤◌, length, refl, ap, subst, arith, below_more}
use Rattle.std.proofs.lemmas.List.{length-map}
use Rattle.arena_base.specs.Slots.{entry_of}
use Rattle.chain_linking.specs.Agreement.{IsWellLinkedAt}
use Rattle.chain_links.specs.ChainArena.{link_map}
use Rattle.chain_links.specs.Links.{links_view}
use Rattle.chain_linking.proofs.AgreementLemmas.{agrees_all}
use Rattle.chain_links.proofs.ArenaInsertionLemmas.{link_map-within}
use Rattle.chain_links.proofs.LinkStateLemmas.{length-links_view}
use Rattle.chain_linking.proofs.agreement.links_agree.Goals as goal

pub loop-k-preserved : goal.loop-k-preserved
loop-k-preserved g c =
    let links = link_map (links_view g.P.Inx.InxKey.packed_number c.args.arena.now) in
    below_more (λ k. IsWellLinkedAt links (k + 1)) c.loop-k.k c.loop-k.invariant (subst (IsWellLinkedAt links) c.inx_at.ensures (c.agrees_at.ensures.0 c.if-not-agrees_at.false))

pub returns : goal.returns
returns g c =
    let view_after = links_view g.P.Inx.InxKey.packed_number c.args.arena.now in
    let long : length view_after.slots ≤ c.loop-k.k = omega (
      arith,
      c.loop-k-test.false,
      c.len-k-end.ensures,
      length-map (g.S.SlotStack.items c.backing.result.now) entry_of,
      ap (λ slots. length slots) c.backing.ensures.slots,
      length-links_view g.P.Inx.InxKey.packed_number c.args.arena.now,
    ) in
    ((λ _. agrees_all (link_map view_after) (length view_after.slots) (link_map-within view_after) (λ k less. c.loop-k.invariant k (omega (arith, less, long)))), (λ _. refl))
