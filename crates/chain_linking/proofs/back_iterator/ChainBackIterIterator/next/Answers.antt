use Rattle.std.specs.Option.{option_map}
use Rattle.chain_links.specs.Links.{link_view, links_view}
use Rattle.chain_linking.proofs.BackWalkerLemmas.{back_stored}
use Rattle.chain_linking.proofs.WalkerLemmas.{read_some}
use Rattle.chain_linking.proofs.back_iterator.ChainBackIterIterator.next.Goals as goal

pub invariant_of-self : goal.invariant_of-self
invariant_of-self g c =
    let number = g.P.Inx.InxKey.number in
    let packed = g.P.Inx.InxKey.packed_number in
    let i = number c.in-Some.i in
    let link = c.in-Some-lookup.item.1.now in
    back_stored (links_view packed c.self.inside.arena.now) (number c.self.inside.start) i ((g.P.PtrKey.key c.in-Some-lookup.item.0).1, link_view packed link)
    (option_map number c.prev.result) (option_map number c.step_back-self-inside.result)
    (read_some i _ _ _ c.in-Some-lookup.ensures.link) c.prev.ensures c.step_back-self-inside.ensures c.self.invariant.agrees c.self.invariant.began
