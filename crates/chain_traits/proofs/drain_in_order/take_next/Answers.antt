use Rattle.std.proofs.Common.{sym, subst}
use Rattle.std.specs.Option.{option_map}
use Rattle.chain_traits.specs.DrainOrder.{IsNextLink, TakesLink}
use Rattle.chain_traits.proofs.drain_in_order.take_next.Goals as goal

pub returns : goal.returns
returns g c =
    let number = g.Q.Inx.InxKey.number in
    let old = c.args.source.now in
    let new = c.take_link.new.source in
    let view = g.A.ArenaTrait.view in
    let links = g.A.ChainArenaTrait.interlinks in
    let result = c.take_link.result in
    let here = sym c.take_link.ensures.index in
    record {
      order = rw c.take_link.ensures.cyclic (subst (λ i. IsNextLink (view old) (links old) number c.args.on c.args.ring (g.A.ArenaTrait.cursor c.args.advancer.now) i c.next_link-i.result.1 (g.A.ArenaTrait.cursor c.next_link-i.new.advancer)) here c.next_link-i.ensures.order);
      taken = subst (λ i. TakesLink g.Q.Gen.GenKey.following g.Q.Gen.GenKey.wraps (g.A.ArenaTrait.entry old) (view old) (view new) (links old) (links new) i (g.Q.PtrKey.key result.ptr).1 result.value (option_map number result.next)) here c.take_link.ensures.taken;
    }
