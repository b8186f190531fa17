use Rattle.std.proofs.Common.{refl, arith}
use Rattle.chain_laws.specs.Chains.{cyclic}
use Rattle.chain_traits.proofs.GenericArenaLemmas.{valid_link}
use Rattle.chain_traits.proofs.OutcomeLemmas.{full_if_refused}
use Rattle.polygons.proofs.CyclicLemmas.{cyclic_after}
use Rattle.chain_lists.proofs.ListChangeLemmas.{item_after}
use Rattle.polygons.proofs.polygons.add_after.Goals as goal

pub returns : goal.returns
returns g c =
    let a = c.args.corners.now in
    let new = c.insert.new.self in
    let gained = c.in-Ok.ensures.outcome.0 in
    let p = g.P.PtrKey.key c.args.v in
    record {
      corner = item_after g.A.ArenaTrait.state g.A.ChainArenaTrait.interlinks g.met.A.ChainArenaTrait.links_are_entries cyclic a new c.agrees.ensures (g.P.PtrKey.key c.in-Ok.p) c.args.t p gained (λ x y. (gained.chains.after p.0 refl refl x y).1);
      all_cyclic = cyclic_after (g.A.ChainArenaTrait.interlinks a) (g.A.ChainArenaTrait.interlinks new) (g.P.PtrKey.key c.in-Ok.p).0 p.0 gained.pairs (valid_link (g.A.ChainArenaTrait.interlinks a) (g.A.ArenaTrait.entry a) (g.A.ArenaTrait.view a).entries (g.met.A.ChainArenaTrait.links_are_entries a) (g.A.ArenaTrait.state a).finds p c.requires.valid);
      capacity = c.in-Ok.ensures.outcome.1.1 (let free = c.requires.capacity in omega arith);
    }

pub unreachable-requires : goal.unreachable-requires
unreachable-requires g c = let full = full_if_refused (g.A.ArenaTrait.view c.args.corners.now) _ c.in-Err.ensures.outcome in let free = c.requires.capacity in omega (arith, full, free)
