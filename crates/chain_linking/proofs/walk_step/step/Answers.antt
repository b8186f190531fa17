use Rattle.std.specs.Option.{option_map}
use Rattle.chain_links.specs.Links.{links_view}
use Rattle.chain_linking.proofs.AdvancerLemmas.{read_none, ends_forward, ends_back}
use Rattle.chain_linking.proofs.walk_step.step.Goals as goal

pub returns-in-None-lookup-clause-none : goal.returns-in-None-lookup-clause-none
returns-in-None-lookup-clause-none g c =
    let number = g.P.Inx.InxKey.number in
    let a = links_view g.P.Inx.InxKey.packed_number c.args.arena.now in
    rw c.in-Some.is (ends_forward a (number c.args.start) (number c.in-Some.i) (read_none (number c.in-Some.i) _ c.in-None-lookup.ensures.link) (option_map number c.args.back))

pub returns-in-None-lookup-2-clause-none : goal.returns-in-None-lookup-2-clause-none
returns-in-None-lookup-2-clause-none g c =
    let number = g.P.Inx.InxKey.number in
    let a = links_view g.P.Inx.InxKey.packed_number c.args.arena.now in
    rw (c.in-None.is, c.in-Some-back.is) (ends_back a (number c.args.start) (number c.in-Some-back.i) (read_none (number c.in-Some-back.i) _ c.in-None-lookup-2.ensures.link))
