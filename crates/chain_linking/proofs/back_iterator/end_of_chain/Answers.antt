use Rattle.std.specs.Prelude.{length, ◌<◌}
use Rattle.chain_links.specs.ChainArena.{link_map}
use Rattle.chain_links.specs.Links.{links_view}
use Rattle.chain_linking.proofs.BackWalkerLemmas.{IsOnToEnd, steps_on, way_to_end, on_continues, on_ends}
use Rattle.chain_linking.proofs.back_iterator.end_of_chain.Given.{Over}
use Rattle.chain_linking.proofs.back_iterator.end_of_chain.Goals.{In-Some}
use Rattle.chain_linking.proofs.back_iterator.end_of_chain.Goals as goal

pub loop-k-init : goal.loop-k-init
loop-k-init g c = record {
  on = way_to_end (links_view g.P.Inx.InxKey.packed_number c.args.arena.now) (g.P.Inx.InxKey.number c.args.start) c.requires.agrees c.requires.began;
}

goes_on : (g : Over) (c : In-Some g) →
    IsOnToEnd (link_map (links_view g.P.Inx.InxKey.packed_number c.args.arena.now)) (g.P.Inx.InxKey.number c.args.start) (length (links_view g.P.Inx.InxKey.packed_number c.args.arena.now).slots) (g.P.Inx.InxKey.number c.in-Some.k)
    × (steps_on (link_map (links_view g.P.Inx.InxKey.packed_number c.args.arena.now)) (g.P.Inx.InxKey.number c.args.start) (length (links_view g.P.Inx.InxKey.packed_number c.args.arena.now).slots) (g.P.Inx.InxKey.number c.in-Some.k)
    < steps_on (link_map (links_view g.P.Inx.InxKey.packed_number c.args.arena.now)) (g.P.Inx.InxKey.number c.args.start) (length (links_view g.P.Inx.InxKey.packed_number c.args.arena.now).slots) (g.P.Inx.InxKey.number c.loop-k.end))
goes_on g c =
    let number = g.P.Inx.InxKey.number in
    let a = links_view g.P.Inx.InxKey.packed_number c.args.arena.now in
    on_continues (link_map a) (number c.args.start) (length a.slots) (number c.loop-k.end) (number c.in-Some.k) c.loop-k.invariant.on c.in-Some.ensures

pub loop-k-smaller : goal.loop-k-smaller
loop-k-smaller g c = (goes_on g c).1

pub loop-k-preserved : goal.loop-k-preserved
loop-k-preserved g c = record { on = (goes_on g c).0 }

pub returns-in-None : goal.returns-in-None
returns-in-None g c =
    let number = g.P.Inx.InxKey.number in
    let a = links_view g.P.Inx.InxKey.packed_number c.args.arena.now in
    on_ends (link_map a) (number c.args.start) (length a.slots) (number c.loop-k.end) c.loop-k.invariant.on c.in-None.ensures
