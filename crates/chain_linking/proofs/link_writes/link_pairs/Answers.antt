use Rattle.std.specs.Option.{option_map}
use Rattle.chain_links.specs.Links.{links_view}
use Rattle.chain_laws.specs.Joins.{with_neighbors}
use Rattle.chain_links.specs.ChainArena.{link_map}
use Rattle.chain_linking.proofs.NeighborLemmas.{still_named}
use Rattle.chain_linking.proofs.LinkWriteLemmas.{FitsLinks-linked, arena_with_pairs}
use Rattle.chain_linking.proofs.link_writes.link_pairs.Goals as goal

pub link_pair-requires-2-clause-prev : goal.link_pair-requires-2-clause-prev
link_pair-requires-2-clause-prev g c =
    let number = g.P.Inx.InxKey.number in
    let a = links_view g.P.Inx.InxKey.packed_number c.args.arena.now in
    let prev = option_map number c.args.first.0 in
    let next = option_map number c.args.first.1 in
    still_named a (links_view g.P.Inx.InxKey.packed_number c.link_pair.new.arena) (with_neighbors (link_map a) prev next) (option_map number c.args.second.0) (FitsLinks-linked a prev next) c.link_pair.ensures.links c.requires.second_prev

pub link_pair-requires-2-clause-next : goal.link_pair-requires-2-clause-next
link_pair-requires-2-clause-next g c =
    let number = g.P.Inx.InxKey.number in
    let a = links_view g.P.Inx.InxKey.packed_number c.args.arena.now in
    let prev = option_map number c.args.first.0 in
    let next = option_map number c.args.first.1 in
    still_named a (links_view g.P.Inx.InxKey.packed_number c.link_pair.new.arena) (with_neighbors (link_map a) prev next) (option_map number c.args.second.1) (FitsLinks-linked a prev next) c.link_pair.ensures.links c.requires.second_next

pub returns : goal.returns
returns g c =
    let number = g.P.Inx.InxKey.number in
    let packed_number = g.P.Inx.InxKey.packed_number in
    record {
      links = arena_with_pairs (links_view packed_number c.args.arena.now) (links_view packed_number c.link_pair.new.arena) (links_view packed_number c.link_pair-2.new.arena)
          (option_map number c.args.first.0) (option_map number c.args.first.1) (option_map number c.args.second.0) (option_map number c.args.second.1) c.link_pair.ensures.links c.link_pair-2.ensures.links;
      at_rest = λ rest. c.link_pair-2.ensures.at_rest (c.link_pair.ensures.at_rest rest);
    }
