use Rattle.std.specs.Option.{option_map}
use Rattle.chain_laws.specs.Joins.{with_next_at}
use Rattle.chain_links.specs.Links.{links_view}
use Rattle.chain_links.specs.ChainArena.{link_map}
use Rattle.chain_linking.proofs.NeighborLemmas.{still_named}
use Rattle.chain_linking.proofs.LinkWriteLemmas.{FitsLinks-with_next_at, FitsLinks-link_map, next_and_prev_written}
use Rattle.chain_linking.proofs.link_writes.write_beside.Goals as goal

pub set_prev-requires : goal.set_prev-requires
set_prev-requires g c =
    let number = g.P.Inx.InxKey.number in
    let a = links_view g.P.Inx.InxKey.packed_number c.args.arena.now in
    let before = option_map number c.args.before in
    let next = option_map number c.args.next in
    still_named a (links_view g.P.Inx.InxKey.packed_number c.set_next.new.arena) (with_next_at (link_map a) before next) (option_map number c.args.after) (FitsLinks-with_next_at a (link_map a) before next (FitsLinks-link_map a)) c.set_next.ensures.links c.requires.after

pub returns : goal.returns
returns g c =
    let number = g.P.Inx.InxKey.number in
    let packed = g.P.Inx.InxKey.packed_number in
    record {
      links = next_and_prev_written (links_view packed c.args.arena.now) (links_view packed c.set_next.new.arena) (links_view packed c.set_prev.new.arena)
          (option_map number c.args.before) (option_map number c.args.next) (option_map number c.args.after) (option_map number c.args.prev) c.set_next.ensures.links c.set_prev.ensures.links;
      at_rest = λ rest. c.set_prev.ensures.at_rest (c.set_next.ensures.at_rest rest);
    }
