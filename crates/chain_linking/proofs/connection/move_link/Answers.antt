use Rattle.std.proofs.Common.{ap, ◌∙◌}
use Rattle.chain_laws.proofs.MoveAfterWriteLemmas.{moved_by_writes}
use Rattle.chain_links.specs.ChainArena.{link_map, with_link_map}
use Rattle.chain_links.specs.Links.{links_view}
use Rattle.chain_linking.proofs.connection.move_link.Goals as goal

pub returns : goal.returns
returns g c =
    let a = links_view g.P.Inx.InxKey.packed_number c.args.arena.now in
    let number = g.P.Inx.InxKey.number in
    record {
      links = c.splice.ensures.links ∙ ap (with_link_map a) (moved_by_writes (number c.args.i) (number c.args.j) c.requires.apart (link_map a) c.requires.moved);
      at_rest = c.splice.ensures.at_rest;
    }
