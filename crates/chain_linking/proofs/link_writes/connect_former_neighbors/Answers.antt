use Rattle.std.proofs.Common.{Some, sym, ap, ◌∙◌}
use Rattle.std.specs.Option.{option_map}
use Rattle.chain_links.specs.Links.{links_view}
use Rattle.chain_linking.proofs.UnlinkLemmas.{ring_gone}
use Rattle.chain_linking.proofs.link_writes.connect_former_neighbors.Goals as goal

pub returns-then-not-is_same : goal.returns-then-not-is_same
returns-then-not-is_same g c = record { links = rw c.in-Some.is c.link_pair.ensures.links; at_rest = c.link_pair.ensures.at_rest }

pub returns-else-not-is_same : goal.returns-else-not-is_same
returns-else-not-is_same g c =
    let number = g.P.Inx.InxKey.number in
    record {
      links = ring_gone (links_view g.P.Inx.InxKey.packed_number c.args.arena.now) (number c.args.i) (option_map number c.args.prev) (option_map number c.args.next) c.requires.gone c.requires.ring
          (rw c.in-Some.is (ap (λ i. Some (number i)) ((g.met.P.Inx.InxKey.same_is_equal c.in-Some.before c.args.i).0 (sym c.is_same.ensures ∙ c.if-not-is_same.false))));
      at_rest = λ rest. rest;
    }
