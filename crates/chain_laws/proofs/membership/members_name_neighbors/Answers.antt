use Rattle.chain_laws.proofs.ChainLemmas.MemberLaws.{members_name_neighbors, places_in_a_line, places_in_a_ring, lines_end, rings_are_cyclic}
use Rattle.chain_laws.proofs.membership.members_name_neighbors.Goals as goal

pub returns : goal.returns
returns c = record {
  neighbors = members_name_neighbors;
  in_line = places_in_a_line;
  in_ring = places_in_a_ring;
  line_ends = lines_end;
  ring_is_cyclic = rings_are_cyclic;
}
