use Rattle.chain_laws.proofs.ChainLemmas.MemberLaws.{neighbors_share_a_chain, chains_share_each, rotations_have_the_same, rotations_are_as_long, member_in_all}
use Rattle.chain_laws.proofs.membership.neighbors_share_a_chain.Goals as goal

pub returns : goal.returns
returns c = record {
  together = neighbors_share_a_chain;
  each = chains_share_each;
  rotated = rotations_have_the_same;
  as_long = rotations_are_as_long;
  in_all = member_in_all;
}
