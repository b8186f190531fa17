use Rattle.chain_laws.proofs.ListLemmas.Members.{written_once}
use Rattle.chain_laws.proofs.WalkLemmas.WalkBack.{length_among}
use Rattle.chain_laws.proofs.ListLemmas.MemberLaws.{once_in_join, once_in_turn, once_in_middle}
use Rattle.chain_laws.proofs.membership.lists_have_once.Goals as goal

pub returns : goal.returns
returns c = record {
  in_join = once_in_join;
  in_turn = once_in_turn;
  in_middle = once_in_middle;
  one_place = written_once;
  no_longer = length_among;
}
