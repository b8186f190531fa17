use Rattle.chain_laws.proofs.ListLemmas.Members.{IsMember-or_not}
use Rattle.chain_laws.proofs.ListLemmas.MemberLaws.{member_in_join, member_in_rotation, member_in_middle, member_after_item, has_is_written, member_is_filled}
use Rattle.chain_laws.proofs.membership.lists_have.Goals as goal

pub returns : goal.returns
returns c = record {
  in_join = member_in_join;
  in_turn = member_in_rotation;
  in_middle = member_in_middle;
  after_item = member_after_item;
  written = has_is_written;
  decided = IsMember-or_not;
  filled = member_is_filled;
}
