use Rattle.documents.proofs.HistoryLemmas.{done_anyway}
use Rattle.documents.proofs.laws.calls_make_changes.Goals as goal

pub returns : goal.returns
returns g c = record {
  new_list = λ greatest old new d is. is.outcome.0.head;
  push_front = λ greatest old new d p t is. (t, is.outcome.1.0.item);
  push_back = λ greatest old new d p t is. (t, is.outcome.1.0.item);
  insert_after = λ greatest old new q p t is. (t, is.outcome.1.0.item);
  insert_before = λ greatest old new q p t is. (t, is.outcome.1.0.item);
  replace = λ old new p t former is. (t, is.1);
  move_to_front = λ old new p d is. is.2.entries;
  move_to_back = λ old new p d is. is.2.entries;
  move_after = λ old new p q is. is.3.entries;
  move_range_to_front = λ old new first last d is. is.1.entries;
  move_range_to_back = λ old new first last d is. is.1.entries;
  move_range_after = λ old new first last q is. is.1.entries;
  join = λ old new d e is. is.3.entries;
  split_at = λ greatest old new p d is. is.1.head;
  remove = λ old new p result some is. done_anyway _ _ _ _ result some is;
  remove_list = λ old new d result some is. (is.0, (done_anyway _ _ _ _ result some is.1).1.0);
  reserve = λ greatest additional old new done is. is.kept;
}
