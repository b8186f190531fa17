use Rattle.std.proofs.Common.{◌≡◌, ◌-◌, inr, take, drop, refl, subst, sym, arith}
use Rattle.triangulate.proofs.numbers.number_at.Goals as goal

pub returns-in-Err : goal.returns-in-Err
returns-in-Err c = inr (
  c.end_of_word-end.result,
  _,
  record {
    start = c.end_of_spaces-start.result;
    order = c.end_of_spaces-start.ensures.order;
    spaces = c.end_of_spaces-start.ensures.spaces;
    some = omega (arith, c.if-start-end.false, c.end_of_word-end.ensures.order);
    within = c.end_of_word-end.ensures.end;
    whole = c.end_of_word-end.ensures.word;
    after = c.end_of_word-end.ensures.after;
    text = refl;
  },
  c.in-Err.ensures,
)
