use Rattle.std.proofs.Common.{◌≡◌, ◌==◌, not, length, ap, ◌∙◌, rules, tests}
use Rattle.std.specs.List.{take_while}
use Rattle.std.specs.Slice.Iter.{iter_rest}
use Rattle.std.proofs.lemmas.List.{nil_from_length}
use Rattle.std.proofs.lemmas.Iterator.{YieldsList-from_slice}
use Rattle.std.proofs.lemmas.Iterator.Consumers.{count_from_yields_List}
use Rattle.std.proofs.lemmas.Iterator.Search.{YieldsList-from_take_while}
use Rattle.chain_commands.proofs.LineSplitLemmas.{parts-some, parts-none}
use Rattle.chain_commands.proofs.lexer.split_at_byte.Goals as goal

pub returns-in-Some : goal.returns-in-Some
returns-in-Some c =
    let text = c.args.text.now in
    let counted : c.count.result ≡ length (take_while (λ x. not (x == c.args.byte)) text) = count_from_yields_List c.take_while.result c.count.result c.count.ensures.ran
    (YieldsList-from_take_while _ (λ x. not (x == c.args.byte)) (YieldsList-from_slice text (ap iter_rest c.take_while.ensures.source ∙ c.iter.ensures.rest)) c.take_while.ensures.closure c.take_while.ensures.done (λ x b q k. search (rules, tests))) in
    record {
      some = parts-some c.args.byte text _ _ c.count.result counted c.split_at.ensures.front c.split_at.ensures.back c.in-Some.field-0-0.now c.in-Some.back.now c.in-Some.ensures.cases.0;
      none = tt;
    }

pub returns-in-None : goal.returns-in-None
returns-in-None c =
    let text = c.args.text.now in
    let counted : c.count.result ≡ length (take_while (λ x. not (x == c.args.byte)) text) = count_from_yields_List c.take_while.result c.count.result c.count.ensures.ran
    (YieldsList-from_take_while _ (λ x. not (x == c.args.byte)) (YieldsList-from_slice text (ap iter_rest c.take_while.ensures.source ∙ c.iter.ensures.rest)) c.take_while.ensures.closure c.take_while.ensures.done (λ x b q k. search (rules, tests))) in
    record {
      some = tt;
      none = parts-none c.args.byte text _ _ c.count.result counted c.split_at.ensures.front c.split_at.ensures.back (nil_from_length _ c.in-None.ensures.cases);
    }
