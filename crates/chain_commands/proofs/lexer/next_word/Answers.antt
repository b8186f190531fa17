use Rattle.std.proofs.Common.{◌≡◌, ◌∙◌, ◌==◌, ℕ, ◌<◌, Bool, true, false, not, length, take, drop, ap, arith, rules, tests}
use Rattle.std.specs.List.{take_while}
use Rattle.std.specs.Slice.Iter.{iter_rest}
use Rattle.std.proofs.lemmas.Grind.{common_steps}
use Rattle.std.proofs.lemmas.Iterator.{YieldsList-from_slice}
use Rattle.std.proofs.lemmas.Iterator.Consumers.{count_from_yields_List}
use Rattle.std.proofs.lemmas.Iterator.Search.{YieldsList-from_take_while}
use Rattle.chain_commands.proofs.WordLemmas.{is_space, words_of-none, words_of-some}
use Rattle.chain_commands.proofs.lexer.next_word.Goals as goal

none_if : (n : ℕ) (b : Bool) → b ≡ (n == 0) → b ≡ true → n ≡ 0
none_if n b e t = grind (arith, common_steps)

some_if : (n : ℕ) (b : Bool) → b ≡ (n == 0) → b ≡ false → 0 < n
some_if n b e t = grind (arith, common_steps)

pub returns-then-is_empty : goal.returns-then-is_empty
returns-then-is_empty c =
    let text = c.args.text.now in
    let spaces : c.count.result ≡ length (take_while is_space text) = count_from_yields_List c.take_while.result c.count.result c.count.ensures.ran
    (YieldsList-from_take_while _ is_space (YieldsList-from_slice text (ap iter_rest c.take_while.ensures.source ∙ c.iter.ensures.rest)) c.take_while.ensures.closure c.take_while.ensures.done (λ x b q k. search (rules, tests))) in
    record {
      word = tt;
      end = words_of-none text _ (c.split_at.ensures.back ∙ ap (λ n. drop n text) spaces) (none_if _ _ c.is_empty.ensures c.if-is_empty.true);
    }

pub returns : goal.returns
returns c =
    let text = c.args.text.now in
    let spaces : c.count.result ≡ length (take_while is_space text) = count_from_yields_List c.take_while.result c.count.result c.count.ensures.ran
    (YieldsList-from_take_while _ is_space (YieldsList-from_slice text (ap iter_rest c.take_while.ensures.source ∙ c.iter.ensures.rest)) c.take_while.ensures.closure c.take_while.ensures.done (λ x b q k. search (rules, tests))) in
    let rest = c.split_at.result.1.now in
    let ended : c.count-2.result ≡ length (take_while (λ x. not (is_space x)) rest) = count_from_yields_List c.take_while-2.result c.count-2.result c.count-2.ensures.ran
    (YieldsList-from_take_while _ (λ x. not (is_space x)) (YieldsList-from_slice rest (ap iter_rest c.take_while-2.ensures.source ∙ c.iter-2.ensures.rest)) c.take_while-2.ensures.closure c.take_while-2.ensures.done (λ x b q k. search (rules, tests))) in
    record {
      word = words_of-some text rest _ _ (c.split_at.ensures.back ∙ ap (λ n. drop n text) spaces) (some_if _ _ c.is_empty.ensures c.if-is_empty.false)
          (c.split_at-2.ensures.front ∙ ap (λ n. take n rest) ended) (c.split_at-2.ensures.back ∙ ap (λ n. drop n rest) ended);
      end = tt;
    }
