-- Numbers, words and pointers in a text.
use Rattle.std.proofs.Common.{◌≡◌, ℕ, ◌+◌, ◌<◌, ◌≤◌, ◌&&◌, ◌==◌, Bool, true, false, nat_lt, nat_le, List, [], ◌∷◌, length, take, Some, None, refl, sym, ap, ◌∙◌, subst, arith, rules, cond, not, filter, take_while, drop, one-add}
use Rattle.std.proofs.lemmas.Bool.{and_from, lt-ltb}
use Rattle.std.specs.Str.{all_ascii_digits}
use Rattle.std.specs.Str.Parse.{digits_value, AllDigits}
use Rattle.std.proofs.lemmas.Str.Parse.{IsNumeralModel, numerals_by_value, tells_all_ascii_digits}
use Rattle.std.specs.List.{slice_split, onto_first, prefix_len, position_or_len}
use Rattle.std.proofs.lemmas.List.Splits.{slice_split-cons_yes}
use Rattle.std.proofs.lemmas.List.{nil_from_length}
use Rattle.std.proofs.lemmas.List.Folds.{length-prefix_len}
use Rattle.chain_commands.specs.Words.{is_number, number_of, words_of, is_filled}

pub digit_words : IsNumeralModel (λ ds. all_ascii_digits ds ≡ true) (digits_value 10)
digit_words = numerals_by_value _ tells_all_ascii_digits

both_true : (a b : Bool) → (a && b) ≡ true → (a ≡ true) × (b ≡ true)
both_true a b h = search rules

pub record IsNumber (word : List ℕ) : Type 0 where
  pub some : 0 < length word
  pub short : length word ≤ 10
  pub digits : AllDigits 10 word
  pub small : digits_value 10 word ≤ 4294967295

nat_lt_is : (a b : ℕ) → nat_lt a b ≡ true → a < b
nat_lt_is a b h = search rules

nat_le_is : (a b : ℕ) → nat_le a b ≡ true → a ≤ b
nat_le_is a b h = search rules

is_nat_le : (a b : ℕ) → a ≤ b → nat_le a b ≡ true
is_nat_le a b h = search rules

pub IsNumber-tested : (word : List ℕ) → is_number word ≡ true → IsNumber word
IsNumber-tested word h =
    let all = both_true _ (nat_le (digits_value 10 word) 4294967295) h in
    let front = both_true (nat_lt 0 (length word) && nat_le (length word) 10) (all_ascii_digits word) all.0 in
    let lengths = both_true (nat_lt 0 (length word)) (nat_le (length word) 10) front.0 in
    record {
      some = nat_lt_is _ _ lengths.0;
      short = nat_le_is _ _ lengths.1;
      digits = digit_words.to word front.1;
      small = nat_le_is _ _ all.1;
    }

number_if : (word : List ℕ) (b : Bool) → is_number word ≡ b → number_of word ≡ cond b (Some (digits_value 10 word)) None
number_if word b e = ap (λ t. cond t (Some (digits_value 10 word)) None) e

not_true : (b : Bool) → (b ≡ true → ⊥) → b ≡ false
not_true true absent = absurd (absent refl)
not_true false absent = refl

pub number_of-none : (word : List ℕ) → (IsNumber word → ⊥) → None ≡ number_of word
number_of-none word absent = sym (number_if word false (not_true _ (λ t. absent (IsNumber-tested word t))))

pub number_of-some : (word : List ℕ) → IsNumber word → Some (digits_value 10 word) ≡ number_of word
number_of-some word is =
    let lengths = and_from _ _ (lt-ltb _ _ is.some) (is_nat_le _ _ is.short) in
    let front = and_from _ _ lengths (digit_words.from word is.digits) in
    sym (number_if word true (and_from _ _ front (is_nat_le _ _ is.small)))

abbrev pub is_space : ℕ → Bool
is_space c = c == 32

abbrev pub spaces : List ℕ → ℕ
spaces text = prefix_len is_space text

abbrev filled : List (List ℕ) → List (List ℕ)
filled parts = filter is_filled parts

words_of-space : (c : ℕ) (text : List ℕ) → (c == 32) ≡ true → words_of (c ∷ text) ≡ words_of text
words_of-space c text e = ap filled (slice_split-cons_yes is_space c text e)

words_of-after_spaces : (text : List ℕ) → words_of (drop (spaces text) text) ≡ words_of text
words_of-after_spaces [] = refl
words_of-after_spaces (c ∷ text) = by_test (c == 32) refl (words_of-after_spaces text)
  where
    by_test : (b : Bool) → (c == 32) ≡ b → words_of (drop (spaces text) text) ≡ words_of text
        → words_of (drop (cond b (1 + spaces text) 0) (c ∷ text)) ≡ words_of (c ∷ text)
    by_test true e rest = ap (λ n. words_of (drop n (c ∷ text))) (one-add (spaces text)) ∙ rest ∙ sym (words_of-space c text e)
    by_test false e rest = refl

abbrev BeginsNoSpace : List ℕ → Type 0
BeginsNoSpace [] = Unit {0}
BeginsNoSpace (c ∷ text) = (c == 32) ≡ false

after_spaces_begins : (text : List ℕ) → BeginsNoSpace (drop (spaces text) text)
after_spaces_begins [] = tt
after_spaces_begins (c ∷ text) = by_test (c == 32) refl (after_spaces_begins text)
  where
    by_test : (b : Bool) → (c == 32) ≡ b → BeginsNoSpace (drop (spaces text) text) → BeginsNoSpace (drop (cond b (1 + spaces text) 0) (c ∷ text))
    by_test true e rest = subst (λ n. BeginsNoSpace (drop n (c ∷ text))) (sym (one-add (spaces text))) rest
    by_test false e rest = e

abbrev pub word_end : List ℕ → ℕ
word_end text = position_or_len is_space text

abbrev later_pieces : List ℕ → List (List ℕ)
later_pieces [] = []
later_pieces (c ∷ text) = slice_split is_space text

pieces-first : (text : List ℕ) → slice_split is_space text ≡ take (word_end text) text ∷ later_pieces (drop (word_end text) text)
pieces-first [] = refl
pieces-first (c ∷ text) = by_test (c == 32) refl (pieces-first text)
  where
    by_test : (b : Bool) → (c == 32) ≡ b → slice_split is_space text ≡ take (word_end text) text ∷ later_pieces (drop (word_end text) text)
        → cond b ([] ∷ slice_split is_space text) (onto_first c (slice_split is_space text))
        ≡ take (cond (not b) (1 + word_end text) 0) (c ∷ text) ∷ later_pieces (drop (cond (not b) (1 + word_end text) 0) (c ∷ text))
    by_test true e rest = refl
    by_test false e rest = ap (onto_first c) rest ∙ ap (λ n. take n (c ∷ text) ∷ later_pieces (drop n (c ∷ text))) (sym (one-add (word_end text)))

abbrev BeginsSpace : List ℕ → Type 0
BeginsSpace [] = Unit {0}
BeginsSpace (c ∷ text) = (c == 32) ≡ true

word_end_begins : (text : List ℕ) → BeginsSpace (drop (word_end text) text)
word_end_begins [] = tt
word_end_begins (c ∷ text) = by_test (c == 32) refl (word_end_begins text)
  where
    by_test : (b : Bool) → (c == 32) ≡ b → BeginsSpace (drop (word_end text) text) → BeginsSpace (drop (cond (not b) (1 + word_end text) 0) (c ∷ text))
    by_test true e rest = e
    by_test false e rest = subst (λ n. BeginsSpace (drop n (c ∷ text))) (sym (one-add (word_end text))) rest

later_words : (text : List ℕ) → BeginsSpace text → filled (later_pieces text) ≡ words_of text
later_words [] h = refl
later_words (c ∷ text) h = sym (words_of-space c text h)

filled_first : (text : List ℕ) → 0 < length text → BeginsNoSpace text → is_filled (take (word_end text) text) ≡ true
filled_first [] h e = absurd (omega arith)
filled_first (c ∷ text) h e = ap (λ b. is_filled (take (cond (not b) (1 + word_end text) 0) (c ∷ text))) e ∙ ap (λ n. is_filled (take n (c ∷ text))) (one-add (word_end text))

words_of-first : (text : List ℕ) → 0 < length text → BeginsNoSpace text → words_of text ≡ take (word_end text) text ∷ words_of (drop (word_end text) text)
words_of-first text h e =
    let n = word_end text in
    let rest = later_pieces (drop n text) in
    ap filled (pieces-first text)
    ∙ ap (λ b. cond b (take n text ∷ filled rest) (filled rest)) (filled_first text h e)
    ∙ ap (λ l. take n text ∷ l) (later_words (drop n text) (word_end_begins text))

pub words_of-none : (text rest : List ℕ) → rest ≡ drop (length (take_while is_space text)) text → length rest ≡ 0 → words_of text ≡ []
words_of-none text rest e none = sym (words_of-after_spaces text) ∙ ap words_of (ap (λ n. drop n text) (sym (length-prefix_len is_space text)) ∙ sym e ∙ nil_from_length rest none)

pub words_of-some : (text rest word after : List ℕ) → rest ≡ drop (length (take_while is_space text)) text → 0 < length rest
    → word ≡ take (length (take_while (λ c. not (is_space c)) rest)) rest → after ≡ drop (length (take_while (λ c. not (is_space c)) rest)) rest
    → words_of text ≡ word ∷ words_of after
words_of-some text rest word after e some first later =
    let skipped : rest ≡ drop (spaces text) text = e ∙ ap (λ n. drop n text) (length-prefix_len is_space text) in
    let begins : BeginsNoSpace rest = subst BeginsNoSpace (sym skipped) (after_spaces_begins text) in
    let end : length (take_while (λ c. not (is_space c)) rest) ≡ word_end rest = length-prefix_len (λ c. not (is_space c)) rest in
    sym (words_of-after_spaces text) ∙ ap words_of (sym skipped) ∙ words_of-first rest some begins
    ∙ (λ i. sym (first ∙ ap (λ n. take n rest) end) i ∷ words_of (sym (later ∙ ap (λ n. drop n rest) end) i))
