-- Lines that are read in pieces.
use Rattle.std.proofs.Common.{◌≡◌, ℕ, zero, suc, ◌+◌, ◌<◌, ◌≤◌, ◌==◌, Bool, true, false, nat_lt, cond, not, List, [], ◌∷◌, ◌++◌, length, take, drop, take_while, refl, sym, ap, ◌∙◌, subst, append_assoc, append-nil, one-add, arith, rules}
use Rattle.std.specs.Prelude.{◌-◌, leb, min, All, slice_index, if◌then◌else◌, Option, None, Some}
use Rattle.std.specs.Option.{MatchOption, unwrap_or}
use Rattle.std.proofs.Common.{Bor}
use Rattle.std.proofs.Math.Bool.{and-true}
use Rattle.std.proofs.Math.Dec.{eqb}
use lib.Pointwise.{pointwise}
use Rattle.std.proofs.lemmas.Bool.{lt-ltb, le-ltb, leb-true, leb-false}
use Rattle.std.proofs.lemmas.List.{take_all, take-append-le, length-take}
use Rattle.std.proofs.lemmas.List.Elements.{All-nil, All-cons, All-head, All-tail}
use Rattle.std.proofs.lemmas.List.Folds.{length-prefix_len}
use Rattle.std.proofs.Math.Seq.{take-append-add}
use Rattle.std.specs.List.{onto_first, position_or_len}
use Rattle.chain_commands.specs.Words.{lines_of, whole_lines, all_but_last, words_of, without_return, IsNot, EndsFirst}
use Rattle.chain_commands.specs.Commands.{line_of, line_of_words}
use Rattle.chain_commands.specs.declared.command.Line.TheVariants as lines

pub kept_more : (n m : ℕ) (kept rest more : List ℕ) → kept ≡ take n rest → m ≡ min (length more) (n - length kept) → kept ++ take m more ≡ take n (rest ++ more)
kept_more n m kept rest more is suffices = by_length (leb n (length rest)) refl
  where
    len : length kept ≡ min n (length rest)
    len = ap length is ∙ length-take n rest

    by_length : (b : Bool) → leb n (length rest) ≡ b → kept ++ take m more ≡ take n (rest ++ more)
    by_length true e =
        let long = leb-true n (length rest) e in
        let none : m ≡ 0 = omega (arith, len, suffices, long) in
        ap (λ k. kept ++ take k more) none ∙ append-nil kept ∙ is ∙ sym (take-append-le n rest more long)
    by_length false e =
        let short = leb-false n (length rest) e in
        let all : kept ≡ rest = is ∙ take_all n rest (omega (arith, short)) in
        let counted : n ≡ length rest + (n - length rest) = omega (arith, short) in
        let same : take m more ≡ take (n - length rest) more = by_capacity (leb (length more) (n - length rest)) refl (suffices ∙ ap (λ l. min (length more) (n - length l)) all) in
        ap (λ l. l ++ take m more) all ∙ ap (λ l. rest ++ l) same ∙ sym (ap (λ k. take k (rest ++ more)) counted ∙ take-append-add rest more (n - length rest))
      where
        by_capacity : (b : Bool) → leb (length more) (n - length rest) ≡ b → m ≡ min (length more) (n - length rest) → take m more ≡ take (n - length rest) more
        by_capacity true fits is_min =
            let within = leb-true (length more) (n - length rest) fits in
            take_all m more (omega (arith, within, is_min)) ∙ sym (take_all (n - length rest) more within)
        by_capacity false beyond is_min = ap (λ k. take k more) (omega (arith, leb-false (length more) (n - length rest) beyond, is_min))

pub line_of-take : (rest : List ℕ) → line_of (take 201 rest) ≡ line_of rest
line_of-take rest = by_length (nat_lt 201 (length rest)) refl
  where
    bad : (line : List ℕ) → 200 < length line → line_of line ≡ lines.Bad
    bad line long = ap (λ b. cond b lines.Bad (line_of_words (words_of (without_return line)))) (lt-ltb 200 (length line) long)

    shorter : nat_lt 201 (length rest) ≡ false → length rest ≤ 201
    shorter e = search rules

    longer : nat_lt 201 (length rest) ≡ true → 201 < length rest
    longer e = search rules

    by_length : (b : Bool) → nat_lt 201 (length rest) ≡ b → line_of (take 201 rest) ≡ line_of rest
    by_length true e = let long = longer e in bad (take 201 rest) (rw length-take (omega arith)) ∙ sym (bad rest (omega arith))
    by_length false e = ap line_of (take_all 201 rest (shorter e))

abbrev some_line : List (List ℕ) → Type 0
some_line [] = ⊥
some_line (line ∷ others) = Unit {0}

lines_of-some : (text : List ℕ) → some_line (lines_of text)
lines_of-some [] = tt
lines_of-some (c ∷ text) = by_test (c == 10) (lines_of text) (lines_of-some text)
  where
    by_test : (b : Bool) (pieces : List (List ℕ)) → some_line pieces → some_line (cond b ([] ∷ pieces) (onto_first c pieces))
    by_test true pieces some = tt
    by_test false [] some = tt
    by_test false (piece ∷ pieces) some = tt

onto_first-append : (c : ℕ) (pieces others : List (List ℕ)) → some_line pieces → onto_first c (pieces ++ others) ≡ onto_first c pieces ++ others
onto_first-append c [] others some = absurd some
onto_first-append c (piece ∷ pieces) others some = refl

pub lines_of-end : (text more : List ℕ) → lines_of (text ++ 10 ∷ more) ≡ lines_of text ++ lines_of more
lines_of-end [] more = refl
lines_of-end (c ∷ text) more = by_test (c == 10) (lines_of-end text more)
  where
    by_test : (b : Bool) → lines_of (text ++ 10 ∷ more) ≡ lines_of text ++ lines_of more
        → cond b ([] ∷ lines_of (text ++ 10 ∷ more)) (onto_first c (lines_of (text ++ 10 ∷ more))) ≡ cond b ([] ∷ lines_of text) (onto_first c (lines_of text)) ++ lines_of more
    by_test true rest = ap (λ l. [] ∷ l) rest
    by_test false rest = ap (onto_first c) rest ∙ onto_first-append c (lines_of text) (lines_of more) (lines_of-some text)

abbrev onto_last : ℕ → List (List ℕ) → List (List ℕ)
onto_last c [] = []
onto_last c (piece ∷ []) = (piece ++ c ∷ []) ∷ []
onto_last c (piece ∷ next ∷ pieces) = piece ∷ onto_last c (next ∷ pieces)

onto_last-cons : (c : ℕ) (piece : List ℕ) (pieces : List (List ℕ)) → some_line pieces → onto_last c (piece ∷ pieces) ≡ piece ∷ onto_last c pieces
onto_last-cons c piece [] some = absurd some
onto_last-cons c piece (next ∷ pieces) some = refl

onto_first-last : (c d : ℕ) (pieces : List (List ℕ)) → some_line pieces → onto_first d (onto_last c pieces) ≡ onto_last c (onto_first d pieces)
onto_first-last c d [] some = absurd some
onto_first-last c d (piece ∷ []) some = refl
onto_first-last c d (piece ∷ next ∷ pieces) some = refl

lines_of-on : (text : List ℕ) (c : ℕ) → (c == 10) ≡ false → lines_of (text ++ c ∷ []) ≡ onto_last c (lines_of text)
lines_of-on [] c other = ap (λ b. cond b ([] ∷ [] ∷ []) ((c ∷ []) ∷ [])) other
lines_of-on (d ∷ text) c other = by_test (d == 10) (lines_of-on text c other)
  where
    by_test : (b : Bool) → lines_of (text ++ c ∷ []) ≡ onto_last c (lines_of text)
        → cond b ([] ∷ lines_of (text ++ c ∷ [])) (onto_first d (lines_of (text ++ c ∷ []))) ≡ onto_last c (cond b ([] ∷ lines_of text) (onto_first d (lines_of text)))
    by_test true rest = ap (λ l. [] ∷ l) rest ∙ sym (onto_last-cons c [] (lines_of text) (lines_of-some text))
    by_test false rest = ap (onto_first d) rest ∙ onto_first-last c d (lines_of text) (lines_of-some text)

onto_last-append : (c : ℕ) (lines : List (List ℕ)) (rest : List ℕ) → onto_last c (lines ++ rest ∷ []) ≡ lines ++ (rest ++ c ∷ []) ∷ []
onto_last-append c [] rest = refl
onto_last-append c (line ∷ []) rest = refl
onto_last-append c (line ∷ next ∷ lines) rest = ap (λ l. line ∷ l) (onto_last-append c (next ∷ lines) rest)

pub cut-on : (text : List ℕ) (c : ℕ) (lines : List (List ℕ)) (rest : List ℕ) → (c == 10) ≡ false → lines_of text ≡ lines ++ rest ∷ [] → lines_of (text ++ c ∷ []) ≡ lines ++ (rest ++ c ∷ []) ∷ []
cut-on text c lines rest other cut = lines_of-on text c other ∙ ap (onto_last c) cut ∙ onto_last-append c lines rest

pub cut-more : (more text : List ℕ) (lines : List (List ℕ)) (rest : List ℕ) → All (IsNot 10) more → lines_of text ≡ lines ++ rest ∷ [] → lines_of (text ++ more) ≡ lines ++ (rest ++ more) ∷ []
cut-more [] text lines rest all cut = ap lines_of (append-nil text) ∙ cut ∙ ap (λ r. lines ++ r ∷ []) (sym (append-nil rest))
cut-more (c ∷ more) text lines rest all cut =
    ap lines_of (sym (append_assoc text (c ∷ []) more))
    ∙ cut-more more (text ++ c ∷ []) lines (rest ++ c ∷ []) (All-tail (IsNot 10) c more all) (cut-on text c lines rest (All-head (IsNot 10) c more all) cut)
    ∙ ap (λ r. lines ++ r ∷ []) (append_assoc rest (c ∷ []) more)

module _ (b : ℕ) where
  abbrev end_of : List ℕ → ℕ
  end_of text = position_or_len (λ c. c == b) text

  abbrev AreParts : List ℕ → List ℕ → List ℕ → Type 0
  AreParts front [] text = All (IsNot b) text
  AreParts front (c ∷ back) text = EndsFirst b front text back

  parts_at_end : (text : List ℕ) → AreParts (take (end_of text) text) (drop (end_of text) text) text
  parts_at_end [] = All-nil (IsNot b)
  parts_at_end (c ∷ text) = by_test (c == b) refl (parts_at_end text)
    where
      is_end : (c == b) ≡ true → c ≡ b
      is_end e = search rules

      on : (c == b) ≡ false → (front back : List ℕ) → AreParts front back text → AreParts (c ∷ front) back (c ∷ text)
      on e front [] all = All-cons (IsNot b) c text e all
      on e front (d ∷ back) found = record { parts = ap (λ l. c ∷ l) found.parts; first = All-cons (IsNot b) c front e found.first }

      by_test : (t : Bool) → (c == b) ≡ t → AreParts (take (end_of text) text) (drop (end_of text) text) text
          → AreParts (take (cond (not t) (1 + end_of text) 0) (c ∷ text)) (drop (cond (not t) (1 + end_of text) 0) (c ∷ text)) (c ∷ text)
      by_test true e rest = record { parts = ap (λ d. d ∷ text) (is_end e); first = All-nil (IsNot b) }
      by_test false e rest = subst (λ n. AreParts (take n (c ∷ text)) (drop n (c ∷ text)) (c ∷ text)) (sym (one-add (end_of text))) (on e _ _ rest)

  module _ (text front rest : List ℕ) (n : ℕ) (at : n ≡ length (take_while (λ c. not (c == b)) text)) (front_is : front ≡ take n text) (rest_is : rest ≡ drop n text) where
    at_end : n ≡ end_of text
    at_end = at ∙ length-prefix_len (λ c. not (c == b)) text

    parts_are : AreParts front rest text
    parts_are =
        subst (λ f. AreParts f rest text) (sym (front_is ∙ ap (λ k. take k text) at_end))
        (subst (λ r. AreParts (take (end_of text) text) r text) (sym (rest_is ∙ ap (λ k. drop k text) at_end)) (parts_at_end text))

    pub parts-some : (c : ℕ) (back : List ℕ) → rest ≡ c ∷ back → EndsFirst b front text back
    parts-some c back is = subst (λ r. AreParts front r text) is parts_are

    pub parts-none : rest ≡ [] → All (IsNot b) text
    parts-none is = subst (λ r. AreParts front r text) is parts_are

pub all_but_last-append : (lines : List (List ℕ)) (rest : List ℕ) → all_but_last (lines ++ rest ∷ []) ≡ lines
all_but_last-append [] rest = refl
all_but_last-append (line ∷ []) rest = refl
all_but_last-append (line ∷ next ∷ lines) rest = ap (λ l. line ∷ l) (all_but_last-append (next ∷ lines) rest)

all_but_last-before : (lines others : List (List ℕ)) → some_line others → all_but_last (lines ++ others) ≡ lines ++ all_but_last others
all_but_last-before [] others some = refl
all_but_last-before (line ∷ []) [] some = absurd some
all_but_last-before (line ∷ []) (other ∷ others) some = refl
all_but_last-before (line ∷ next ∷ lines) others some = ap (λ l. line ∷ l) (all_but_last-before (next ∷ lines) others some)

pub whole_lines-end : (text more : List ℕ) (lines : List (List ℕ)) (rest : List ℕ) → lines_of text ≡ lines ++ rest ∷ []
    → whole_lines (text ++ 10 ∷ more) ≡ lines ++ rest ∷ whole_lines more
whole_lines-end text more lines rest cut =
    ap all_but_last (lines_of-end text more ∙ ap (λ l. l ++ lines_of more) cut)
    ∙ all_but_last-before (lines ++ rest ∷ []) (lines_of more) (lines_of-some more) ∙ append_assoc lines (rest ∷ []) (whole_lines more)

lines_of-more : (more text : List ℕ) (lines : List (List ℕ)) (rest : List ℕ) → lines_of text ≡ lines ++ rest ∷ []
    → (next : List ℕ) × (others : List (List ℕ)) × (lines_of (text ++ more) ≡ lines ++ next ∷ others)
lines_of-more [] text lines rest cut = (rest, [], ap lines_of (append-nil text) ∙ cut)
lines_of-more (c ∷ more) text lines rest cut = by_test (c == 10) refl (λ lines rest. lines_of-more more (text ++ c ∷ []) lines rest)
  where
    end_is : (c == 10) ≡ true → c ≡ 10
    end_is e = search rules

    by_test : (b : Bool) → (c == 10) ≡ b
        → ((lines : List (List ℕ)) (rest : List ℕ) → lines_of (text ++ c ∷ []) ≡ lines ++ rest ∷ [] → (next : List ℕ) × (others : List (List ℕ)) × (lines_of ((text ++ c ∷ []) ++ more) ≡ lines ++ next ∷ others))
        → (next : List ℕ) × (others : List (List ℕ)) × (lines_of (text ++ c ∷ more) ≡ lines ++ next ∷ others)
    by_test true e on = (
      rest,
      lines_of more,
      ap (λ d. lines_of (text ++ d ∷ more)) (end_is e) ∙ lines_of-end text more ∙ ap (λ l. l ++ lines_of more) cut ∙ append_assoc lines (rest ∷ []) (lines_of more),
    )
    by_test false e on =
        let found = on lines (rest ++ c ∷ []) (cut-on text c lines rest e cut) in
        (found.0, found.1, ap lines_of (sym (append_assoc text (c ∷ []) more)) ∙ found.2)

pub whole_lines-more : (more text : List ℕ) (lines : List (List ℕ)) (rest : List ℕ) → lines_of text ≡ lines ++ rest ∷ [] → (others : List (List ℕ)) × (whole_lines (text ++ more) ≡ lines ++ others)
whole_lines-more more text lines rest cut =
    let found = lines_of-more more text lines rest cut in
    (all_but_last (found.0 ∷ found.1), ap all_but_last found.2 ∙ all_but_last-before lines (found.0 ∷ found.1) tt)

return_at : (n : ℕ) (line : List ℕ) → length line ≡ suc n → pointwise eqb (drop n line) (13 ∷ []) ≡ (slice_index line n == 13)
return_at zero (c ∷ []) long = and-true (c == 13)
return_at zero (c ∷ d ∷ line) long = absurd (omega (arith, long))
return_at (suc n) (c ∷ line) long = return_at n line (omega (arith, long))
return_at zero [] long = absurd (omega (arith, long))
return_at (suc n) [] long = absurd (omega (arith, long))

ends_with_return : (line : List ℕ) → pointwise eqb (drop (length line - 1) line) (13 ∷ []) ≡ (slice_index line (length line - 1) == 13)
ends_with_return [] = refl
ends_with_return (c ∷ line) =
    let last : length (c ∷ line) - 1 ≡ length line = omega arith in
    subst (λ n. pointwise eqb (drop n (c ∷ line)) (13 ∷ []) ≡ (slice_index (c ∷ line) n == 13)) (sym last) (return_at (length line) (c ∷ line) refl)

pub line_of-words : (line text : List ℕ) (words : List (List ℕ)) → length line ≤ 200 → text ≡ without_return line → words_of text ≡ words → line_of line ≡ line_of_words words
line_of-words line text words short is same =
    ap (λ b. cond b lines.Bad (line_of_words (words_of (without_return line)))) (le-ltb 200 (length line) short) ∙ ap (λ t. line_of_words (words_of t)) (sym is) ∙ ap line_of_words same

pub return_stripped : (line : Bor (List ℕ)) (r : Option (Bor (List ℕ))) (text : Bor (List ℕ))
    → MatchOption r (pointwise eqb (drop (length line.now - 1) line.now) (13 ∷ []) ≡ false) (λ x. (pointwise eqb (drop (length line.now - 1) line.now) (13 ∷ []) ≡ true) × (x.now ≡ take (length line.now - 1) line.now) × (length x.now + 1 ≡ length line.now))
    → text ≡ unwrap_or r line → text.now ≡ without_return line.now
return_stripped line None text unstripped is =
    ap (λ t. t.now) is ∙ ap (λ b. if b then take (length line.now - 1) line.now else line.now) (sym unstripped ∙ ends_with_return line.now)
return_stripped line (Some x) text stripped is =
    ap (λ t. t.now) is ∙ stripped.1 ∙ ap (λ b. if b then take (length line.now - 1) line.now else line.now) (sym stripped.0 ∙ ends_with_return line.now)
