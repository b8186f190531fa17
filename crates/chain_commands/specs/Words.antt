-- Lines, words, numbers and pointers in bytes: 10 ends a line, 32 separates words.
use Rattle.std.specs.Prelude.{◌≡◌, refl, ℕ, leb, ◌-◌, ◌==◌, ◌&&◌, nat_lt, nat_le, Bool, true, false, All, ◌++◌}
use Rattle.std.specs.Prelude.{if◌then◌else◌, List, [], ◌∷◌, length, take, slice_index, filter, Option, Some, None, IfSome, IfNone, option_and_then}
use Rattle.std.specs.List.{slice_split, before_first, after_first}
use Rattle.std.specs.Str.{all_ascii_digits}
use Rattle.std.specs.Str.Parse.{digits_value}
use Rattle.std.proofs.lemmas.Bool.{leb-true}
use Rattle.arena_core.specs.Numbers.{IsWithin}
use Rattle.arena_ptr.specs.declared.index.inx32.Inx32.{Inx32}
use Rattle.arena_ptr.specs.declared.generation.gen32.Gen32.{Gen32}
use Rattle.arena_ptr.specs.declared.tool_ptr.ToolPtr.{ToolPtr}

-- The pieces between bytes `b`, at least one, possibly empty.
abbrev pub pieces : ℕ → List ℕ → List (List ℕ)
pieces b text = slice_split (λ c. c == b) text

abbrev pub all_but_last : List (List ℕ) → List (List ℕ)
all_but_last [] = []
all_but_last (piece ∷ []) = []
all_but_last (piece ∷ next ∷ others) = piece ∷ all_but_last (next ∷ others)

-- The lines, with the possibly empty one after the last line feed.
abbrev pub lines_of : List ℕ → List (List ℕ)
lines_of text = pieces 10 text

-- The lines that end with a line feed.
abbrev pub whole_lines : List ℕ → List (List ℕ)
whole_lines text = all_but_last (lines_of text)

abbrev pub without_return : List ℕ → List ℕ
without_return line = if slice_index line (length line - 1) == 13 then take (length line - 1) line else line

abbrev pub is_filled : List ℕ → Bool
is_filled [] = false
is_filled (c ∷ bytes) = true

-- The nonempty pieces between spaces.
abbrev pub words_of : List ℕ → List (List ℕ)
words_of text = filter is_filled (pieces 32 text)

-- The first word and the rest, or `None` without a word.
abbrev pub IsFirstWord : {A : Type 0} → (A → List ℕ) → Option (A × A) → List ℕ → Type 0
IsFirstWord bytes result text = record {
  word : IfSome result (λ found. words_of text ≡ bytes found.0 ∷ words_of (bytes found.1));
  end : IfNone result (words_of text ≡ []);
}

abbrev pub IsNot : ℕ → ℕ → Type 0
IsNot b c = (c == b) ≡ false

pub record EndsFirst (b : ℕ) (front text back : List ℕ) : Type 0 where
  pub parts : text ≡ front ++ b ∷ back
  pub first : All (IsNot b) front

-- The parts around the first byte `b`, or `None` without one.
abbrev pub IsSplitAtByte : {A : Type 0} → ℕ → (A → List ℕ) → Option (A × A) → List ℕ → Type 0
IsSplitAtByte b bytes found text = record {
  some : IfSome found (λ parts. EndsFirst b (bytes parts.0) text (bytes parts.1));
  none : IfNone found (All (IsNot b) text);
}

-- 1 to 10 decimal digits, up to 4294967295.
abbrev pub is_number : List ℕ → Bool
is_number word = nat_lt 0 (length word) && nat_le (length word) 10 && all_ascii_digits word && nat_le (digits_value 10 word) 4294967295

abbrev pub number_of : List ℕ → Option ℕ
number_of word = if is_number word then Some (digits_value 10 word) else None

-- Applies `make` to a number from 1 to 4294967295.
module _ {A : Type 0} (make : (n : ℕ) → IsWithin 0xffff_ffff n → A) where
  abbrev pub made_if : (n : ℕ) (low high : Bool) → leb 1 n ≡ low → leb n 0xffff_ffff ≡ high → Option A
  made_if n true true at_least at_most = Some (make n (leb-true 1 n at_least, leb-true n 0xffff_ffff at_most))
  made_if n true false at_least at_most = None
  made_if n false high at_least at_most = None

  abbrev pub made_of : ℕ → Option A
  made_of n = made_if n (leb 1 n) (leb n 0xffff_ffff) refl refl

abbrev pub index_at : (n : ℕ) → IsWithin 0xffff_ffff n → Inx32
index_at n within = record { number = n; in_range = within }

abbrev pub generation_at : (n : ℕ) → IsWithin 0xffff_ffff n → Gen32
generation_at n within = record { number = n; in_range = within }

unfoldable pub index_named : ℕ → Option Inx32
index_named n = made_of index_at n

unfoldable pub generation_of : ℕ → Option Gen32
generation_of n = made_of generation_at n

abbrev pub index_word : List ℕ → Option Inx32
index_word word = option_and_then index_named (number_of word)

abbrev pub generation_word : List ℕ → Option Gen32
generation_word word = option_and_then generation_of (number_of word)

abbrev pub pointer_with : Option Inx32 → Option Gen32 → Option ToolPtr
pointer_with None generation = None
pointer_with (Some index) None = None
pointer_with (Some index) (Some generation) = Some (record { inx = index; generation = generation })

abbrev pub is_dot : ℕ → Bool
is_dot c = c == 46

-- An index, a dot and a generation.
abbrev pub pointer_of : List ℕ → Option ToolPtr
pointer_of word = pointer_with (index_word (before_first is_dot word)) (generation_word (after_first is_dot word))
