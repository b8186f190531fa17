-- Numbers and pointers stated by words.
use Rattle.std.proofs.Common.{◌≡◌, ℕ, suc, ◌+◌, ◌==◌, ◌^◌, ◌<◌, ◌≤◌, ◌↔◌, Bool, true, false, not, cond, leb, List, [], ◌∷◌, ◌++◌, take, drop, Option, Some, None, IsSome, IfSome, option_and_then, refl, sym, ap, ◌∙◌, one-add, arith, rules}
use Rattle.std.specs.Prelude.{All}
use Rattle.std.specs.List.{position_or_len, before_first, after_first}
use Rattle.std.proofs.lemmas.List.Elements.{All-head, All-tail}
use Rattle.std.proofs.lemmas.Bool.{le-leb, leb-true, false≢true}
use Rattle.arena_core.specs.Numbers.{IsWithin}
use Rattle.arena_ptr.specs.Indexes.{number_of_inx32, same_inx32}
use Rattle.arena_ptr.specs.Generations.{number_of_gen32, same_gen32}
use Rattle.arena_ptr.specs.declared.index.inx32.Inx32.{Inx32}
use Rattle.arena_ptr.specs.declared.generation.gen32.Gen32.{Gen32}
use Rattle.arena_ptr.specs.declared.tool_ptr.ToolPtr.{ToolPtr}
use Rattle.arena_ptr.specs.ToolPtr.{key_of, same_tool_ptr}
use Rattle.chain_commands.specs.Words.{made_if, index_at, generation_at, index_named, generation_of, index_word, generation_word, pointer_with, pointer_of, IsNot, EndsFirst}

module _ {A : Type 0} (make : (n : ℕ) → IsWithin 0xffff_ffff n → A) where
  made_if-some : (n : ℕ) (x : A) → IsWithin 0xffff_ffff n → ((within : IsWithin 0xffff_ffff n) → make n within ≡ x)
      → (low high : Bool) (at_least : leb 1 n ≡ low) (at_most : leb n 0xffff_ffff ≡ high) → made_if make n low high at_least at_most ≡ Some x
  made_if-some n x within same true true at_least at_most = ap Some (same _)
  made_if-some n x within same true false at_least at_most = let e = le-leb n 0xffff_ffff within.1 in cc
  made_if-some n x within same false high at_least at_most = let e = le-leb 1 n within.0 in cc

  made_if-none : (n : ℕ) → (1 ≤ n → ⊥) → (low high : Bool) (at_least : leb 1 n ≡ low) (at_most : leb n 0xffff_ffff ≡ high) → made_if make n low high at_least at_most ≡ None
  made_if-none n absent true true at_least at_most = absurd (absent (leb-true 1 n at_least))
  made_if-none n absent true false at_least at_most = refl
  made_if-none n absent false high at_least at_most = refl

pub index_named-new : (n : ℕ) (r : Option Inx32) → n < 2 ^ 32 → IsSome r ↔ (1 ≤ n) → IfSome r (λ i. number_of_inx32 i ≡ n) → r ≡ index_named n
unfolding index_named
index_named-new n (Some i) fits variant value =
    sym (made_if-some index_at n i (variant.0 refl, omega arith) (λ within. same_inx32 (index_at n within) i (sym value)) _ _ refl refl)
index_named-new n None fits variant value = sym (made_if-none index_at n (λ at_least. false≢true (variant.1 at_least)) _ _ refl refl)

pub generation_of-new : (n : ℕ) (r : Option Gen32) → n < 2 ^ 32 → IsSome r ↔ (1 ≤ n) → IfSome r (λ g. number_of_gen32 g ≡ n) → r ≡ generation_of n
unfolding generation_of
generation_of-new n (Some g) fits variant value =
    sym (made_if-some generation_at n g (variant.0 refl, omega arith) (λ within. same_gen32 (generation_at n within) g (sym value)) _ _ refl refl)
generation_of-new n None fits variant value = sym (made_if-none generation_at n (λ at_least. false≢true (variant.1 at_least)) _ _ refl refl)

pub index_named-chain : (o : Option ℕ) (n : ℕ) (r : Option Inx32) → o ≡ Some n → n < 2 ^ 32 → IsSome r ↔ (1 ≤ n) → IfSome r (λ i. number_of_inx32 i ≡ n) → r ≡ option_and_then index_named o
index_named-chain o n r e fits variant value = index_named-new n r fits variant value ∙ ap (option_and_then index_named) (sym e)

pub generation_of-chain : (o : Option ℕ) (n : ℕ) (r : Option Gen32) → o ≡ Some n → n < 2 ^ 32 → IsSome r ↔ (1 ≤ n) → IfSome r (λ g. number_of_gen32 g ≡ n) → r ≡ option_and_then generation_of o
generation_of-chain o n r e fits variant value = generation_of-new n r fits variant value ∙ ap (option_and_then generation_of) (sym e)

split_is : (b : ℕ) (front back : List ℕ) → All (IsNot b) front
    → (before_first (λ c. c == b) (front ++ b ∷ back) ≡ front) × (after_first (λ c. c == b) (front ++ b ∷ back) ≡ back)
split_is b [] back all =
    let same : (b == b) ≡ true = search rules in
    let at = ap (λ t. cond (not t) (1 + position_or_len (λ c. c == b) back) 0) same in
    (ap (λ k. take k (b ∷ back)) at, ap (λ k. drop (k + 1) (b ∷ back)) at)
split_is b (c ∷ front) back all =
    let rest = split_is b front back (All-tail (IsNot b) c front all) in
    let n = position_or_len (λ c. c == b) (front ++ b ∷ back) in
    let at = ap (λ t. cond (not t) (1 + n) 0) (All-head (IsNot b) c front all) ∙ one-add n in
    let more : suc n + 1 ≡ suc (n + 1) = omega arith in (
      ap (λ k. take k (c ∷ front ++ b ∷ back)) at ∙ ap (λ l. c ∷ l) rest.0,
      ap (λ k. drop (k + 1) (c ∷ front ++ b ∷ back)) at ∙ ap (λ k. drop k (c ∷ front ++ b ∷ back)) more ∙ rest.1,
    )

none_after : (b : ℕ) (text : List ℕ) → All (IsNot b) text → after_first (λ c. c == b) text ≡ []
none_after b [] all = refl
none_after b (c ∷ text) all =
    let n = position_or_len (λ c. c == b) text in
    let at = ap (λ t. cond (not t) (1 + n) 0) (All-head (IsNot b) c text all) ∙ one-add n in
    let more : suc n + 1 ≡ suc (n + 1) = omega arith in
    ap (λ k. drop (k + 1) (c ∷ text)) at ∙ ap (λ k. drop k (c ∷ text)) more ∙ none_after b text (All-tail (IsNot b) c text all)

pointer_with-none : (index : Option Inx32) (generation : Option Gen32) → None ≡ generation → None ≡ pointer_with index generation
pointer_with-none None generation e = refl
pointer_with-none (Some index) generation e = ap (pointer_with (Some index)) e

pub pointer_of-no_dot : (word : List ℕ) → All (IsNot 46) word → None ≡ pointer_of word
pointer_of-no_dot word all = pointer_with-none _ _ (sym (ap generation_word (none_after 46 word all)))

module _ (word front back : List ℕ) (ends : EndsFirst 46 front word back) where
  parts : pointer_of word ≡ pointer_with (index_word front) (generation_word back)
  parts =
      let is = split_is 46 front back ends.first in
      ap pointer_of ends.parts ∙ (λ t. pointer_with (index_word (is.0 t)) (generation_word (is.1 t)))

  pub pointer_of-no_index : None ≡ index_word front → None ≡ pointer_of word
  pointer_of-no_index e = ap (λ i. pointer_with i (generation_word back)) e ∙ sym parts

  pub pointer_of-no_generation : None ≡ generation_word back → None ≡ pointer_of word
  pointer_of-no_generation e = pointer_with-none _ _ e ∙ sym parts

  pub pointer_of-some : (p : ToolPtr) (i : Inx32) (g : Gen32) → key_of p ≡ (number_of_inx32 i, g) → Some i ≡ index_word front → Some g ≡ generation_word back → Some p ≡ pointer_of word
  pointer_of-some p i g key is_index is_generation =
      ap Some (same_tool_ptr p (record { inx = i; generation = g }) key) ∙ (λ k. pointer_with (is_index k) (is_generation k)) ∙ sym parts
