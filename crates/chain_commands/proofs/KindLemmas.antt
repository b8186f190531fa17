-- Kinds by pointers or by indexes.
use Rattle.std.proofs.Common.{◌≡◌, ◌⊎◌, Bool, true, is_some, Option, None, Some, refl, ap, sym, ◌∙◌, inl, inr}
use Rattle.std.specs.Prelude.{IsSomeAnd}
use Rattle.std.specs.Option.{MatchOption, option_map, option_or}
use Rattle.chain_commands.specs.Commands.{Kind, by_either}

mapped : {A : Type 0} (f : A → Kind) (o : Option A) (r : Option Kind) → MatchOption o (r ≡ None) (λ x. IsSomeAnd r (λ k. k ≡ f x)) → r ≡ option_map f o
mapped f None r is = is
mapped f (Some x) None is = absurd is
mapped f (Some x) (Some k) is = ap Some is

pub not_read : {P I : Type 0} {p : Option P} {b : Bool} {i index : Option I} → b ≡ is_some p → (b ≡ true) ⊎ (i ≡ index) → p ≡ None → i ≡ index
not_read is (inl holds) none = absurd (let e = sym holds ∙ is ∙ ap is_some none in cc)
not_read is (inr read) none = read

pub by_either-mapped : {P I : Type 0} (by_pointers : P → Kind) (by_indexes : I → Kind) (k l : Option Kind) {pointers pointers_got : Option P} {indexes indexes_got : Option I}
    → pointers_got ≡ pointers → (pointers_got ≡ None → indexes_got ≡ indexes)
    → MatchOption pointers_got (k ≡ None) (λ p. IsSomeAnd k (λ m. m ≡ by_pointers p)) → MatchOption indexes_got (l ≡ None) (λ i. IsSomeAnd l (λ m. m ≡ by_indexes i))
    → option_or k l ≡ by_either by_pointers by_indexes pointers indexes
by_either-mapped by_pointers by_indexes k l {pointers_got = Some p} {indexes = indexes} {indexes_got = i} is_pointers is_indexes by_pointer by_index =
    ap (λ m. option_or m l) (mapped by_pointers (Some p) k by_pointer) ∙ ap (λ o. by_either by_pointers by_indexes o indexes) is_pointers
by_either-mapped by_pointers by_indexes k l {pointers_got = None} {indexes_got = i} is_pointers is_indexes by_pointer by_index =
    (λ t. option_or (mapped by_pointers None k by_pointer t) (mapped by_indexes i l by_index t))
    ∙ (λ t. by_either by_pointers by_indexes (is_pointers t) (is_indexes refl t))
