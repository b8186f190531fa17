-- The index of a named link after one link has moved.
use Rattle.std.proofs.Common.{◌≡◌, ℕ, Bool, true, false, Option, None, Some, sym, ap, ◌∙◌}
use Rattle.std.specs.Option.{option_map}
use Rattle.chain_laws.specs.Moves.{moved_index}
use Rattle.chain_laws.proofs.InterlinkLemmas.Inverses.{if_same, if_other}

pub differ : (known is : Bool) → known ≡ is → known ≡ false → is ≡ true → ⊥
differ known is by is_false on = cc

pub found_same : (known is : Bool) → known ≡ is → known ≡ true → is ≡ true
found_same known is by on = sym by ∙ on

module _ {I : Type 0} (number : I → ℕ) (same_number : (i j : I) → number i ≡ number j → i ≡ j) (k : I) (named : Option I) (is : named ≡ Some k) where
  pub named_moved : (from to : I) → k ≡ from → Some (number to) ≡ option_map (moved_index (number from) (number to)) (option_map number named)
  named_moved from to same =
      let at : moved_index (number from) (number to) (number k) ≡ number to = if_same (number k) (number from) (number to) (number k) (ap number same) in
      sym (ap (λ (o : Option I). option_map (moved_index (number from) (number to)) (option_map number o)) is ∙ ap (λ (n : ℕ). Some n) at)

  pub named_stays : (from to : I) → (k ≡ from → ⊥) → Some (number k) ≡ option_map (moved_index (number from) (number to)) (option_map number named)
  named_stays from to differs =
      let at : moved_index (number from) (number to) (number k) ≡ number k = if_other (number k) (number from) (number to) (number k) (λ e. differs (same_number k from e)) in
      sym (ap (λ (o : Option I). option_map (moved_index (number from) (number to)) (option_map number o)) is ∙ ap (λ (n : ℕ). Some n) at)

module _ {I : Type 0} (number : I → ℕ) (named : Option I) (is : named ≡ None) where
  pub none_moved : (from to : I) → None ≡ option_map (moved_index (number from) (number to)) (option_map number named)
  none_moved from to = sym (ap (λ (o : Option I). option_map (moved_index (number from) (number to)) (option_map number o)) is)
