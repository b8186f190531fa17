-- The swap of two indexes: q for p, p for q, and any other for itself.
use Rattle.std.specs.Prelude.{◌≡◌, ◌≢◌, ℕ, ◌==◌, if◌then◌else◌, ◌⊎◌, Option, None, Some}
use Rattle.std.specs.Option.{option_map}
use Rattle.std.proofs.Common.{sym, refl, ap, ◌∙◌, inl, inr, ⊎_elim}
use Rattle.std.proofs.lemmas.Bool.{cases_eq}
use Rattle.chain_laws.proofs.InterlinkLemmas.Inverses.{if_same, if_other}

abbrev pub swapped : ℕ → ℕ → ℕ → ℕ
swapped p q i = if i == p then q else if i == q then p else i

abbrev pub swapped_in : ℕ → ℕ → Option ℕ → Option ℕ
swapped_in p q o = option_map (swapped p q) o

pub is_either_or_neither : (p q i : ℕ) → (i ≡ p) ⊎ (i ≡ q) ⊎ ((i ≢ p) × (i ≢ q))
is_either_or_neither p q i = by (cases_eq i p) (cases_eq i q)
  where
    by : (i ≡ p) ⊎ (i ≢ p) → (i ≡ q) ⊎ (i ≢ q) → (i ≡ p) ⊎ (i ≡ q) ⊎ ((i ≢ p) × (i ≢ q))
    by (inl e) _ = inl e
    by (inr not_p) (inl e) = inr (inl e)
    by (inr not_p) (inr not_q) = inr (inr (not_p, not_q))

pub swapped-first : (p q i : ℕ) → i ≡ p → swapped p q i ≡ q
swapped-first p q i e = if_same i p q (if i == q then p else i) e

pub swapped-second : (p q i : ℕ) → i ≡ q → swapped p q i ≡ p
swapped-second p q i e = ⊎_elim
    (λ s. swapped-first p q i s ∙ sym e ∙ s)
    (λ ne. if_other i p q (if i == q then p else i) ne ∙ if_same i q p i e)
    (cases_eq i p)

pub swapped-other : (p q i : ℕ) → i ≢ p → i ≢ q → swapped p q i ≡ i
swapped-other p q i not_p not_q = if_other i p q (if i == q then p else i) not_p ∙ if_other i q p i not_q

pub swapped-twice : (p q i : ℕ) → swapped p q (swapped p q i) ≡ i
swapped-twice p q i = by (is_either_or_neither p q i)
  where
    by : (i ≡ p) ⊎ (i ≡ q) ⊎ ((i ≢ p) × (i ≢ q)) → swapped p q (swapped p q i) ≡ i
    by (inl e) = swapped-second p q (swapped p q i) (swapped-first p q i e) ∙ sym e
    by (inr (inl e)) = swapped-first p q (swapped p q i) (swapped-second p q i e) ∙ sym e
    by (inr (inr ne)) = ap (swapped p q) (swapped-other p q i ne.0 ne.1) ∙ swapped-other p q i ne.0 ne.1

pub swapped-mutual : (p q i : ℕ) → swapped p q i ≡ swapped q p i
swapped-mutual p q i = by (is_either_or_neither p q i)
  where
    by : (i ≡ p) ⊎ (i ≡ q) ⊎ ((i ≢ p) × (i ≢ q)) → swapped p q i ≡ swapped q p i
    by (inl e) = swapped-first p q i e ∙ sym (swapped-second q p i e)
    by (inr (inl e)) = swapped-second p q i e ∙ sym (swapped-first q p i e)
    by (inr (inr ne)) = swapped-other p q i ne.0 ne.1 ∙ sym (swapped-other q p i ne.1 ne.0)

pub swapped-itself : (p i : ℕ) → swapped p p i ≡ i
swapped-itself p i = ⊎_elim (λ e. swapped-first p p i e ∙ sym e) (λ ne. swapped-other p p i ne ne) (cases_eq i p)

pub swapped_in-other : (p q : ℕ) (o : Option ℕ) → o ≢ Some p → o ≢ Some q → swapped_in p q o ≡ o
swapped_in-other p q None not_p not_q = refl
swapped_in-other p q (Some i) not_p not_q = ap Some (swapped-other p q i (λ e. not_p (ap Some e)) (λ e. not_q (ap Some e)))

pub swapped_in-twice : (p q : ℕ) (o : Option ℕ) → swapped_in p q (swapped_in p q o) ≡ o
swapped_in-twice p q None = refl
swapped_in-twice p q (Some i) = ap Some (swapped-twice p q i)

pub swapped_in-mutual : (p q : ℕ) (o : Option ℕ) → swapped_in p q o ≡ swapped_in q p o
swapped_in-mutual p q None = refl
swapped_in-mutual p q (Some i) = ap Some (swapped-mutual p q i)
