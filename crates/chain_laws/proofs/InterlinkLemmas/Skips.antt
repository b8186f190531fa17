-- An index skipped: `f` gives the index after an index, `g` the index before it.
use Rattle.std.specs.Prelude.{◌≡◌, ◌≢◌, ◌↔◌, ℕ, ◌⊎◌, Option, None, Some}
use Rattle.std.proofs.Common.{sym, ap, ◌∙◌, inl, inr}
use Rattle.std.proofs.lemmas.Bool.{cases_eq}
use Rattle.chain_laws.proofs.InterlinkLemmas.Inverses.{Undoes, one_some, not_both_ways}

-- h is f without q: what f maps to q goes on to what q maps to.
pub record Skips (f h : ℕ → Option ℕ) (q : ℕ) : Type 0 where
  pub gone : h q ≡ None
  pub past : (j : ℕ) → j ≢ q → f j ≡ Some q → h j ≡ f q
  pub elsewhere : (j : ℕ) → j ≢ q → f j ≢ Some q → h j ≡ f j

abbrev pub IsPairPast : (ℕ → Option ℕ) → (ℕ → Option ℕ) → ℕ → ℕ → ℕ → Type 0
IsPairPast f g q i j = ((f i ≡ Some j) × (i ≢ q) × (j ≢ q)) ⊎ ((g q ≡ Some i) × (f q ≡ Some j) × (i ≢ q) × (j ≢ q))

pub names_or_not : (o : Option ℕ) (q : ℕ) → (o ≡ Some q) ⊎ (o ≢ Some q)
names_or_not None q = inr (λ e. cc)
names_or_not (Some k) q = by (cases_eq k q)
  where
    by : (k ≡ q) ⊎ (k ≢ q) → (Some k ≡ Some q) ⊎ (Some k ≢ Some q)
    by (inl e) = inl (ap Some e)
    by (inr ne) = inr (λ e. ne (one_some e))

pub skips_pairs : (f g h : ℕ → Option ℕ) (q : ℕ) → Undoes f g → Skips f h q → (i j : ℕ) → (h i ≡ Some j) ↔ IsPairPast f g q i j
skips_pairs f g h q each skips i j = (λ e. by e (cases_eq i q) (names_or_not (f i) q), back)
  where
    by : h i ≡ Some j → (i ≡ q) ⊎ (i ≢ q) → (f i ≡ Some q) ⊎ (f i ≢ Some q) → IsPairPast f g q i j
    by e (inl s) _ = absurd (not_both_ways (h i) j (ap h s ∙ skips.gone) e)
    by e (inr ne) (inl to_q) =
        let after : f q ≡ Some j = sym (skips.past i ne to_q) ∙ e in
        let before : g q ≡ Some i = (each i q).0 to_q in
        inr (before, after, ne, λ s. ne (one_some (sym before ∙ (each q q).0 (after ∙ ap Some s))))
    by e (inr ne) (inr not_q) =
        let here : f i ≡ Some j = sym (skips.elsewhere i ne not_q) ∙ e in
        inl (here, ne, λ s. not_q (here ∙ ap Some s))

    back : IsPairPast f g q i j → h i ≡ Some j
    back (inl p) = skips.elsewhere i p.1 (λ e. p.2 (one_some (sym p.0 ∙ e))) ∙ p.0
    back (inr p) = skips.past i p.2 ((each i q).1 p.0) ∙ p.1

pair_past_back : (f g : ℕ → Option ℕ) (q i j : ℕ) → Undoes f g → IsPairPast f g q i j → IsPairPast g f q j i
pair_past_back f g q i j each (inl p) = inl ((each i j).0 p.0, p.2, p.1)
pair_past_back f g q i j each (inr p) = inr (p.1, p.0, p.3, p.2)

pub undoes_back : (f g : ℕ → Option ℕ) → Undoes f g → Undoes g f
undoes_back f g each i j = ((each j i).1, (each j i).0)

pub skips_undo : (f g h k : ℕ → Option ℕ) (q : ℕ) → Undoes f g → Skips f h q → Skips g k q → Undoes h k
skips_undo f g h k q each forward back i j =
    let after = skips_pairs f g h q each forward i j in
    let before = skips_pairs g f k q (undoes_back f g each) back j i in (
      λ e. before.1 (pair_past_back f g q i j each (after.0 e)),
      λ e. after.1 (pair_past_back g f q j i (undoes_back f g each) (before.0 e)),
    )
