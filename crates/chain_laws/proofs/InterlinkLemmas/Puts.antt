-- An index put between two: `f` gives the index after an index, `g` the index before it.
use Rattle.std.specs.Prelude.{◌≡◌, ◌≢◌, ◌↔◌, ℕ, ◌⊎◌, Option, None, Some}
use Rattle.std.proofs.Common.{sym, ap, ◌∙◌, inl, inr}
use Rattle.std.proofs.lemmas.Bool.{cases_eq}
use Rattle.chain_laws.proofs.InterlinkLemmas.Inverses.{Undoes, one_some, not_both_ways}
use Rattle.chain_laws.proofs.InterlinkLemmas.Skips.{names_or_not, undoes_back}

pub record Puts (f h : ℕ → Option ℕ) (q : ℕ) (u v : Option ℕ) : Type 0 where
  pub here : h q ≡ v
  pub before : (j : ℕ) → j ≢ q → u ≡ Some j → h j ≡ Some q
  pub elsewhere : (j : ℕ) → j ≢ q → u ≢ Some j → h j ≡ f j

-- q may be put between u and v: f maps q to nothing, and u at most to v.
pub record IsOpenPlace (f : ℕ → Option ℕ) (q : ℕ) (u v : Option ℕ) : Type 0 where
  pub free : f q ≡ None
  pub only : (i j : ℕ) → u ≡ Some i → f i ≡ Some j → v ≡ Some j
  pub itself : u ≡ Some q → v ≡ Some q

-- (i, j) is a pair of f other than (u, v), or is (u, q) or (q, v).
abbrev pub IsPairAround : (ℕ → Option ℕ) → ℕ → Option ℕ → Option ℕ → ℕ → ℕ → Type 0
IsPairAround f q u v i j = ((f i ≡ Some j) × ((u ≡ Some i) × (v ≡ Some j) → ⊥)) ⊎ ((u ≡ Some i) × (j ≡ q)) ⊎ ((i ≡ q) × (v ≡ Some j))

pub puts_pairs : (f h : ℕ → Option ℕ) (q : ℕ) (u v : Option ℕ) → IsOpenPlace f q u v → Puts f h q u v
    → (i j : ℕ) → (h i ≡ Some j) ↔ IsPairAround f q u v i j
puts_pairs f h q u v can puts i j = (λ e. by e (cases_eq i q) (names_or_not u i), λ p. back p (cases_eq i q))
  where
    by : h i ≡ Some j → (i ≡ q) ⊎ (i ≢ q) → (u ≡ Some i) ⊎ (u ≢ Some i) → IsPairAround f q u v i j
    by e (inl s) _ = inr (inr (s, sym puts.here ∙ sym (ap h s) ∙ e))
    by e (inr ne) (inl at_u) = inr (inl (at_u, one_some (sym e ∙ puts.before i ne at_u)))
    by e (inr ne) (inr not_u) = inl (sym (puts.elsewhere i ne not_u) ∙ e, λ p. not_u p.0)

    back : IsPairAround f q u v i j → (i ≡ q) ⊎ (i ≢ q) → h i ≡ Some j
    back (inl p) (inl s) = absurd (not_both_ways (f i) j (ap f s ∙ can.free) p.0)
    back (inl p) (inr ne) = puts.elsewhere i ne (λ at_u. p.1 (at_u, can.only i j at_u p.0)) ∙ p.0
    back (inr (inl p)) (inl s) = ap h s ∙ puts.here ∙ can.itself (p.0 ∙ ap Some s) ∙ sym (ap Some p.1)
    back (inr (inl p)) (inr ne) = puts.before i ne p.0 ∙ sym (ap Some p.1)
    back (inr (inr p)) _ = ap h p.0 ∙ puts.here ∙ p.1

pair_around_back : (f g : ℕ → Option ℕ) (q : ℕ) (u v : Option ℕ) (i j : ℕ) → Undoes f g → IsPairAround f q u v i j → IsPairAround g q v u j i
pair_around_back f g q u v i j each (inl p) = inl ((each i j).0 p.0, λ s. p.1 (s.1, s.0))
pair_around_back f g q u v i j each (inr (inl p)) = inr (inr (p.1, p.0))
pair_around_back f g q u v i j each (inr (inr p)) = inr (inl (p.1, p.0))

pub puts_undo : (f g h k : ℕ → Option ℕ) (q : ℕ) (u v : Option ℕ) → Undoes f g → IsOpenPlace f q u v → IsOpenPlace g q v u
    → Puts f h q u v → Puts g k q v u → Undoes h k
puts_undo f g h k q u v each capacity_after capacity_before forward back i j =
    let after = puts_pairs f h q u v capacity_after forward i j in
    let before = puts_pairs g k q v u capacity_before back j i in (
      λ e. before.1 (pair_around_back f g q u v i j each (after.0 e)),
      λ e. after.1 (pair_around_back g f q v u j i (undoes_back f g each) (before.0 e)),
    )
