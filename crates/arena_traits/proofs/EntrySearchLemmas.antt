-- Lookups after a removal.
use Rattle.std.proofs.Common.{◌≡◌, ◌≢◌, ℕ, suc, ◌<◌, List, [], ◌∷◌, None, Some, refl, ap, sym, ◌∙◌, arith, ⊎_elim}
use Rattle.std.specs.Prelude.{◌==◌, cond}
use Rattle.std.proofs.lemmas.Bool.{cases_eq, eq-eqb, ne_eqb}
use Rattle.arena_traits.specs.Entries.{found, without_index, AscendsFrom}

module _ {Gen T : Type 0} where
  pub at_first : (e : (ℕ × Gen) × T) (i : ℕ) (es : List ((ℕ × Gen) × T)) → e.0.0 ≡ i → found i (e ∷ es) ≡ Some (e.0.1, e.1)
  at_first e i es is = ap (λ b. cond b (Some (e.0.1, e.1)) (found i es)) (eq-eqb e.0.0 i is)

  pub past_first : (e : (ℕ × Gen) × T) (i : ℕ) (es : List ((ℕ × Gen) × T)) → e.0.0 ≢ i → found i (e ∷ es) ≡ found i es
  past_first e i es other = ap (λ b. cond b (Some (e.0.1, e.1)) (found i es)) (ne_eqb e.0.0 i other)

  without_first : (e : (ℕ × Gen) × T) (n : ℕ) (es : List ((ℕ × Gen) × T)) → e.0.0 ≡ n → without_index n (e ∷ es) ≡ es
  without_first e n es is = ap (λ b. cond b es (e ∷ without_index n es)) (eq-eqb e.0.0 n is)

  without_later : (e : (ℕ × Gen) × T) (n : ℕ) (es : List ((ℕ × Gen) × T)) → e.0.0 ≢ n → without_index n (e ∷ es) ≡ e ∷ without_index n es
  without_later e n es other = ap (λ b. cond b es (e ∷ without_index n es)) (ne_eqb e.0.0 n other)

  found-low : (i j : ℕ) (es : List ((ℕ × Gen) × T)) → i < j → AscendsFrom j es → found i es ≡ None
  found-low i j [] below ascends = refl
  found-low i j (e ∷ es) below ascends = past_first e i es (λ is. absurd (omega (arith, is, below, ascends.0))) ∙ found-low i (suc e.0.0) es (omega (arith, below, ascends.0)) ascends.1

  pub found-gone : (n j : ℕ) (es : List ((ℕ × Gen) × T)) → AscendsFrom j es → found n (without_index n es) ≡ None
  found-gone n j [] ascends = refl
  found-gone n j (e ∷ es) ascends = ⊎_elim
      (λ is. ap (found n) (without_first e n es is) ∙ found-low n (suc e.0.0) es (omega (arith, is)) ascends.1)
      (λ other. ap (found n) (without_later e n es other) ∙ (past_first e n (without_index n es) other ∙ found-gone n (suc e.0.0) es ascends.1))
      (cases_eq e.0.0 n)

  pub found-kept : (i n : ℕ) (es : List ((ℕ × Gen) × T)) → i ≢ n → found i (without_index n es) ≡ found i es
  found-kept i n [] other = refl
  found-kept i n (e ∷ es) other = ⊎_elim
      (λ is. ap (found i) (without_first e n es is) ∙ sym (past_first e i es (λ same. other (sym same ∙ is))))
      (λ differs. ap (found i) (without_later e n es differs) ∙ ap (cond (e.0.0 == i) (Some (e.0.1, e.1))) (found-kept i n es other))
      (cases_eq e.0.0 n)
