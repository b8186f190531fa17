-- Sums over the entries of a view, and how calls change them.
use Rattle.std.proofs.Common.{◌≡◌, ◌≢◌, ℕ, suc, ◌+◌, ◌≤◌, inl, inr, ⊎_elim, List, [], ◌∷◌, length, Bool, true, false, None, Some, refl, sym, ap, ◌∙◌, subst, arith}
use Rattle.std.specs.Prelude.{◌⊎◌, ⊤, ◌==◌, cond}
use Rattle.std.proofs.lemmas.Bool.{cases_eq, eq-eqb, ne_eqb}
use Rattle.arena_traits.specs.Entries.{ArenaView, found, without_index, with_replacement}
use Rattle.arena_traits.proofs.EntryChangeLemmas.{valued, writes_first, writes_later, found-unwritten}
use Rattle.arena_traits.proofs.EntrySearchLemmas.{at_first, past_first, found-kept}
use Rattle.surject_arena.specs.Surjections.{entry_in}
use Rattle.surject_arena.specs.SetCalls.{IsAdded}
use Rattle.surject_arena.proofs.OptionLemmas.{same_some, none_some}

module _ {Gen X : Type 0} where
  abbrev pub total_weight : (X → ℕ) → List ((ℕ × Gen) × X) → ℕ
  total_weight weight [] = 0
  total_weight weight (e ∷ es) = weight e.1 + total_weight weight es

  abbrev pub AreOnce : List ((ℕ × Gen) × X) → Type 0
  AreOnce [] = ⊤
  AreOnce (e ∷ es) = (found e.0.0 es ≡ None) × AreOnce es

  without_cases : (i : ℕ) (e : (ℕ × Gen) × X) (es : List ((ℕ × Gen) × X))
      → ((e.0.0 ≡ i) × (without_index i (e ∷ es) ≡ es)) ⊎ ((e.0.0 ≢ i) × (without_index i (e ∷ es) ≡ e ∷ without_index i es))
  without_cases i e es = ⊎_elim
      (λ same. inl (same, ap (λ b. cond b es (e ∷ without_index i es)) (eq-eqb e.0.0 i same)))
      (λ other. inr (other, ap (λ b. cond b es (e ∷ without_index i es)) (ne_eqb e.0.0 i other)))
      (cases_eq e.0.0 i)

  pub length-without : (i : ℕ) (es : List ((ℕ × Gen) × X)) (x : Gen × X) → found i es ≡ Some x → length es ≡ suc (length (without_index i es))
  length-without i [] x stored = absurd (cc)
  length-without i (e ∷ es) x stored = by (e.0.0 == i) stored (length-without i es x)
    where
      by : (b : Bool) → cond b (Some (e.0.1, e.1)) (found i es) ≡ Some x → (found i es ≡ Some x → length es ≡ suc (length (without_index i es)))
          → suc (length es) ≡ suc (length (cond b es (e ∷ without_index i es)))
      by true is rest = refl
      by false is rest = ap suc (rest is)

  pub weight-without : (weight : X → ℕ) (i : ℕ) (es : List ((ℕ × Gen) × X)) (x : Gen × X) → found i es ≡ Some x → total_weight weight es ≡ weight x.1 + total_weight weight (without_index i es)
  weight-without weight i [] x stored = absurd (cc)
  weight-without weight i (e ∷ es) x stored = by (e.0.0 == i) stored (weight-without weight i es x)
    where
      by : (b : Bool) → cond b (Some (e.0.1, e.1)) (found i es) ≡ Some x → (found i es ≡ Some x → total_weight weight es ≡ weight x.1 + total_weight weight (without_index i es))
          → weight e.1 + total_weight weight es ≡ weight x.1 + total_weight weight (cond b es (e ∷ without_index i es))
      by true is rest = ap (λ (y : Gen × X). weight y.1 + total_weight weight es) (same_some (e.0.1, e.1) x is)
      by false is rest = omega (arith, rest is)

  pub weight-written : (weight : X → ℕ) (i : ℕ) (t : X) (es : List ((ℕ × Gen) × X)) (x : Gen × X) → found i es ≡ Some x → total_weight weight (with_replacement i (valued t) es) + weight x.1 ≡ total_weight weight es + weight t
  weight-written weight i t [] x stored = absurd (cc)
  weight-written weight i t (e ∷ es) x stored = by (e.0.0 == i) stored (weight-written weight i t es x)
    where
      by : (b : Bool) → cond b (Some (e.0.1, e.1)) (found i es) ≡ Some x → (found i es ≡ Some x → total_weight weight (with_replacement i (valued t) es) + weight x.1 ≡ total_weight weight es + weight t)
          → total_weight weight (cond b (((i, e.0.1), t) ∷ es) (e ∷ with_replacement i (valued t) es)) + weight x.1 ≡ (weight e.1 + total_weight weight es) + weight t
      by true is rest = let same : weight e.1 ≡ weight x.1 = ap (λ (y : Gen × X). weight y.1) (same_some (e.0.1, e.1) x is) in omega (arith, same)
      by false is rest = omega (arith, rest is)

  pub weight_within : (weight : X → ℕ) (i : ℕ) (es : List ((ℕ × Gen) × X)) (x : Gen × X) → found i es ≡ Some x → weight x.1 ≤ total_weight weight es
  weight_within weight i es x stored = omega (arith, weight-without weight i es x stored)

  pub once-without : (i : ℕ) (es : List ((ℕ × Gen) × X)) → AreOnce es → AreOnce (without_index i es)
  once-without i [] once = tt
  once-without i (e ∷ es) once = ⊎_elim
      (λ here. subst AreOnce (sym here.1) once.1)
      (λ past. subst AreOnce (sym past.1) (found-kept e.0.0 i es past.0 ∙ once.0, once-without i es once.1))
      (without_cases i e es)

  pub once-written : (i : ℕ) (t : X) (es : List ((ℕ × Gen) × X)) → AreOnce es → AreOnce (with_replacement i (valued t) es)
  once-written i t [] once = tt
  once-written i t (e ∷ es) once = ⊎_elim
      (λ same. subst AreOnce (sym (writes_first i t e es same)) (subst (λ (k : ℕ). found k es ≡ None) same once.0, once.1))
      (λ other. subst AreOnce (sym (writes_later i t e es other)) (found-unwritten e.0.0 i t es other ∙ once.0, once-written i t es once.1))
      (cases_eq e.0.0 i)

  once_with : (i : ℕ) (es : List ((ℕ × Gen) × X)) → found i (without_index i es) ≡ None → AreOnce (without_index i es) → AreOnce es
  once_with i [] free once = tt
  once_with i (e ∷ es) free once = ⊎_elim
      (λ here. (
        subst (λ (k : ℕ). found k es ≡ None) (sym here.0) (ap (found i) (sym here.1) ∙ free),
        subst AreOnce here.1 once,
      ))
      (λ past.
      let rest = subst AreOnce past.1 once in
      (sym (found-kept e.0.0 i es past.0) ∙ rest.0, once_with i es (sym (past_first e i (without_index i es) past.0) ∙ (ap (found i) (sym past.1) ∙ free)) rest.1))
      (without_cases i e es)

  same_entries : (weight : X → ℕ) (es fs : List ((ℕ × Gen) × X)) → AreOnce es → length fs ≤ length es → ((i : ℕ) (x : Gen × X) → found i es ≡ Some x → found i fs ≡ Some x)
      → (total_weight weight fs ≡ total_weight weight es) × AreOnce fs × ((i : ℕ) → found i fs ≡ found i es)
  same_entries weight [] [] once short has = (refl, tt, λ i. refl)
  same_entries weight [] (f ∷ fs) once short has = absurd (omega (arith, short))
  same_entries weight (e ∷ es) fs once short has =
      let at = has e.0.0 (e.0.1, e.1) (at_first e e.0.0 es refl) in
      let longer = length-without e.0.0 fs (e.0.1, e.1) at in
      let rest = same_entries weight es (without_index e.0.0 fs) once.1 (omega (arith, short, longer)) has_rest in
      (omega (arith, weight-without weight e.0.0 fs (e.0.1, e.1) at, rest.0), once_with e.0.0 fs (rest.2 e.0.0 ∙ once.0) rest.1, λ i. by i at rest.2 (cases_eq e.0.0 i))
    where
      has_rest : (i : ℕ) (x : Gen × X) → found i es ≡ Some x → found i (without_index e.0.0 fs) ≡ Some x
      has_rest i x stored =
          let other : i ≢ e.0.0 = λ same. none_some x (found e.0.0 es) once.0 (ap (λ (k : ℕ). found k es) (sym same) ∙ stored) in
          found-kept i e.0.0 fs other ∙ has i x (past_first e i es (λ same. other (sym same)) ∙ stored)

      by : (i : ℕ) → found e.0.0 fs ≡ Some (e.0.1, e.1) → ((k : ℕ) → found k (without_index e.0.0 fs) ≡ found k es) → (e.0.0 ≡ i) ⊎ (e.0.0 ≢ i) → found i fs ≡ found i (e ∷ es)
      by i at rest (inl same) = ap (λ (k : ℕ). found k fs) (sym same) ∙ (at ∙ sym (at_first e i es same))
      by i at rest (inr other) = sym (found-kept i e.0.0 fs (λ same. other (sym same))) ∙ (rest i ∙ sym (past_first e i es other))

  pub weight-added : (weight : X → ℕ) (old new : ArenaView Gen X) (t : X) (p : ℕ × Gen) → AreOnce old.entries → IsAdded old t p new → (total_weight weight new.entries ≡ weight t + total_weight weight old.entries) × AreOnce new.entries
  weight-added weight old new t p once added =
      let longer = length-without p.0 new.entries (p.1, t) added.entries.stored in
      let rest = same_entries weight old.entries (without_index p.0 new.entries) once (omega (arith, longer, added.more)) has in
      (omega (arith, weight-without weight p.0 new.entries (p.1, t) added.entries.stored, rest.0), once_with p.0 new.entries (rest.2 p.0 ∙ added.entries.free) rest.1)
    where
      has : (i : ℕ) (x : Gen × X) → found i old.entries ≡ Some x → found i (without_index p.0 new.entries) ≡ Some x
      has i x stored =
          let other : i ≢ p.0 = λ same. none_some x (entry_in old p.0) added.entries.free (ap (entry_in old) (sym same) ∙ stored) in
          found-kept i p.0 new.entries other ∙ (added.entries.rest i other ∙ stored)
