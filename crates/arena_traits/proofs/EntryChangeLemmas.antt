-- Entries after a write or a removal.
use Rattle.std.proofs.Common.{◌≡◌, ◌≢◌, ℕ, List, [], ◌∷◌, Option, None, Some, ⊎_elim, refl, sym, ap, ◌∙◌}
use Rattle.std.specs.Prelude.{◌==◌, cond}
use Rattle.std.specs.Option.{option_map}
use Rattle.std.proofs.lemmas.Bool.{cases_eq, eq-eqb, ne_eqb}
use Rattle.arena_traits.specs.Entries.{ArenaView, ArenaState, found, without_index, with_replacement, view_with_value}
use Rattle.arena_traits.proofs.EntrySearchLemmas.{at_first, past_first, found-gone, found-kept}

module _ {Gen T : Type 0} where
  abbrev pub valued : T → Gen × T → Gen × T
  valued t e = (e.0, t)

  pub writes_first : (i : ℕ) (t : T) (e : (ℕ × Gen) × T) (es : List ((ℕ × Gen) × T)) → e.0.0 ≡ i → with_replacement i (valued t) (e ∷ es) ≡ ((i, e.0.1), t) ∷ es
  writes_first i t e es is = ap (λ b. cond b (((i, e.0.1), t) ∷ es) (e ∷ with_replacement i (valued t) es)) (eq-eqb e.0.0 i is)

  pub writes_later : (i : ℕ) (t : T) (e : (ℕ × Gen) × T) (es : List ((ℕ × Gen) × T)) → e.0.0 ≢ i → with_replacement i (valued t) (e ∷ es) ≡ e ∷ with_replacement i (valued t) es
  writes_later i t e es other = ap (λ b. cond b (((i, e.0.1), t) ∷ es) (e ∷ with_replacement i (valued t) es)) (ne_eqb e.0.0 i other)

  pub found-written : (i : ℕ) (t : T) (es : List ((ℕ × Gen) × T)) → found i (with_replacement i (valued t) es) ≡ option_map (valued t) (found i es)
  found-written i t [] = refl
  found-written i t (e ∷ es) = ⊎_elim
      (λ is. ap (found i) (writes_first i t e es is) ∙ (at_first ((i, e.0.1), t) i es refl ∙ sym (ap (option_map (valued t)) (at_first e i es is))))
      (λ other. ap (found i) (writes_later i t e es other) ∙ (past_first e i (with_replacement i (valued t) es) other ∙ (found-written i t es ∙ sym (ap (option_map (valued t)) (past_first e i es other)))))
      (cases_eq e.0.0 i)

  pub found-unwritten : (k i : ℕ) (t : T) (es : List ((ℕ × Gen) × T)) → k ≢ i → found k (with_replacement i (valued t) es) ≡ found k es
  found-unwritten k i t [] other = refl
  found-unwritten k i t (e ∷ es) other = ⊎_elim
      (λ is. ap (found k) (writes_first i t e es is) ∙ (past_first ((i, e.0.1), t) k es (λ same. other (sym same)) ∙ sym (past_first e k es (λ same. other (sym same ∙ is)))))
      (λ differs. ap (found k) (writes_later i t e es differs) ∙ ap (cond (e.0.0 == k) (Some (e.0.1, e.1))) (found-unwritten k i t es other))
      (cases_eq e.0.0 i)

module _ {A Gen T : Type 0} {view : A → ArenaView Gen T} {entry : A → ℕ → Option (Gen × T)} (state : (a : A) → ArenaState (view a) (entry a)) (a b : A) (i : ℕ) where
  module _ (removed : (view b).entries ≡ without_index i (view a).entries) where
    pub entry_gone : entry b i ≡ None
    entry_gone = sym ((state b).finds i) ∙ (ap (found i) removed ∙ found-gone i 1 (view a).entries (state a).ascends)

    pub entry_kept : (k : ℕ) → k ≢ i → entry b k ≡ entry a k
    entry_kept k other = sym ((state b).finds k) ∙ (ap (found k) removed ∙ (found-kept k i (view a).entries other ∙ (state a).finds k))

  module _ (t : T) (written : view b ≡ view_with_value (view a) i t) where
    pub value_there : entry b i ≡ option_map (valued t) (entry a i)
    value_there = sym ((state b).finds i) ∙ (ap (λ (s : ArenaView Gen T). found i s.entries) written ∙ (found-written i t (view a).entries ∙ ap (option_map (valued t)) ((state a).finds i)))

    pub values_elsewhere : (k : ℕ) → k ≢ i → entry b k ≡ entry a k
    values_elsewhere k other = sym ((state b).finds k) ∙ (ap (λ (s : ArenaView Gen T). found k s.entries) written ∙ (found-unwritten k i t (view a).entries other ∙ (state a).finds k))
