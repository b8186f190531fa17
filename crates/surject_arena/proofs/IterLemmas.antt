-- The entries ahead of an advancer by ascending index.
use Rattle.std.proofs.Common.{◌≡◌, ℕ, suc, ◌+◌, ◌≤◌, List, [], ◌∷◌, map, Bool, true, false, Option, None, Some, refl, sym, ap, ◌∙◌, subst, arith}
use Rattle.std.specs.Prelude.{cond, leb, length}
use Rattle.std.specs.Option.{option_map}
use Rattle.std.specs.Iterator.{YieldsFirstBy, MakesProgress, item_count}
use Rattle.std.proofs.lemmas.Bool.{lt-leb}
use Rattle.arena_traits.specs.Entries.{first_key, AscendsFrom}
use Rattle.arena_traits.specs.Advancers.{ahead, entries_at_or_above, IsAdvance}
use Rattle.arena_traits.specs.declared.cursor.Cursor.{Cursor}
use Rattle.arena_traits.specs.declared.cursor.Cursor.TheVariants.{Up, Down, Nowhere}
use Rattle.chain_traits.proofs.GenericArenaLemmas.{entries_at_or_above-ascends}
use Rattle.surject_arena.specs.KeySets.{IsAscending}
use Rattle.surject_arena.proofs.OptionLemmas.{same_some}

module _ {Gen T : Type 0} where
  abbrev pub pointers : List ((ℕ × Gen) × T) → List (ℕ × Gen)
  pointers es = map (λ e. e.0) es

  not_below : (i j : ℕ) (p : ℕ × Gen) (es : List ((ℕ × Gen) × T)) → AscendsFrom j es → Some p ≡ first_key (entries_at_or_above i es) → j ≤ p.0
  not_below i j p [] ascends first = absurd (cc)
  not_below i j p (e ∷ es) ascends first = by (leb i e.0.0) first (not_below i (suc e.0.0) p es ascends.1)
    where
      by : (b : Bool) → Some p ≡ first_key (cond b (e ∷ es) (entries_at_or_above i es)) → (Some p ≡ first_key (entries_at_or_above i es) → suc e.0.0 ≤ p.0) → j ≤ p.0
      by true first later = let same : p.0 ≡ e.0.0 = ap (λ (q : ℕ × Gen). q.0) (same_some p e.0 first) in omega (arith, same, ascends.0)
      by false first later = omega (arith, later first, ascends.0)

  first_and_rest : (i j : ℕ) (p : ℕ × Gen) (es : List ((ℕ × Gen) × T)) → AscendsFrom j es → Some p ≡ first_key (entries_at_or_above i es) → pointers (entries_at_or_above i es) ≡ p ∷ pointers (entries_at_or_above (p.0 + 1) es)
  first_and_rest i j p [] ascends first = absurd (cc)
  first_and_rest i j p (e ∷ es) ascends first = by (leb i e.0.0) first (first_and_rest i (suc e.0.0) p es ascends.1)
    where
      past : (k : ℕ) → e.0.0 + 1 ≤ k → entries_at_or_above k (e ∷ es) ≡ entries_at_or_above k es
      past k above = ap (λ b. cond b (e ∷ es) (entries_at_or_above k es)) (lt-leb k e.0.0 (omega (arith, above)))

      by : (b : Bool) → Some p ≡ first_key (cond b (e ∷ es) (entries_at_or_above i es))
          → (Some p ≡ first_key (entries_at_or_above i es) → pointers (entries_at_or_above i es) ≡ p ∷ pointers (entries_at_or_above (p.0 + 1) es)) → pointers (cond b (e ∷ es) (entries_at_or_above i es)) ≡ p ∷ pointers (entries_at_or_above (p.0 + 1) (e ∷ es))
      by true first later =
          let same : p ≡ e.0 = same_some p e.0 first in
          let index : p.0 ≡ e.0.0 = ap (λ (q : ℕ × Gen). q.0) same in
          ap (λ (q : ℕ × Gen). q ∷ pointers es) (sym same)
          ∙ ap (λ l. p ∷ pointers l) (sym (past (p.0 + 1) (omega (arith, index)) ∙ entries_at_or_above-ascends (p.0 + 1) (suc e.0.0) es (omega (arith, index)) ascends.1))
      by false first later =
          let low = not_below i (suc e.0.0) p es ascends.1 first in
          later first ∙ ap (λ l. p ∷ pointers l) (sym (past (p.0 + 1) (omega (arith, low))))

  module _ (es : List ((ℕ × Gen) × T)) (ascends : AscendsFrom 1 es) where
    pub still_ascending : (cursor after : Cursor) (returned : Option (ℕ × Gen)) → IsAscending cursor → IsAdvance es cursor returned after → IsAscending after
    still_ascending (Up i) after None up is = subst IsAscending (sym is.moves) tt
    still_ascending (Up i) after (Some p) up is = subst IsAscending (sym is.moves) tt
    still_ascending (Down i) after returned up is = absurd up
    still_ascending Nowhere after None up is = subst IsAscending (sym is.moves) tt
    still_ascending Nowhere after (Some p) up is = subst IsAscending (sym is.moves) tt

    pub yields_first : (cursor after : Cursor) (p : ℕ × Gen) → IsAscending cursor → IsAdvance es cursor (Some p) after → pointers (ahead cursor es) ≡ p ∷ pointers (ahead after es)
    yields_first (Up i) after p up is = first_and_rest i 1 p es ascends is.first ∙ ap (λ (c : Cursor). p ∷ pointers (ahead c es)) (sym is.moves)
    yields_first (Down i) after p up is = absurd up
    yields_first Nowhere after p up is = absurd (let first = is.first in cc)

    pub yields_none : (cursor after : Cursor) → IsAscending cursor → IsAdvance es cursor None after → (pointers (ahead cursor es) ≡ []) × (pointers (ahead after es) ≡ [])
    yields_none cursor after up is = (none (ahead cursor es) is.first, ap (λ (c : Cursor). pointers (ahead c es)) is.moves)
      where
        none : (ds : List ((ℕ × Gen) × T)) → None ≡ first_key ds → pointers ds ≡ []
        none [] first = refl
        none (d ∷ ds) first = absurd (cc)

    pub all_ahead : pointers (ahead (Up 1) es) ≡ pointers es
    all_ahead = ap pointers (entries_at_or_above-ascends 1 1 es (omega arith) ascends)

    pub yields : {P : Type 0} (key : P → ℕ × Gen) (cursor after : Cursor) (r : Option P) → IsAscending cursor → IsAdvance es cursor (option_map key r) after
        → YieldsFirstBy key (λ rest. rest) (pointers (ahead cursor es)) r (pointers (ahead after es))
    yields key cursor after None up is = yields_none cursor after up is
    yields key cursor after (Some p) up is = yields_first cursor after (key p) up is

pub goes_on : {P X : Type 0} (key : P → X) (can : List X → Type 0) → ((l : List X) → can l) → (s : List X) (r : Option P) (t : List X) → YieldsFirstBy key (λ rest. rest) s r t → MakesProgress can (item_count (λ rest. rest)) s r t
goes_on key can may s None t is = record { on = λ finite. tt; keeps = tt; rests = λ finite. tt }
goes_on key can may s (Some p) t is = record { on = λ finite. (may t, tt, omega (arith, ap length is)); keeps = may t; rests = λ finite. tt }
