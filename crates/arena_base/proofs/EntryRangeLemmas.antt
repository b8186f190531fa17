-- Entries of slots from a position on, or up to one.
use Rattle.std.proofs.Common.{◌≡◌, ℕ, zero, suc, ◌+◌, ◌-◌, ◌<◌, ◌≤◌, cond, List, [], ◌∷◌, ◌++◌, length, take, drop, Option, None, Some, refl, ap, sym, ◌∙◌, arith}
use Rattle.std.specs.Prelude.{slice_index_or}
use Rattle.std.specs.Option.{option_map}
use Rattle.std.proofs.lemmas.List.{append-nil, reverse-append}
use Rattle.std.proofs.lemmas.Bool.{le-leb, lt-leb}
use Rattle.arena_traits.specs.Arena.{slot_at}
use Rattle.arena_traits.specs.Entries.{entries_from, key_at, first_key, last_key, IsNextEntry}
use Rattle.arena_traits.specs.Advancers.{entries_at_or_above, entries_at_or_below}

abbrev pub first_of : {K : Type 0} → Option K → Option K → Option K
first_of None rest = rest
first_of (Some p) rest = Some p

module _ {Gen T : Type 0} where
  abbrev pub entry_list : ℕ → Option (Gen × T) → List ((ℕ × Gen) × T)
  entry_list i None = []
  entry_list i (Some e) = ((i, e.0), e.1) ∷ []

  pub entries_from-take : (slots : List (Option (Gen × T))) (i k n : ℕ) → k < length slots → i + k ≡ n
      → entries_from i (take (suc k) slots) ≡ entries_from i (take k slots) ++ entry_list n (slice_index_or slots k None)
  entries_from-take [] i k n below at = absurd (omega (arith, below))
  entries_from-take (None ∷ slots) i zero n below at = refl
  entries_from-take (Some e ∷ slots) i zero n below at = let same : i ≡ n = omega (arith, at) in ap (λ m. ((m, e.0), e.1) ∷ []) same
  entries_from-take (None ∷ slots) i (suc k) n below at = entries_from-take slots (suc i) k n (omega (arith, below)) (omega (arith, at))
  entries_from-take (Some e ∷ slots) i (suc k) n below at = ap (λ es. ((i, e.0), e.1) ∷ es) (entries_from-take slots (suc i) k n (omega (arith, below)) (omega (arith, at)))

  pub last_key-take : (slots : List (Option (Gen × T))) (k n : ℕ) → k < length slots → 1 + k ≡ n
      → last_key (entries_from 1 (take (suc k) slots)) ≡ first_of (option_map (key_at n) (slice_index_or slots k None)) (last_key (entries_from 1 (take k slots)))
  last_key-take slots k n below at = ap last_key (entries_from-take slots 1 k n below at) ∙ last_key-of (entries_from 1 (take k slots)) (slice_index_or slots k None)
    where
      last_key-of : (es : List ((ℕ × Gen) × T)) (o : Option (Gen × T)) → last_key (es ++ entry_list n o) ≡ first_of (option_map (key_at n) o) (last_key es)
      last_key-of es None = ap last_key (append-nil es)
      last_key-of es (Some e) = ap first_key (reverse-append es (((n, e.0), e.1) ∷ []))

  pub take-all : (slots : List (Option (Gen × T))) (i k : ℕ) → length slots ≤ k → entries_from i (take k slots) ≡ entries_from i slots
  take-all [] i zero past = refl
  take-all [] i (suc k) past = refl
  take-all (s ∷ slots) i zero past = absurd (omega (arith, past))
  take-all (None ∷ slots) i (suc k) past = take-all slots (suc i) k (omega (arith, past))
  take-all (Some e ∷ slots) i (suc k) past = ap (λ es. ((i, e.0), e.1) ∷ es) (take-all slots (suc i) k (omega (arith, past)))

  entries_at_or_above-all : (slots : List (Option (Gen × T))) (i j : ℕ) → i ≤ j → entries_at_or_above i (entries_from j slots) ≡ entries_from j slots
  entries_at_or_above-all [] i j below = refl
  entries_at_or_above-all (None ∷ slots) i j below = entries_at_or_above-all slots i (suc j) (omega (arith, below))
  entries_at_or_above-all (Some e ∷ slots) i j below =
      ap (λ b. cond b (((j, e.0), e.1) ∷ entries_from (suc j) slots) (entries_at_or_above i (entries_from (suc j) slots))) (le-leb i j below)

  pub entries_at_or_above-drop : (slots : List (Option (Gen × T))) (i j k : ℕ) → j + k ≡ i → entries_at_or_above i (entries_from j slots) ≡ entries_from i (drop k slots)
  entries_at_or_above-drop slots i j zero at = let same : i ≡ j = omega (arith, at) in entries_at_or_above-all slots i j (omega (arith, at)) ∙ ap (λ n. entries_from n slots) (sym same)
  entries_at_or_above-drop [] i j (suc k) at = refl
  entries_at_or_above-drop (None ∷ slots) i j (suc k) at = entries_at_or_above-drop slots i (suc j) k (omega (arith, at))
  entries_at_or_above-drop (Some e ∷ slots) i j (suc k) at =
      ap (λ b. cond b (((j, e.0), e.1) ∷ entries_from (suc j) slots) (entries_at_or_above i (entries_from (suc j) slots))) (lt-leb i j (omega (arith, at)))
      ∙ entries_at_or_above-drop slots i (suc j) k (omega (arith, at))

  entries_at_or_below-none : (slots : List (Option (Gen × T))) (i j : ℕ) → i < j → entries_at_or_below i (entries_from j slots) ≡ []
  entries_at_or_below-none [] i j below = refl
  entries_at_or_below-none (None ∷ slots) i j below = entries_at_or_below-none slots i (suc j) (omega (arith, below))
  entries_at_or_below-none (Some e ∷ slots) i j below =
      ap (λ b. cond b (((j, e.0), e.1) ∷ entries_at_or_below i (entries_from (suc j) slots)) []) (lt-leb j i below)

  pub entries_at_or_below-take : (slots : List (Option (Gen × T))) (i j k : ℕ) → j + k ≡ suc i → entries_at_or_below i (entries_from j slots) ≡ entries_from j (take k slots)
  entries_at_or_below-take slots i j zero at = entries_at_or_below-none slots i j (omega (arith, at))
  entries_at_or_below-take [] i j (suc k) at = refl
  entries_at_or_below-take (None ∷ slots) i j (suc k) at = entries_at_or_below-take slots i (suc j) k (omega (arith, at))
  entries_at_or_below-take (Some e ∷ slots) i j (suc k) at =
      ap (λ b. cond b (((j, e.0), e.1) ∷ entries_at_or_below i (entries_from (suc j) slots)) []) (le-leb j i (omega (arith, at)))
      ∙ ap (λ es. ((j, e.0), e.1) ∷ es) (entries_at_or_below-take slots i (suc j) k (omega (arith, at)))

  pub last_key-step : (slots : List (Option (Gen × T))) (k n : ℕ) (o : Option (ℕ × Gen)) → k + 1 ≡ n → k < length slots → o ≡ option_map (key_at (k + 1)) (slice_index_or slots k None)
      → last_key (entries_from 1 (take n slots)) ≡ first_of o (last_key (entries_from 1 (take k slots)))
  last_key-step slots k n o at below is =
      let next : suc k ≡ n = omega (arith, at) in
      ap (λ m. last_key (entries_from 1 (take m slots))) (sym next)
      ∙ (last_key-take slots k (k + 1) below (omega arith) ∙ ap (λ p. first_of p (last_key (entries_from 1 (take k slots)))) (sym is))

  pub ahead_up : (slots : List (Option (Gen × T))) (from k : ℕ) → k ≡ from - 1 → entries_from (k + 1) (drop k slots) ≡ entries_at_or_above from (entries_from 1 slots)
  ahead_up slots zero k at =
      let start : k ≡ 0 = omega (arith, at) in
      ap (λ j. entries_from (j + 1) (drop j slots)) start ∙ (ap (λ j. entries_from j slots) (one 1) ∙ sym (entries_at_or_above-all slots 0 1 (omega arith)))
    where
      one : (n : ℕ) → 0 + n ≡ n
      one n = omega arith
  ahead_up slots (suc n) k at =
      let next : k + 1 ≡ suc n = omega (arith, at) in
      ap (λ j. entries_from j (drop k slots)) next ∙ sym (entries_at_or_above-drop slots (suc n) 1 k (omega (arith, next)))

  pub ahead_down : (slots : List (Option (Gen × T))) (to : ℕ) → entries_from 1 (take to slots) ≡ entries_at_or_below to (entries_from 1 slots)
  ahead_down slots to = sym (entries_at_or_below-take slots to 1 to (omega arith))

  entries_from-drop : (slots : List (Option (Gen × T))) (i k : ℕ) → k < length slots
      → entries_from i (drop k slots) ≡ entry_list i (slice_index_or slots k None) ++ entries_from (suc i) (drop (suc k) slots)
  entries_from-drop [] i k below = absurd (omega (arith, below))
  entries_from-drop (None ∷ slots) i zero below = refl
  entries_from-drop (Some e ∷ slots) i zero below = refl
  entries_from-drop (s ∷ slots) i (suc k) below = entries_from-drop slots i k (omega (arith, below))

  pub entries_from-past : (slots : List (Option (Gen × T))) (i k : ℕ) → length slots ≤ k → entries_from i (drop k slots) ≡ []
  entries_from-past [] i zero past = refl
  entries_from-past [] i (suc k) past = refl
  entries_from-past (s ∷ slots) i zero past = absurd (omega (arith, past))
  entries_from-past (s ∷ slots) i (suc k) past = entries_from-past slots i k (omega (arith, past))

  pub entries_from-step : (slots : List (Option (Gen × T))) (k n : ℕ) → suc k ≡ n → k < length slots → None ≡ option_map (key_at n) (slice_index_or slots k None)
      → entries_from n (drop k slots) ≡ entries_from (n + 1) (drop n slots)
  entries_from-step slots k n at below none =
      let more : suc n ≡ n + 1 = omega arith in
      entries_from-drop slots n k below
      ∙ (ap (λ o. entry_list n o ++ entries_from (suc n) (drop (suc k) slots)) (is_none (slice_index_or slots k None) none) ∙ (λ i. entries_from (more i) (drop (at i) slots)))
    where
      is_none : (o : Option (Gen × T)) → None ≡ option_map (key_at n) o → o ≡ None
      is_none None is = refl
      is_none (Some e) is = absurd (cc)

  pub next_entry : (slots : List (Option (Gen × T))) (from k n : ℕ) (p : ℕ × Gen) (t : T) → suc k ≡ n → k < length slots → entries_from (from + 1) (drop from slots) ≡ entries_from n (drop k slots)
      → Some p ≡ option_map (key_at n) (slice_index_or slots k None) → Some t ≡ option_map (λ e. e.1) (slice_index_or slots k None) → IsNextEntry slots from n p t
  next_entry slots from k n p t at below same key value =
      let more : suc n ≡ n + 1 = omega arith in
      let there = is_some (slice_index_or slots k None) key value in
      record {
        index = there.0;
        stored = ap (slot_at slots) (sym at) ∙ there.1;
        first = same
            ∙ (entries_from-drop slots n k below
            ∙ (ap (λ o. entry_list n o ++ entries_from (suc n) (drop (suc k) slots)) there.1 ∙ (λ i. ((sym there.0 i, p.1), t) ∷ entries_from (more i) (drop (at i) slots))));
      }
    where
      is_some : (o : Option (Gen × T)) → Some p ≡ option_map (key_at n) o → Some t ≡ option_map (λ e. e.1) o → (p.0 ≡ n) × (o ≡ Some (p.1, t))
      is_some None key value = absurd (cc)
      is_some (Some e) key value =
          let pointer : p ≡ (n, e.0) = cc in
          let item : t ≡ e.1 = cc in
          (ap (λ q. q.0) pointer, λ i. Some ((sym pointer i).1, sym item i))

  pub next_entry-step : (slots : List (Option (Gen × T))) (from k n : ℕ) (p : ℕ × Gen) (t : T) → entries_from (from + 1) (drop from slots) ≡ entries_from (k + 1) (drop k slots) → IsNextEntry slots k n p t → IsNextEntry slots from n p t
  next_entry-step slots from k n p t same next = record { index = next.index; stored = next.stored; first = same ∙ next.first }
