-- The contents of a table into which moves were written.
use Rattle.std.proofs.Common.{◌≡◌, ◌≢◌, ℕ, zero, suc, ◌+◌, ◌<◌, ◌≤◌, ◌⊎◌, inl, inr, ⊎_elim, List, [], ◌∷◌, length, map, take, get_or, replicate, slice_index_or, Contains, Option, None, Some, refl, sym, ap, ◌∙◌, subst, arith}
use Rattle.std.specs.List.{AllByRecursion}
use Rattle.std.proofs.Math.Decide.{ℕ_discrete}
use Rattle.std.proofs.lemmas.List.{length-replicate}
use Rattle.std.proofs.lemmas.List.Sums.{fold_more}
use Rattle.std.proofs.lemmas.List.Elements.{Contains-append_right}
use Rattle.chain_laws.specs.Chains.{IsMember, AreDistinct}
use Rattle.chain_laws.proofs.InterlinkLemmas.Inverses.{if_same, if_other}
use Rattle.arena_traits.specs.Arena.{slot_at}
use Rattle.arena_traits.proofs.ArenaViewLemmas.{length-with_slot}
use Rattle.arena_traits.proofs.InsertionLemmas.{slot_at-written}
use Rattle.chain_renumbering.specs.MoveTables.{stored_for, with_move, with_moves}

none_stored : {X : Type 0} (n i : ℕ) → ◌≡◌ {A = Option X} (slot_at (replicate n None) i) None
none_stored {X} n zero = refl
none_stored {X} n (suc k) = by n k where
  by : (m j : ℕ) → ◌≡◌ {A = Option X} (slice_index_or (replicate m None) j None) None
  by zero j = refl
  by (suc m) zero = refl
  by (suc m) (suc j) = by m j

module _ {P Gen : Type 0} (key : P → ℕ × Gen) where
  abbrev pub from_index : P × P → ℕ
  from_index m = (key m.0).0

  pub note_more : (table : List (Option (Gen × P))) (moves : List (P × P)) (i : ℕ) (m : P × P) → i < length moves → m ≡ get_or moves i m
      → with_move key (with_moves key table (take i moves)) m ≡ with_moves key table (take (i + 1) moves)
  note_more table moves i m below is = ap (with_move key (with_moves key table (take i moves))) is ∙ sym (fold_more (with_move key) table moves i m below)

  abbrev pub HasPlaces : ℕ → List (P × P) → Type 0
  HasPlaces n = AllByRecursion (λ m. (1 ≤ from_index m) × (from_index m ≤ n))

  abbrev pub IsStoredFor : List (P × P) → ℕ → Gen × P → Type 0
  IsStoredFor moves i e = (m : P × P) × Contains moves m × (from_index m ≡ i) × (stored_for key m ≡ e)

  pub record IsTable (moves : List (P × P)) (table : List (Option (Gen × P))) : Type 0 where
    pub has : (m : P × P) → Contains moves m → slot_at table (from_index m) ≡ Some (stored_for key m)
    pub only : (i : ℕ) (e : Gen × P) → slot_at table i ≡ Some e → IsStoredFor moves i e

  module _ (n : ℕ) where
    stays : (table : List (Option (Gen × P))) (m : P × P) → length table ≡ n → length (with_move key table m) ≡ n
    stays table m long = length-with_slot table (from_index m) (Some (stored_for key m)) ∙ long

    there : (table : List (Option (Gen × P))) (m : P × P) → length table ≡ n → (1 ≤ from_index m) × (from_index m ≤ n) → slot_at (with_move key table m) (from_index m) ≡ Some (stored_for key m)
    there table m long within = slot_at-written table (from_index m) (from_index m) (Some (stored_for key m)) within.0 (omega (arith, long, within.1)) ∙ if_same (from_index m) (from_index m) _ _ refl

    elsewhere : (table : List (Option (Gen × P))) (m : P × P) (i : ℕ) → length table ≡ n → (1 ≤ from_index m) × (from_index m ≤ n) → i ≢ from_index m → slot_at (with_move key table m) i ≡ slot_at table i
    elsewhere table m i long within other = slot_at-written table (from_index m) i (Some (stored_for key m)) within.0 (omega (arith, long, within.1)) ∙ if_other i (from_index m) _ _ other

    keeps : (table : List (Option (Gen × P))) (moves : List (P × P)) (i : ℕ) → length table ≡ n → HasPlaces n moves → (IsMember (map from_index moves) i → ⊥) → slot_at (with_moves key table moves) i ≡ slot_at table i
    keeps table [] i long within absent = refl
    keeps table (m ∷ moves) i long within absent =
        keeps (with_move key table m) moves i (stays table m long) within.1 (λ has. absent (inr has)) ∙ elsewhere table m i long within.0 (λ is. absent (inl (sym is)))

    noted_has : (table : List (Option (Gen × P))) (moves : List (P × P)) (m : P × P) (k : ℕ) → length table ≡ n → HasPlaces n moves → AreDistinct (map from_index moves)
        → k < length moves → slice_index_or moves k m ≡ m → slot_at (with_moves key table moves) (from_index m) ≡ Some (stored_for key m)
    noted_has table [] m k long within apart below is = absurd (omega (arith, below))
    noted_has table (x ∷ moves) m zero long within apart below is =
        let index = ap from_index is in
        keeps (with_move key table x) moves (from_index m) (stays table x long) within.1 (λ has. apart.0 (subst (IsMember (map from_index moves)) (sym index) has))
        ∙ (subst (λ (i : ℕ). slot_at (with_move key table x) i ≡ Some (stored_for key x)) index (there table x long within.0) ∙ ap (λ (y : P × P). Some (stored_for key y)) is)
    noted_has table (x ∷ moves) m (suc k) long within apart below is =
        noted_has (with_move key table x) moves m k (stays table x long) within.1 apart.1 (omega (arith, below)) is

    noted_only : (table : List (Option (Gen × P))) (moves : List (P × P)) (i : ℕ) (e : Gen × P) → length table ≡ n → HasPlaces n moves → slot_at (with_moves key table moves) i ≡ Some e → (slot_at table i ≡ Some e) ⊎ IsStoredFor moves i e
    noted_only table [] i e long within is = inl is
    noted_only table (x ∷ moves) i e long within is =
        ⊎_elim (by (ℕ_discrete i (from_index x))) (λ has. inr (has.0, Contains-append_right (x ∷ []) moves has.0 has.1, has.2, has.3)) (noted_only (with_move key table x) moves i e (stays table x long) within.1 is)
      where
        by : Dec (i ≡ from_index x) → slot_at (with_move key table x) i ≡ Some e → (slot_at table i ≡ Some e) ⊎ IsStoredFor (x ∷ moves) i e
        by (yes same) stored =
            let both : Some (stored_for key x) ≡ Some e = sym (there table x long within.0) ∙ (ap (slot_at (with_move key table x)) (sym same) ∙ stored) in
            inr (x, (0, omega arith, refl), sym same, cc)
        by (no other) stored = inl (sym (elsewhere table x i long within.0 other) ∙ stored)

    pub noted_table : (moves : List (P × P)) → HasPlaces n moves → AreDistinct (map from_index moves) → IsTable moves (with_moves key (replicate n None) moves)
    noted_table moves within apart = record {
      has = λ m has. noted_has (replicate n None) moves m has.0 (length-replicate n None) within apart has.1 has.2;
      only = λ i e is. ⊎_elim (λ was_stored. absurd (let none = sym (none_stored n i) ∙ was_stored in cc)) (λ has. has) (noted_only (replicate n None) moves i e (length-replicate n None) within is);
    }
