use Rattle.std.specs.Prelude.{◌≡◌, ℕ, zero, suc, ◌+◌, ◌<◌, ◌≤◌, cond, List, [], ◌∷◌, Option, None, Some, slice_index_or}
use Rattle.std.proofs.Common.{refl, ap, ◌∙◌, arith}
use Rattle.std.proofs.lemmas.Bool.{eq-eqb, ne_eqb}
use Rattle.arena_traits.specs.Arena.{Arena, entry_at}
use Rattle.arena_traits.specs.Entries.{ArenaState, view_of, entries_from, entries, found, AscendsFrom}

module _ {Gen T : Type 0} where
  ascends_later : (i j : ℕ) (slots : List (Option (Gen × T))) → i ≤ j → AscendsFrom i (entries_from j slots)
  ascends_later i j [] below = tt
  ascends_later i j (None ∷ slots) below = ascends_later i (suc j) slots (omega (arith, below))
  ascends_later i j (Some e ∷ slots) below = (below, ascends_later (suc j) (suc j) slots (omega arith))

  pub entries_ascend : (a : Arena Gen T) → AscendsFrom 1 (entries a)
  entries_ascend a = ascends_later 1 1 a.slots (omega arith)

  pub found-below : (i j : ℕ) (slots : List (Option (Gen × T))) → i < j → found i (entries_from j slots) ≡ None
  found-below i j [] below = refl
  found-below i j (None ∷ slots) below = found-below i (suc j) slots (omega (arith, below))
  found-below i j (Some e ∷ slots) below =
      ap (λ b. cond b (Some (e.0, e.1)) (found i (entries_from (suc j) slots))) (ne_eqb j i (λ is. omega (arith, below, is))) ∙ found-below i (suc j) slots (omega (arith, below))

  pub found-entries_from : (i j k : ℕ) (slots : List (Option (Gen × T))) → j + k ≡ i → found i (entries_from j slots) ≡ slice_index_or slots k None
  found-entries_from i j k [] at = refl
  found-entries_from i j zero (None ∷ slots) at = found-below i (suc j) slots (omega (arith, at))
  found-entries_from i j (suc k) (None ∷ slots) at = found-entries_from i (suc j) k slots (omega (arith, at))
  found-entries_from i j zero (Some e ∷ slots) at = ap (λ b. cond b (Some (e.0, e.1)) (found i (entries_from (suc j) slots))) (eq-eqb j i (omega (arith, at)))
  found-entries_from i j (suc k) (Some e ∷ slots) at =
      ap (λ b. cond b (Some (e.0, e.1)) (found i (entries_from (suc j) slots))) (ne_eqb j i (λ is. omega (arith, at, is))) ∙ found-entries_from i (suc j) k slots (omega (arith, at))

  pub found-entries : (a : Arena Gen T) (i : ℕ) → found i (entries a) ≡ entry_at a i
  found-entries a zero = found-below 0 1 a.slots (omega arith)
  found-entries a (suc k) = found-entries_from (suc k) 1 k a.slots (omega arith)

  abbrev pub arena_state : (a : Arena Gen T) → ArenaState (view_of a) (entry_at a)
  arena_state a = record { ascends = entries_ascend a; finds = found-entries a }
