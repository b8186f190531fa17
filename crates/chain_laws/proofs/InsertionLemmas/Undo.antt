-- The removal of a link inserted next to another undoes the insertion.
use Rattle.std.specs.Prelude.{◌≡◌, ◌≢◌, ℕ, ◌⊎◌, Option, None, Some}
use Rattle.std.proofs.Common.{sym, refl, ap, ◌∙◌, subst, inl, inr, ⊎_elim}
use Rattle.chain_laws.specs.Chains.{LinkMap, HasLink, IsWellLinked, prev_of, next_of}
use Rattle.chain_laws.specs.Neighbors.{AreNeighbors}
use Rattle.chain_laws.specs.Removals.{with_removal, RemovesPairs}
use Rattle.chain_laws.specs.Insertions.{with_insertion, IsInsertPosition, InsertsPairs, RemovalOfInsertedRestores}
use Rattle.chain_laws.proofs.InterlinkLemmas.Inverses.{one_some}
use Rattle.chain_laws.proofs.ChainLemmas.LinkedLists.{next_valid, prev_valid}
use Rattle.chain_laws.proofs.InterlinkLemmas.Skips.{IsPairPast, names_or_not}
use Rattle.chain_laws.proofs.InterlinkLemmas.Puts.{IsPairAround}
use Rattle.chain_laws.proofs.RemovalLemmas.Pairs.{removed_agrees, removed_in_pairs}
use Rattle.chain_laws.proofs.ChainLemmas.Determinacy.{pairs_decide}
use Rattle.chain_laws.proofs.InsertionLemmas.Pairs.{free_invalid, position_after, position_before, position_between, next_puts, prev_puts, inserted_agrees, inserted_in_pairs}

removed_of_inserted : (link_map : LinkMap) (q : ℕ) (u v : Option ℕ) → IsWellLinked link_map → link_map q ≡ None → IsInsertPosition link_map q u v
    → ((i j : ℕ) → u ≡ Some i → v ≡ Some j → AreNeighbors link_map i j) → with_removal (with_insertion link_map q u v) q ≡ link_map
removed_of_inserted link_map q u v agrees free position beside =
    pairs_decide (with_removal (with_insertion link_map q u v) q) link_map (removed_agrees (with_insertion link_map q u v) q with_q) agrees
    (λ i. (λ w. valid_there i ((removes.links i).0 w), λ w. (removes.links i).1 ((inserts.links i).1 (inl w), not_q i w)))
    (λ i j. (λ e. there i j ((removes.pairs i j).0 e), λ e. (removes.pairs i j).1 (back i j e (names_or_not u i) (names_or_not v j))))
  where
    with_q : IsWellLinked (with_insertion link_map q u v)
    with_q = inserted_agrees link_map q u v agrees free position

    inserts : InsertsPairs link_map (with_insertion link_map q u v) q u v
    inserts = inserted_in_pairs link_map q u v agrees free position

    removes : RemovesPairs (with_insertion link_map q u v) (with_removal (with_insertion link_map q u v) q) q
    removes = removed_in_pairs (with_insertion link_map q u v) q with_q

    after_q : next_of (with_insertion link_map q u v) q ≡ v
    after_q = (next_puts link_map q u v free (position_between link_map q u v agrees free position)).here

    before_q : prev_of (with_insertion link_map q u v) q ≡ u
    before_q = (prev_puts link_map q u v free (position_between link_map q u v agrees free position)).here

    not_q : (i : ℕ) → HasLink link_map i → i ≢ q
    not_q i valid e = free_invalid link_map q free (subst (HasLink link_map) e valid)

    not_first : (i j : ℕ) → AreNeighbors link_map i j → i ≢ q
    not_first i j e = not_q i (next_valid link_map i j e)

    not_second : (i j : ℕ) → AreNeighbors link_map i j → j ≢ q
    not_second i j e = not_q j (prev_valid link_map j i ((agrees.both i j).0 e))

    valid_there : (i : ℕ) → HasLink (with_insertion link_map q u v) i × (i ≢ q) → HasLink link_map i
    valid_there i p = ⊎_elim (λ valid. valid) (λ e. absurd (p.1 e)) ((inserts.links i).0 p.0)

    away : (i j : ℕ) → i ≢ q → j ≢ q → IsPairAround (next_of link_map) q u v i j → AreNeighbors link_map i j
    away i j not_i not_j (inl p) = p.0
    away i j not_i not_j (inr (inl p)) = absurd (not_j p.1)
    away i j not_i not_j (inr (inr p)) = absurd (not_i p.0)

    there : (i j : ℕ) → IsPairPast (next_of (with_insertion link_map q u v)) (prev_of (with_insertion link_map q u v)) q i j → AreNeighbors link_map i j
    there i j (inl p) = away i j p.1 p.2 ((inserts.pairs i j).0 p.0)
    there i j (inr p) = beside i j (sym before_q ∙ p.0) (sym after_q ∙ p.1)

    back : (i j : ℕ) → AreNeighbors link_map i j → (u ≡ Some i) ⊎ (u ≢ Some i) → (v ≡ Some j) ⊎ (v ≢ Some j)
        → IsPairPast (next_of (with_insertion link_map q u v)) (prev_of (with_insertion link_map q u v)) q i j
    back i j e (inl at_u) (inl at_v) = inr (before_q ∙ at_u, after_q ∙ at_v, not_first i j e, not_second i j e)
    back i j e (inl at_u) (inr not_v) = inl ((inserts.pairs i j).1 (inl (e, λ p. not_v p.1)), not_first i j e, not_second i j e)
    back i j e (inr not_u) _ = inl ((inserts.pairs i j).1 (inl (e, λ p. not_u p.0)), not_first i j e, not_second i j e)

pub removed_of_inserted_restores : RemovalOfInsertedRestores
removed_of_inserted_restores link_map a q agrees valid free = (
  removed_of_inserted link_map q (Some a) (next_of link_map a) agrees free (position_after link_map a q (next_of link_map a) valid refl)
      (λ i j s e. ap (next_of link_map) (sym (one_some s)) ∙ e),
  removed_of_inserted link_map q (prev_of link_map a) (Some a) agrees free (position_before link_map a q (prev_of link_map a) agrees valid refl)
      (λ i j e s. (agrees.both i j).1 (ap (prev_of link_map) (sym (one_some s)) ∙ e)),
)
