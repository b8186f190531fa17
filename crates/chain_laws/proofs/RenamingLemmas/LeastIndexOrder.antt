-- The least-index order exists, and links in canonical order are in it.
use Rattle.std.proofs.Common.{◌≡◌, ◌≢◌, ℕ, zero, suc, ◌+◌, ◌<◌, ◌≤◌, inl, inr, List, [], ◌∷◌, ◌++◌, length, Some, refl, sym, ap, ◌∙◌, subst, arith}
use Rattle.std.specs.List.{range_with_len}
use Rattle.chain_laws.specs.Chains.{Chain, linear, cyclic, items, HasChain, all_items, IsMember, StartsAtLeast, IsSortedByLeast, IsInOrder}
use Rattle.std.proofs.Math.Decide.{ℕ_discrete}
use Rattle.chain_laws.specs.Renamings.{IsRenaming}
use Rattle.chain_laws.specs.Arrangements.{place_from, place_in, in_runs, LayoutIsIdempotent, PlacesRest, HasLeastIndexOrder, LeastIndexOrderIsUnique, LeastIndexOrderIsCanonical, LeastIndexOrderRests}
use Rattle.chain_laws.proofs.ListLemmas.Members.{IsMember-left, IsMember-right}
use Rattle.chain_laws.proofs.ChainLemmas.Uniqueness.{IsMember-at_most, chain_filled}
use Rattle.chain_laws.proofs.ChainLemmas.NeighborPairs.{partitions, interlinks, chains_from_pairs}
use Rattle.chain_laws.proofs.ChainLemmas.Partitions.{the_chains}
use Rattle.chain_laws.proofs.RenamingLemmas.Positions.{place-first, place-other}
use Rattle.chain_laws.proofs.RenamingLemmas.ChainRuns.{arranges_chains_in_runs}

pub has_least_index_order : HasLeastIndexOrder
has_least_index_order link_map slots agrees within =
    let all = the_chains link_map slots agrees within in
    (all_items all.0, record { chains = all.0; are = all.1; items = refl })

pub least_index_order_is_ordered : LeastIndexOrderIsUnique
least_index_order_is_ordered link_map one indexes = (
  (λ order. order.items ∙ ap all_items (one.only order.chains order.are)),
  (λ e. record { chains = one.chains; are = one.are; items = e }),
)

pub least_index_order_is_canonical : LeastIndexOrderIsCanonical
least_index_order_is_canonical link_map indexes order = record {
  chains = order.chains;
  are = chains_from_pairs link_map order.chains order.are.partition order.are.interlinks;
  items = order.items;
}

abbrev pub IsAscending : List ℕ → Type 0
IsAscending [] = Unit {0}
IsAscending (x ∷ xs) = ((y : ℕ) → IsMember xs y → x < y) × IsAscending xs

ascending-left : (xs ys : List ℕ) → IsAscending (xs ++ ys) → IsAscending xs
ascending-left [] ys ascending = tt
ascending-left (x ∷ xs) ys ascending = (λ y h. ascending.0 y (IsMember-left xs ys y h), ascending-left xs ys ascending.1)

ascending-right : (xs ys : List ℕ) → IsAscending (xs ++ ys) → IsAscending ys
ascending-right [] ys ascending = ascending
ascending-right (x ∷ xs) ys ascending = ascending-right xs ys ascending.1

run_low : (k n y : ℕ) → IsMember (range_with_len k n) y → k ≤ y
run_low k zero y h = absurd h
run_low k (suc n) y (inl e) = let same : k ≡ y = e in omega arith
run_low k (suc n) y (inr h) = let low : k + 1 ≤ y = run_low (k + 1) n y h in omega arith

pub run_ascends : (k n : ℕ) → IsAscending (range_with_len k n)
run_ascends k zero = tt
run_ascends k (suc n) = (λ y h. let low : k + 1 ≤ y = run_low (k + 1) n y h in omega arith, run_ascends (k + 1) n)

ascending_each : (chains : List Chain) (c : Chain) → IsAscending (all_items chains) → HasChain chains c → IsAscending (items c)
ascending_each [] c ascending m = absurd m
ascending_each (d ∷ chains) c ascending (inl e) = subst (λ (x : Chain). IsAscending (items x)) e (ascending-left (items d) (all_items chains) ascending)
ascending_each (d ∷ chains) c ascending (inr m) = ascending_each chains c (ascending-right (items d) (all_items chains) ascending) m

ascending_written : (c : Chain) → IsAscending (items c) → StartsAtLeast c
ascending_written (linear xs) ascending = tt
ascending_written (cyclic []) ascending = tt
ascending_written (cyclic (x ∷ xs)) ascending = IsMember-at_most x xs (λ y h. let above : x < y = ascending.0 y h in omega arith)

ascending_below : (xs ys : List ℕ) → xs ≢ [] → IsAscending (xs ++ ys) → (m : ℕ) × IsMember xs m × ((y : ℕ) → IsMember ys y → m < y)
ascending_below [] ys filled ascending = absurd (filled refl)
ascending_below (x ∷ xs) ys filled ascending = (x, inl refl, λ y h. ascending.0 y (IsMember-right xs ys y h))

order_ascends : (chains : List Chain) → ((c : Chain) → HasChain chains c → items c ≢ []) → IsAscending (all_items chains) → IsSortedByLeast chains
order_ascends [] filled ascending = tt
order_ascends (c ∷ chains) filled ascending = (
  ascending_below (items c) (all_items chains) (filled c (inl refl)) ascending,
  order_ascends chains (λ d m. filled d (inr m)) (ascending-right (items c) (all_items chains) ascending),
)

pub ascending_in_order : (chains : List Chain) → ((c : Chain) → HasChain chains c → items c ≢ []) → IsAscending (all_items chains) → IsInOrder chains
ascending_in_order chains filled ascending = record { written = λ c m. ascending_written c (ascending_each chains c ascending m); ascends = order_ascends chains filled ascending }

pub least_index_order_rests : LeastIndexOrderRests
least_index_order_rests link_map n canonical = record {
  chains = canonical.chains;
  are = record {
    partition = partitions link_map canonical.chains canonical.are;
    interlinks = interlinks link_map canonical.chains canonical.are;
    order = ascending_in_order canonical.chains (λ c m. chain_filled link_map c (canonical.are.each c m)) (subst IsAscending canonical.items (run_ascends 1 n));
  };
  items = canonical.items;
}

pub layout_is_idempotent : LayoutIsIdempotent
layout_is_idempotent old new indexes order renaming =
    let runs =
    arranges_chains_in_runs old new order.chains (chains_from_pairs old order.chains order.are.partition order.are.interlinks)
    (subst (λ (is : List ℕ). IsRenaming (place_in is) old new) order.items renaming) in
    least_index_order_rests new (length indexes) (record {
      chains = in_runs 1 order.chains;
      are = runs.0;
      items = ap (λ (is : List ℕ). range_with_len 1 (length is)) order.items ∙ sym runs.1;
    })

run_rests : (k n i : ℕ) → k ≤ i → i < k + n → place_from k (range_with_len k n) i ≡ Some i
run_rests k zero i low high = absurd (omega (arith, low, high))
run_rests k (suc n) i low high = by (ℕ_discrete k i) (λ above. run_rests (suc k) n i above (omega (arith, high)))
  where
    by : Dec (k ≡ i) → (suc k ≤ i → place_from (suc k) (range_with_len (suc k) n) i ≡ Some i) → place_from k (range_with_len k (suc n)) i ≡ Some i
    by (yes same) rest = place-first k k (range_with_len (k + 1) n) i same ∙ ap (λ (m : ℕ). Some m) same
    by (no differs) rest =
        place-other k k (range_with_len (k + 1) n) i differs
        ∙ (ap (λ (m : ℕ). place_from (suc k) (range_with_len m n) i) (let next : k + 1 ≡ suc k = omega arith in next) ∙ rest (omega (arith, low, differs)))

pub places_rest : PlacesRest
places_rest n i low high = run_rests 1 n i low (omega (arith, high))
