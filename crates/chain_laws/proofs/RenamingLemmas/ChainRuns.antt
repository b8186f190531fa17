-- Chains one after another are an arrangement, whose renumbering puts each in a run.
use Rattle.std.proofs.Common.{◌≡◌, ℕ, zero, suc, ◌+◌, List, [], ◌∷◌, ◌++◌, length, refl, sym, ap, ap₂, ◌∙◌, subst, length-append, arith}
use Rattle.std.specs.List.{range_with_len}
use Rattle.chain_laws.specs.Chains.{LinkMap, Chain, linear, cyclic, all_items, AreDistinct, AreChains}
use Rattle.chain_laws.specs.Renamings.{AreImages, AreImagesOf}
use Rattle.chain_laws.specs.Arrangements.{IsArrangement, place_from, place_in, in_runs, CanonicalArranges, PlacesChainsInRuns, RunsAreRenumbered}
use Rattle.chain_laws.proofs.ListLemmas.Members.{AreDistinct-left, AreDistinct-right, AreDistinct-apart}
use Rattle.chain_laws.proofs.ChainLemmas.ChainLists.{all_items_valid}
use Rattle.chain_laws.proofs.RenamingLemmas.Images.{images-same, images_of-same}
use Rattle.chain_laws.proofs.RenamingLemmas.Chains.{renaming_carries_all, renames_by_chains}
use Rattle.chain_laws.proofs.RenamingLemmas.Positions.{place-front, place-append, place-numbers, places_are_apart}

pub chains_arrange : (link_map : LinkMap) (chains : List Chain) → AreChains link_map chains → IsArrangement link_map (all_items chains)
chains_arrange link_map chains are = record { once = are.once; valid = λ i. (are.all i, all_items_valid link_map chains i are.each) }

pub canonical_arranges : CanonicalArranges
canonical_arranges link_map indexes canonical = subst (IsArrangement link_map) (sym canonical.items) (chains_arrange link_map canonical.chains canonical.are)

pub range_with_len-append : (k a b : ℕ) → range_with_len k a ++ range_with_len (k + a) b ≡ range_with_len k (a + b)
range_with_len-append k zero b = ap₂ range_with_len (let e : k + 0 ≡ k = omega arith in e) (let e : b ≡ 0 + b = omega arith in e)
range_with_len-append k (suc a) b =
    ap (λ (zs : List ℕ). k ∷ zs) (ap (λ (m : ℕ). range_with_len (k + 1) a ++ range_with_len m b) (let e : k + suc a ≡ k + 1 + a = omega arith in e) ∙ range_with_len-append (k + 1) a b)
    ∙ ap (range_with_len k) (let e : suc (a + b) ≡ suc a + b = omega arith in e)

run_in_front : (k : ℕ) (xs : List ℕ) (chains : List Chain) → all_items (in_runs (k + length xs) chains) ≡ range_with_len (k + length xs) (length (all_items chains))
    → range_with_len k (length xs) ++ all_items (in_runs (k + length xs) chains) ≡ range_with_len k (length (xs ++ all_items chains))
run_in_front k xs chains rest =
    ap (λ (zs : List ℕ). range_with_len k (length xs) ++ zs) rest
    ∙ (range_with_len-append k (length xs) (length (all_items chains)) ∙ ap (range_with_len k) (sym (length-append xs (all_items chains))))

pub items_in_runs : (k : ℕ) (chains : List Chain) → all_items (in_runs k chains) ≡ range_with_len k (length (all_items chains))
items_in_runs k [] = refl
items_in_runs k (linear xs ∷ chains) = run_in_front k xs chains (items_in_runs (k + length xs) chains)
items_in_runs k (cyclic xs ∷ chains) = run_in_front k xs chains (items_in_runs (k + length xs) chains)

front_run : (k : ℕ) (xs ys : List ℕ) → AreDistinct (xs ++ ys) → AreImages (place_from k (xs ++ ys)) xs (range_with_len k (length xs))
front_run k xs ys once =
    images-same (place_from k xs) (place_from k (xs ++ ys)) xs (range_with_len k (length xs)) (λ i h. sym (place-front k xs ys i h))
    (place-numbers k xs (AreDistinct-left xs ys once))

later_runs : (k : ℕ) (xs : List ℕ) (chains others : List Chain) → AreDistinct (xs ++ all_items chains)
    → AreImagesOf (place_from (k + length xs) (all_items chains)) chains others → AreImagesOf (place_from k (xs ++ all_items chains)) chains others
later_runs k xs chains others once images =
    images_of-same (place_from (k + length xs) (all_items chains)) (place_from k (xs ++ all_items chains)) chains others
    (λ i h. sym (place-append k xs (all_items chains) i (λ m. AreDistinct-apart xs (all_items chains) i once m h))) images

pub placed_in_runs : (k : ℕ) (chains : List Chain) → AreDistinct (all_items chains) → AreImagesOf (place_from k (all_items chains)) chains (in_runs k chains)
placed_in_runs k [] once = tt
placed_in_runs k (linear xs ∷ chains) once = (
  front_run k xs (all_items chains) once,
  later_runs k xs chains (in_runs (k + length xs) chains) once (placed_in_runs (k + length xs) chains (AreDistinct-right xs (all_items chains) once)),
)
placed_in_runs k (cyclic xs ∷ chains) once = (
  front_run k xs (all_items chains) once,
  later_runs k xs chains (in_runs (k + length xs) chains) once (placed_in_runs (k + length xs) chains (AreDistinct-right xs (all_items chains) once)),
)

pub arranges_chains_in_runs : PlacesChainsInRuns
arranges_chains_in_runs old new chains are renaming =
    (renaming_carries_all (place_in (all_items chains)) old new chains (in_runs 1 chains) renaming are (placed_in_runs 1 chains are.once), items_in_runs 1 chains)

pub runs_are_renumbered : RunsAreRenumbered
runs_are_renumbered old new chains are also =
    renames_by_chains (place_in (all_items chains)) old new chains (in_runs 1 chains) (places_are_apart (all_items chains)) are (placed_in_runs 1 chains are.once) also
