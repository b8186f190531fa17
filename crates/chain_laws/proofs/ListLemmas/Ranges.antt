-- Runs of consecutive indexes.
use Rattle.std.proofs.Common.{◌≡◌, ℕ, zero, suc, ◌+◌, ◌<◌, ◌≤◌, inl, inr, Bool, true, false, List, [], ◌∷◌, ◌++◌, length, refl, sym, ap, ◌∙◌, length-append, arith}
use Rattle.std.specs.List.{range_with_len}
use Rattle.std.proofs.Math.Decide.{ℕ_discrete}
use Rattle.chain_laws.specs.Chains.{Chain, linear, cyclic, all_items, IsMember, AreDistinct}
use Rattle.chain_laws.specs.Arrangements.{in_runs}
use Rattle.chain_laws.specs.ChainStart.{chain_of}
use Rattle.chain_laws.proofs.RenamingLemmas.ChainRuns.{range_with_len-append}

pub IsMember-range : (k n i : ℕ) → IsMember (range_with_len k n) i → (k ≤ i) × (i < k + n)
IsMember-range k zero i h = absurd h
IsMember-range k (suc n) i (inl e) = (omega (arith, e), omega (arith, e))
IsMember-range k (suc n) i (inr h) = let w = IsMember-range (k + 1) n i h in (omega (arith, w.0), omega (arith, w.1))

pub range-IsMember : (k n i : ℕ) → k ≤ i → i < k + n → IsMember (range_with_len k n) i
range-IsMember k zero i low high = absurd (omega arith)
range-IsMember k (suc n) i low high = by (ℕ_discrete k i) (range-IsMember (k + 1) n i)
  where
    by : Dec (k ≡ i) → (k + 1 ≤ i → i < (k + 1) + n → IsMember (range_with_len (k + 1) n) i) → IsMember (range_with_len k (suc n)) i
    by (yes e) rest = inl e
    by (no ne) rest = inr (rest (omega arith) (omega arith))

pub AreDistinct-range : (k n : ℕ) → AreDistinct (range_with_len k n)
AreDistinct-range k zero = tt
AreDistinct-range k (suc n) = ((λ h. let w = IsMember-range (k + 1) n k h in omega (arith, w.0)), AreDistinct-range (k + 1) n)

pub range_last : (k n : ℕ) → range_with_len k (n + 1) ≡ range_with_len k n ++ (k + n) ∷ []
range_last k n = sym (range_with_len-append k n 1)

pub in_runs-append : (k : ℕ) (chains others : List Chain) → in_runs k (chains ++ others) ≡ in_runs k chains ++ in_runs (k + length (all_items chains)) others
in_runs-append k [] others = ap (λ (m : ℕ). in_runs m others) (let e : k ≡ k + 0 = omega arith in e)
in_runs-append k (linear xs ∷ chains) others =
    ap (λ (ds : List Chain). linear (range_with_len k (length xs)) ∷ ds)
    (in_runs-append (k + length xs) chains others ∙ ap (λ (m : ℕ). in_runs (k + length xs) chains ++ in_runs m others) (behind xs))
  where
    behind : (xs : List ℕ) → (k + length xs) + length (all_items chains) ≡ k + length (xs ++ all_items chains)
    behind xs = let e : length (xs ++ all_items chains) ≡ length xs + length (all_items chains) = length-append xs (all_items chains) in omega arith
in_runs-append k (cyclic xs ∷ chains) others =
    ap (λ (ds : List Chain). cyclic (range_with_len k (length xs)) ∷ ds)
    (in_runs-append (k + length xs) chains others ∙ ap (λ (m : ℕ). in_runs (k + length xs) chains ++ in_runs m others) (behind xs))
  where
    behind : (xs : List ℕ) → (k + length xs) + length (all_items chains) ≡ k + length (xs ++ all_items chains)
    behind xs = let e : length (xs ++ all_items chains) ≡ length xs + length (all_items chains) = length-append xs (all_items chains) in omega arith

pub one_run : (k : ℕ) (ring : Bool) (xs : List ℕ) → in_runs k (chain_of ring xs ∷ []) ≡ chain_of ring (range_with_len k (length xs)) ∷ []
one_run k false xs = refl
one_run k true xs = refl
