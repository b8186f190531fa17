-- The places in a list: one for each index, no two equal, consecutive in order.
use Rattle.std.proofs.Common.{◌≡◌, ◌≢◌, ℕ, suc, ◌+◌, ◌<◌, ◌≤◌, ◌⊎◌, inl, inr, List, [], ◌∷◌, ◌++◌, length, None, Some, refl, sym, ap, ◌∙◌, subst, add-one, arith}
use Rattle.std.specs.List.{range_with_len}
use Rattle.std.proofs.Math.Decide.{ℕ_discrete}
use Rattle.chain_laws.specs.Chains.{IsMember, AreDistinct}
use Rattle.chain_laws.specs.Renamings.{AreImages}
use Rattle.chain_laws.specs.Arrangements.{place_from, place_in, ArrangementNumbers, PlacesAreApart}
use Rattle.chain_laws.proofs.ListLemmas.Members.{IsMember-or_not}
use Rattle.chain_laws.proofs.InterlinkLemmas.Inverses.{if_same, if_other}
use Rattle.chain_laws.proofs.RenamingLemmas.Images.{images-same}

pub place-same : (n : ℕ) (xs : List ℕ) (i : ℕ) → place_from n (i ∷ xs) i ≡ Some n
place-same n xs i = if_same i i (Some n) (place_from (suc n) xs i) refl

pub place-first : (n x : ℕ) (xs : List ℕ) (i : ℕ) → x ≡ i → place_from n (x ∷ xs) i ≡ Some n
place-first n x xs i e = if_same x i (Some n) (place_from (suc n) xs i) e

pub place-other : (n x : ℕ) (xs : List ℕ) (i : ℕ) → x ≢ i → place_from n (x ∷ xs) i ≡ place_from (suc n) xs i
place-other n x xs i differs = if_other x i (Some n) (place_from (suc n) xs i) differs

pub place-within : (n : ℕ) (xs : List ℕ) (i k : ℕ) → place_from n xs i ≡ Some k → (n ≤ k) × (k < n + length xs)
place-within n [] i k e = absurd (cc)
place-within n (x ∷ xs) i k e = by (ℕ_discrete x i) (place-within (suc n) xs i k)
  where
    by : Dec (x ≡ i) → (place_from (suc n) xs i ≡ Some k → (suc n ≤ k) × (k < suc n + length xs)) → (n ≤ k) × (k < n + length (x ∷ xs))
    by (yes s) rest =
        let one : Some n ≡ Some k = sym (place-first n x xs i s) ∙ e in
        let same : n ≡ k = cc in
        (omega arith, omega arith)
    by (no differs) rest =
        let w = rest (sym (place-other n x xs i differs) ∙ e) in
        let low : suc n ≤ k = w.0 in
        let high : k < suc n + length xs = w.1 in
        (omega arith, omega arith)

pub place-apart : (n : ℕ) (xs : List ℕ) (i j k : ℕ) → place_from n xs i ≡ Some k → place_from n xs j ≡ Some k → i ≡ j
place-apart n [] i j k e f = absurd (cc)
place-apart n (x ∷ xs) i j k e f = by (ℕ_discrete x i) (ℕ_discrete x j) (place-apart (suc n) xs i j k)
  where
    first : (a b : ℕ) → x ≡ a → x ≢ b → place_from n (x ∷ xs) a ≡ Some k → place_from n (x ∷ xs) b ≡ Some k → ⊥
    first a b s differs g h =
        let one : Some n ≡ Some k = sym (place-first n x xs a s) ∙ g in
        let same : n ≡ k = cc in
        let w = place-within (suc n) xs b k (sym (place-other n x xs b differs) ∙ h) in
        let low : suc n ≤ k = w.0 in
        omega arith

    by : Dec (x ≡ i) → Dec (x ≡ j) → (place_from (suc n) xs i ≡ Some k → place_from (suc n) xs j ≡ Some k → i ≡ j) → i ≡ j
    by (yes s) (yes t) rest = sym s ∙ t
    by (yes s) (no d) rest = absurd (first i j s d e f)
    by (no d) (yes t) rest = absurd (first j i t d f e)
    by (no c) (no d) rest = rest (sym (place-other n x xs i c) ∙ e) (sym (place-other n x xs j d) ∙ f)

pub place-has : (n : ℕ) (xs : List ℕ) (i k : ℕ) → place_from n xs i ≡ Some k → IsMember xs i
place-has n [] i k e = absurd (cc)
place-has n (x ∷ xs) i k e = by (ℕ_discrete x i) (place-has (suc n) xs i k)
  where
    by : Dec (x ≡ i) → (place_from (suc n) xs i ≡ Some k → IsMember xs i) → IsMember (x ∷ xs) i
    by (yes s) rest = inl s
    by (no differs) rest = inr (rest (sym (place-other n x xs i differs) ∙ e))

pub has-place : (n : ℕ) (xs : List ℕ) (i : ℕ) → IsMember xs i → (k : ℕ) × (place_from n xs i ≡ Some k)
has-place n [] i h = absurd h
has-place n (x ∷ xs) i h = by (ℕ_discrete x i) h (has-place (suc n) xs i)
  where
    by : Dec (x ≡ i) → IsMember (x ∷ xs) i → (IsMember xs i → (k : ℕ) × (place_from (suc n) xs i ≡ Some k)) → (k : ℕ) × (place_from n (x ∷ xs) i ≡ Some k)
    by (yes s) m rest = (n, place-first n x xs i s)
    by (no differs) (inl s) rest = absurd (differs s)
    by (no differs) (inr m) rest = let w = rest m in (w.0, place-other n x xs i differs ∙ w.1)

pub place-none : (n : ℕ) (xs : List ℕ) (i : ℕ) → (IsMember xs i → ⊥) → place_from n xs i ≡ None
place-none n [] i not = refl
place-none n (x ∷ xs) i not = place-other n x xs i (λ s. not (inl s)) ∙ place-none (suc n) xs i (λ h. not (inr h))

pub place-front : (n : ℕ) (xs ys : List ℕ) (i : ℕ) → IsMember xs i → place_from n (xs ++ ys) i ≡ place_from n xs i
place-front n [] ys i h = absurd h
place-front n (x ∷ xs) ys i h = by (ℕ_discrete x i) h (place-front (suc n) xs ys i)
  where
    by : Dec (x ≡ i) → IsMember (x ∷ xs) i → (IsMember xs i → place_from (suc n) (xs ++ ys) i ≡ place_from (suc n) xs i) → place_from n (x ∷ xs ++ ys) i ≡ place_from n (x ∷ xs) i
    by (yes s) m rest = place-first n x (xs ++ ys) i s ∙ sym (place-first n x xs i s)
    by (no differs) (inl s) rest = absurd (differs s)
    by (no differs) (inr m) rest = place-other n x (xs ++ ys) i differs ∙ (rest m ∙ sym (place-other n x xs i differs))

pub place-append : (n : ℕ) (xs ys : List ℕ) (i : ℕ) → (IsMember xs i → ⊥) → place_from n (xs ++ ys) i ≡ place_from (n + length xs) ys i
place-append n [] ys i not = ap (λ (m : ℕ). place_from m ys i) (let e : n ≡ n + 0 = omega arith in e)
place-append n (x ∷ xs) ys i not =
    place-other n x (xs ++ ys) i (λ s. not (inl s))
    ∙ (place-append (suc n) xs ys i (λ h. not (inr h))
    ∙ ap (λ (m : ℕ). place_from m ys i) (let e : suc n + length xs ≡ n + length (x ∷ xs) = omega arith in e))

pub place-last : (xs : List ℕ) (x : ℕ) → (IsMember xs x → ⊥) → place_in (xs ++ x ∷ []) x ≡ Some (length xs + 1)
place-last xs x not = place-append 1 xs (x ∷ []) x not ∙ (place-same (1 + length xs) [] x ∙ ap Some (let e : 1 + length xs ≡ length xs + 1 = omega arith in e))

pub place-before_last : (xs : List ℕ) (x i : ℕ) → x ≢ i → place_in (xs ++ x ∷ []) i ≡ place_in xs i
place-before_last xs x i differs = by (IsMember-or_not xs i)
  where
    by : IsMember xs i ⊎ (IsMember xs i → ⊥) → place_in (xs ++ x ∷ []) i ≡ place_in xs i
    by (inl h) = place-front 1 xs (x ∷ []) i h
    by (inr not) = place-append 1 xs (x ∷ []) i not ∙ (place-other (1 + length xs) x [] i differs ∙ sym (place-none 1 xs i not))

pub place-numbers : (n : ℕ) (xs : List ℕ) → AreDistinct xs → AreImages (place_from n xs) xs (range_with_len n (length xs))
place-numbers n [] once = tt
place-numbers n (x ∷ xs) once = (
  place-same n xs x,
  images-same (place_from (suc n) xs) (place_from n (x ∷ xs)) xs (range_with_len (n + 1) (length xs)) later (rw add-one (place-numbers (suc n) xs once.1)),
)
  where
    later : (i : ℕ) → IsMember xs i → place_from (suc n) xs i ≡ place_from n (x ∷ xs) i
    later i h = sym (place-other n x xs i (λ s. once.0 (subst (IsMember xs) (sym s) h)))

pub arrangement_numbers : ArrangementNumbers
arrangement_numbers link_map indexes arranges = place-numbers 1 indexes arranges.once

pub places_are_apart : PlacesAreApart
places_are_apart indexes i j k e f = place-apart 1 indexes i j k e f
