-- Lists of indexes: their members, concatenation, and lists without repetition.
use Rattle.std.proofs.Common.{◌≡◌, ◌≢◌, ℕ, suc, ◌<◌, ◌≤◌, ◌⊎◌, inl, inr, ⊎_elim, List, [], ◌∷◌, ◌++◌, length, Option, Some, refl, sym, ap, subst, Bool, true, false, ◌||◌, eqb, eqb-true, ne_eqb, arith}
use Rattle.std.specs.List.{IsDistinct, AllByRecursion, list_any}
use Rattle.std.proofs.lemmas.Map.Steps.{length-le_from_distinct_below}
use Rattle.std.proofs.Math.Decide.{ℕ_discrete}
use Rattle.chain_laws.specs.Chains.{IsMember, AreDistinct, first_or, last_or}

pub IsMember-left : (xs ys : List ℕ) (y : ℕ) → IsMember xs y → IsMember (xs ++ ys) y
IsMember-left [] ys y h = elim h [ ]
IsMember-left (x ∷ xs) ys y (inl e) = inl e
IsMember-left (x ∷ xs) ys y (inr h) = inr (IsMember-left xs ys y h)

pub IsMember-right : (xs ys : List ℕ) (y : ℕ) → IsMember ys y → IsMember (xs ++ ys) y
IsMember-right [] ys y h = h
IsMember-right (x ∷ xs) ys y h = inr (IsMember-right xs ys y h)

pub IsMember-parts : (xs ys : List ℕ) (y : ℕ) → IsMember (xs ++ ys) y → IsMember xs y ⊎ IsMember ys y
IsMember-parts [] ys y h = inr h
IsMember-parts (x ∷ xs) ys y (inl e) = inl (inl e)
IsMember-parts (x ∷ xs) ys y (inr h) = widen (IsMember-parts xs ys y h)
  where
    widen : IsMember xs y ⊎ IsMember ys y → IsMember (x ∷ xs) y ⊎ IsMember ys y
    widen (inl l) = inl (inr l)
    widen (inr r) = inr r

pub IsMember-middle : (xs ys : List ℕ) (y : ℕ) → IsMember (xs ++ y ∷ ys) y
IsMember-middle xs ys y = IsMember-right xs (y ∷ ys) y (inl refl)

pub IsMember-rotated : (xs ys : List ℕ) (y : ℕ) → IsMember (xs ++ ys) y → IsMember (ys ++ xs) y
IsMember-rotated xs ys y h = rotation_of (IsMember-parts xs ys y h)
  where
    rotation_of : IsMember xs y ⊎ IsMember ys y → IsMember (ys ++ xs) y
    rotation_of (inl l) = IsMember-right ys xs y l
    rotation_of (inr r) = IsMember-left ys xs y r

pub IsMember-written : (xs : List ℕ) (y : ℕ) → IsMember xs y → (before : List ℕ) × (after : List ℕ) × (xs ≡ before ++ y ∷ after)
IsMember-written [] y h = elim h [ ]
IsMember-written (x ∷ xs) y (inl e) = ([], xs, ap (λ (z : ℕ). z ∷ xs) e)
IsMember-written (x ∷ xs) y (inr h) =
    let w = IsMember-written xs y h in
    (x ∷ w.0, w.1, ap (λ (zs : List ℕ). x ∷ zs) w.2)

pub IsMember-or_not : (xs : List ℕ) (y : ℕ) → IsMember xs y ⊎ (IsMember xs y → ⊥)
IsMember-or_not [] y = inr (λ h. h)
IsMember-or_not (x ∷ xs) y = by_first (ℕ_discrete x y) (IsMember-or_not xs y)
  where
    by_first : Dec (x ≡ y) → IsMember xs y ⊎ (IsMember xs y → ⊥) → IsMember (x ∷ xs) y ⊎ (IsMember (x ∷ xs) y → ⊥)
    by_first (yes e) rest = inl (inl e)
    by_first (no n) (inl h) = inl (inr h)
    by_first (no n) (inr h) = inr (⊎_elim n h)

pub first_or-IsMember : (xs : List ℕ) (after : Option ℕ) (a : ℕ) → first_or xs after ≡ Some a → IsMember xs a ⊎ (after ≡ Some a)
first_or-IsMember [] after a e = inr e
first_or-IsMember (x ∷ xs) after a e = inl (inl (cc))

pub last_or-IsMember : (xs : List ℕ) (before : Option ℕ) (a : ℕ) → last_or xs before ≡ Some a → IsMember xs a ⊎ (before ≡ Some a)
last_or-IsMember [] before a e = inr e
last_or-IsMember (x ∷ xs) before a e = widen (last_or-IsMember xs (Some x) a e)
  where
    widen : IsMember xs a ⊎ (Some x ≡ Some a) → IsMember (x ∷ xs) a ⊎ (before ≡ Some a)
    widen (inl h) = inl (inr h)
    widen (inr s) = inl (inl (cc))

pub first_or-append : (xs ys : List ℕ) (after : Option ℕ) → first_or (xs ++ ys) after ≡ first_or xs (first_or ys after)
first_or-append [] ys after = refl
first_or-append (x ∷ xs) ys after = refl

pub last_or-append : (xs ys : List ℕ) (before : Option ℕ) → last_or (xs ++ ys) before ≡ last_or ys (last_or xs before)
last_or-append [] ys before = refl
last_or-append (x ∷ xs) ys before = last_or-append xs ys (Some x)

pub last_or-filled : (xs : List ℕ) (y : ℕ) → IsMember xs y → (last : ℕ) × ((before : Option ℕ) → last_or xs before ≡ Some last)
last_or-filled [] y h = elim h [ ]
last_or-filled (x ∷ []) y h = (x, λ before. refl)
last_or-filled (x ∷ z ∷ xs) y h =
    let l = last_or-filled (z ∷ xs) z (inl refl) in
    (l.0, λ before. l.1 (Some x))

pub IsMember-filled : (xs : List ℕ) (y : ℕ) → IsMember xs y → xs ≢ []
IsMember-filled [] y h = elim h [ ]
IsMember-filled (x ∷ xs) y h = λ e. cc

pub filled-IsMember : (xs : List ℕ) → xs ≢ [] → (x : ℕ) × IsMember xs x
filled-IsMember [] filled = absurd (filled refl)
filled-IsMember (x ∷ xs) filled = (x, inl refl)

pub AreDistinct-left : (xs ys : List ℕ) → AreDistinct (xs ++ ys) → AreDistinct xs
AreDistinct-left [] ys once = tt
AreDistinct-left (x ∷ xs) ys once = (λ h. once.0 (IsMember-left xs ys x h), AreDistinct-left xs ys once.1)

pub AreDistinct-right : (xs ys : List ℕ) → AreDistinct (xs ++ ys) → AreDistinct ys
AreDistinct-right [] ys once = once
AreDistinct-right (x ∷ xs) ys once = AreDistinct-right xs ys once.1

pub AreDistinct-apart : (xs ys : List ℕ) (y : ℕ) → AreDistinct (xs ++ ys) → IsMember xs y → IsMember ys y → ⊥
AreDistinct-apart [] ys y once h k = h
AreDistinct-apart (x ∷ xs) ys y once (inl e) k = once.0 (IsMember-right xs ys x (subst (IsMember ys) (sym e) k))
AreDistinct-apart (x ∷ xs) ys y once (inr h) k = AreDistinct-apart xs ys y once.1 h k

pub AreDistinct-append : (xs ys : List ℕ) → AreDistinct xs → AreDistinct ys → ((y : ℕ) → IsMember xs y → IsMember ys y → ⊥) → AreDistinct (xs ++ ys)
AreDistinct-append [] ys once others apart = others
AreDistinct-append (x ∷ xs) ys once others apart =
    (λ h. by_part (IsMember-parts xs ys x h), AreDistinct-append xs ys once.1 others (λ y h k. apart y (inr h) k))
  where
    by_part : IsMember xs x ⊎ IsMember ys x → ⊥
    by_part (inl h) = once.0 h
    by_part (inr k) = apart x (inl refl) k

pub AreDistinct-rotated : (xs ys : List ℕ) → AreDistinct (xs ++ ys) → AreDistinct (ys ++ xs)
AreDistinct-rotated xs ys once =
    AreDistinct-append ys xs (AreDistinct-right xs ys once) (AreDistinct-left xs ys once) (λ y h k. AreDistinct-apart xs ys y once k h)

pub written_once : (before after others rest : List ℕ) (a : ℕ) → AreDistinct (before ++ a ∷ after) → before ++ a ∷ after ≡ others ++ a ∷ rest
    → (before ≡ others) × (after ≡ rest)
written_once [] after [] rest a once e = (refl, cc)
written_once [] after (o ∷ others) rest a once e =
    let same : a ≡ o = cc in
    let tail : after ≡ others ++ a ∷ rest = cc in
    absurd (once.0 (subst (λ (zs : List ℕ). IsMember zs a) (sym tail) (IsMember-middle others rest a)))
written_once (b ∷ before) after [] rest a once e =
    let same : b ≡ a = cc in
    absurd (once.0 (subst (IsMember (before ++ a ∷ after)) (sym same) (IsMember-middle before after a)))
written_once (b ∷ before) after (o ∷ others) rest a once e =
    let same : b ≡ o = cc in
    let tail : before ++ a ∷ after ≡ others ++ a ∷ rest = cc in
    let more = written_once before after others rest a once.1 tail in
    (cc more.0, more.1)

distinct : (xs : List ℕ) → AreDistinct xs → IsDistinct eqb xs
unfolding IsDistinct
distinct [] once = tt
distinct (x ∷ xs) once = (differs x xs once.0, distinct xs once.1)
  where
    differs : (x : ℕ) (xs : List ℕ) → (IsMember xs x → ⊥) → AllByRecursion (λ (y : ℕ). eqb x y ≡ false) xs
    differs x [] apart = tt
    differs x (y ∷ ys) apart = (ne_eqb x y (λ e. apart (inl (sym e))), differs x ys (λ h. apart (inr h)))

any_member : (xs : List ℕ) (q : ℕ) → list_any (eqb q) xs ≡ true → IsMember xs q
any_member [] q e = absurd (cc)
any_member (x ∷ xs) q e = by_test (eqb q x) refl e (any_member xs q)
  where
    by_test : (b : Bool) → eqb q x ≡ b → (b || list_any (eqb q) xs) ≡ true → (list_any (eqb q) xs ≡ true → IsMember xs q) → IsMember (x ∷ xs) q
    by_test true is t rest = inl (sym (eqb-true q x is))
    by_test false is t rest = inr (rest t)

pub length_bound : (xs : List ℕ) (n : ℕ) → AreDistinct xs → ((i : ℕ) → IsMember xs i → (1 ≤ i) × (i ≤ n)) → length xs ≤ n
length_bound xs n once within =
    let all = length-le_from_distinct_below (0 ∷ xs) (suc n) (distinct (0 ∷ xs) (zero_apart, once)) below in
    let more : suc (length xs) ≤ suc n = all in
    omega arith
  where
    zero_apart : IsMember xs 0 → ⊥
    zero_apart h = let w = within 0 h in let low : 1 ≤ 0 = w.0 in omega arith

    below_of : (q : ℕ) → IsMember (0 ∷ xs) q → q < suc n
    below_of q (inl e) = omega arith
    below_of q (inr h) = let w = within q h in let high : q ≤ n = w.1 in omega arith

    below : (q : ℕ) → list_any (eqb q) (0 ∷ xs) ≡ true → q < suc n
    below q e = below_of q (any_member (0 ∷ xs) q e)

pub last_apart : (x : ℕ) (xs : List ℕ) → (before : List ℕ) × (k : ℕ) × (x ∷ xs ≡ before ++ k ∷ [])
last_apart x [] = ([], x, refl)
last_apart x (y ∷ ys) =
    let l = last_apart y ys in
    (x ∷ l.0, l.1, ap (λ (zs : List ℕ). x ∷ zs) l.2)
