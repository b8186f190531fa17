-- Lists in which each item is mapped to the item after it.
use Rattle.std.specs.Prelude.{◌≡◌, ◌≢◌, ℕ, ◌⊎◌, List, [], ◌∷◌, ◌++◌, Option, None, Some}
use Rattle.std.proofs.Common.{sym, refl, ap, ◌∙◌, subst, inl, inr, ⊎_elim}
use Rattle.chain_laws.specs.Chains.{LinkMap, HasLink, IsWellLinked, IsMember, AreDistinct, AreLinked, first_or, last_or, prev_of, next_of, next_in}
use Rattle.chain_laws.specs.Splices.{IsRun}
use Rattle.chain_laws.proofs.ListLemmas.Members.{IsMember-left, IsMember-right, IsMember-parts, first_or-append, first_or-IsMember, last_or-IsMember, AreDistinct-left, AreDistinct-right, AreDistinct-apart, AreDistinct-append}
use Rattle.chain_laws.proofs.ChainLemmas.LinkedLists.{reports_both}
use Rattle.chain_laws.proofs.InterlinkLemmas.Inverses.{one_some}

abbrev pub AreFollowed : (ℕ → Option ℕ) → List ℕ → Option ℕ → Type 0
AreFollowed f [] after = Unit {0}
AreFollowed f (x ∷ xs) after = (f x ≡ first_or xs after) × AreFollowed f xs after

pub AreFollowed-append : (f : ℕ → Option ℕ) (xs ys : List ℕ) (after : Option ℕ) → AreFollowed f xs (first_or ys after) → AreFollowed f ys after → AreFollowed f (xs ++ ys) after
AreFollowed-append f [] ys after s t = t
AreFollowed-append f (x ∷ xs) ys after s t = (s.0 ∙ sym (first_or-append xs ys after), AreFollowed-append f xs ys after s.1 t)

pub AreFollowed-left : (f : ℕ → Option ℕ) (xs ys : List ℕ) (after : Option ℕ) → AreFollowed f (xs ++ ys) after → AreFollowed f xs (first_or ys after)
AreFollowed-left f [] ys after s = tt
AreFollowed-left f (x ∷ xs) ys after s = (s.0 ∙ first_or-append xs ys after, AreFollowed-left f xs ys after s.1)

pub AreFollowed-right : (f : ℕ → Option ℕ) (xs ys : List ℕ) (after : Option ℕ) → AreFollowed f (xs ++ ys) after → AreFollowed f ys after
AreFollowed-right f [] ys after s = s
AreFollowed-right f (x ∷ xs) ys after s = AreFollowed-right f xs ys after s.1

pub AreFollowed-frame : (f h : ℕ → Option ℕ) (xs : List ℕ) (after : Option ℕ) → ((i : ℕ) → IsMember xs i → h i ≡ f i) → AreFollowed f xs after → AreFollowed h xs after
AreFollowed-frame f h [] after same s = tt
AreFollowed-frame f h (x ∷ xs) after same s = (same x (inl refl) ∙ s.0, AreFollowed-frame f h xs after (λ i m. same i (inr m)) s.1)

pub AreFollowed-redirected : (f h : ℕ → Option ℕ) (xs : List ℕ) (after other : Option ℕ) → AreDistinct xs
    → ((i : ℕ) → last_or xs None ≡ Some i → h i ≡ other) → ((i : ℕ) → IsMember xs i → last_or xs None ≢ Some i → h i ≡ f i) → AreFollowed f xs after → AreFollowed h xs other
AreFollowed-redirected f h [] after other once at same s = tt
AreFollowed-redirected f h (x ∷ []) after other once at same s = (at x refl, tt)
AreFollowed-redirected f h (x ∷ y ∷ ys) after other once at same s = (
  same x (inl refl) not_last ∙ s.0,
  AreFollowed-redirected f h (y ∷ ys) after other once.1 at (λ i m. same i (inr m)) s.1,
)
  where
    not_last : last_or ys (Some y) ≢ Some x
    not_last e = ⊎_elim (λ m. once.0 (inr m)) (λ d. once.0 (inl (one_some d))) (last_or-IsMember ys (Some y) x e)

pub AreFollowed-within : (f : ℕ → Option ℕ) (x : ℕ) (xs : List ℕ) (after : Option ℕ) (i : ℕ) → AreFollowed f (x ∷ xs) after → IsMember (x ∷ xs) i
    → last_or (x ∷ xs) None ≢ Some i → (j : ℕ) × (f i ≡ Some j) × IsMember xs j
AreFollowed-within f x [] after i s (inl e) not_last = absurd (not_last (ap Some e))
AreFollowed-within f x [] after i s (inr m) not_last = elim m [ ]
AreFollowed-within f x (y ∷ ys) after i s (inl e) not_last = (y, ap f (sym e) ∙ s.0, inl refl)
AreFollowed-within f x (y ∷ ys) after i s (inr m) not_last =
    let w = AreFollowed-within f y ys after i s.1 m not_last in
    (w.0, w.1, inr w.2)

pub AreFollowed-last : (f : ℕ → Option ℕ) (xs : List ℕ) (after : Option ℕ) (i : ℕ) → AreFollowed f xs after → last_or xs None ≡ Some i → f i ≡ after
AreFollowed-last f [] after i s e = absurd (cc)
AreFollowed-last f (x ∷ []) after i s e = ap f (sym (one_some e)) ∙ s.0
AreFollowed-last f (x ∷ y ∷ ys) after i s e = AreFollowed-last f (y ∷ ys) after i s.1 e

pub first_or-Some : (xs : List ℕ) (after : Option ℕ) (i : ℕ) → first_or xs None ≡ Some i → first_or xs after ≡ Some i
first_or-Some [] after i e = absurd (cc)
first_or-Some (x ∷ xs) after i e = e

pub AreLinked-followed : (link_map : LinkMap) (before : Option ℕ) (xs : List ℕ) (after : Option ℕ) → AreLinked link_map before xs after → AreFollowed (next_of link_map) xs after
AreLinked-followed link_map before [] after s = tt
AreLinked-followed link_map before (x ∷ xs) after s = (ap next_in s.0, AreLinked-followed link_map (Some x) xs after s.1)

pub followed-AreLinked : (link_map : LinkMap) (before : Option ℕ) (xs : List ℕ) (after : Option ℕ) → IsWellLinked link_map → AreFollowed (next_of link_map) xs after
    → ((i : ℕ) → IsMember xs i → HasLink link_map i) → ((i : ℕ) → first_or xs None ≡ Some i → prev_of link_map i ≡ before) → AreLinked link_map before xs after
followed-AreLinked link_map before [] after agrees s valid start = tt
followed-AreLinked link_map before (x ∷ xs) after agrees s valid start = (
  reports_both link_map x before (first_or xs after) (valid x (inl refl)) (start x refl) s.0,
  followed-AreLinked link_map (Some x) xs after agrees s.1 (λ i m. valid i (inr m)) (λ i e. (agrees.both x i).0 (s.0 ∙ first_or-Some xs after i e)),
)

pub run_has_first : (run : List ℕ) (first last : ℕ) → IsRun run first last → IsMember run first
run_has_first run first last is_run = ⊎_elim (λ m. m) (λ (n : None ≡ Some first). absurd (cc)) (first_or-IsMember run None first is_run.0)

pub run_has_last : (run : List ℕ) (first last : ℕ) → IsRun run first last → IsMember run last
run_has_last run first last is_run = ⊎_elim (λ m. m) (λ (n : None ≡ Some last). absurd (cc)) (last_or-IsMember run None last is_run.1)

pub around_members : (x run w : List ℕ) (i : ℕ) → IsMember (x ++ w) i → IsMember (x ++ run ++ w) i
around_members x run w i m = ⊎_elim (λ h. IsMember-left (x ++ run) w i (IsMember-left x run i h)) (λ h. IsMember-right (x ++ run) w i h) (IsMember-parts x w i m)

pub run_members : (x run w : List ℕ) (i : ℕ) → IsMember run i → IsMember (x ++ run ++ w) i
run_members x run w i m = IsMember-left (x ++ run) w i (IsMember-right x run i m)

pub run_once : (x run w : List ℕ) → AreDistinct (x ++ run ++ w) → AreDistinct run
run_once x run w once = AreDistinct-right x run (AreDistinct-left (x ++ run) w once)

pub around_once : (x run w : List ℕ) → AreDistinct (x ++ run ++ w) → AreDistinct (x ++ w)
around_once x run w once =
    AreDistinct-append x w (AreDistinct-left x run (AreDistinct-left (x ++ run) w once)) (AreDistinct-right (x ++ run) w once)
    (λ y h k. AreDistinct-apart (x ++ run) w y once (IsMember-left x run y h) k)

pub run_apart : (x run w : List ℕ) (i : ℕ) → AreDistinct (x ++ run ++ w) → IsMember run i → IsMember (x ++ w) i → ⊥
run_apart x run w i once m h = ⊎_elim
    (λ k. AreDistinct-apart x run i (AreDistinct-left (x ++ run) w once) k m)
    (λ k. AreDistinct-apart (x ++ run) w i once (IsMember-right x run i m) k)
    (IsMember-parts x w i h)

pub placed_members : (u run v : List ℕ) (p i : ℕ) → IsMember (u ++ p ∷ run ++ v) i → IsMember (u ++ p ∷ v) i ⊎ IsMember run i
placed_members u run v p i m = by (IsMember-parts (u ++ p ∷ run) v i m)
  where
    inner : IsMember u i ⊎ IsMember (p ∷ run) i → IsMember (u ++ p ∷ v) i ⊎ IsMember run i
    inner (inl h) = inl (IsMember-left u (p ∷ v) i h)
    inner (inr (inl e)) = inl (IsMember-right u (p ∷ v) i (inl e))
    inner (inr (inr h)) = inr h

    by : IsMember (u ++ p ∷ run) i ⊎ IsMember v i → IsMember (u ++ p ∷ v) i ⊎ IsMember run i
    by (inl h) = inner (IsMember-parts u (p ∷ run) i h)
    by (inr h) = inl (IsMember-right u (p ∷ v) i (inr h))

pub placed_once : (u run v : List ℕ) (p : ℕ) → AreDistinct (u ++ p ∷ v) → AreDistinct run → ((i : ℕ) → IsMember run i → IsMember (u ++ p ∷ v) i → ⊥) → AreDistinct (u ++ p ∷ run ++ v)
placed_once u run v p once inner apart =
    AreDistinct-append (u ++ p ∷ run) v
    (AreDistinct-append u (p ∷ run) (AreDistinct-left u (p ∷ v) once) (λ m. apart p m (IsMember-right u (p ∷ v) p (inl refl)), inner)
    (λ y h. ⊎_elim (λ e. AreDistinct-apart u (p ∷ v) y once h (inl e)) (λ m. apart y m (IsMember-left u (p ∷ v) y h))))
    (AreDistinct-right u (p ∷ v) once).1 not_after
  where
    not_after : (y : ℕ) → IsMember (u ++ p ∷ run) y → IsMember v y → ⊥
    not_after y h k = ⊎_elim
        (λ m. AreDistinct-apart u (p ∷ v) y once m (inr k))
        (⊎_elim (λ e. (AreDistinct-right u (p ∷ v) once).0 (subst (IsMember v) (sym e) k)) (λ m. apart y m (IsMember-right u (p ∷ v) y (inr k))))
        (IsMember-parts u (p ∷ run) y h)

pub placed_first : (u run v : List ℕ) (p : ℕ) → first_or (u ++ p ∷ run ++ v) None ≡ first_or (u ++ p ∷ v) None
placed_first [] run v p = refl
placed_first (x ∷ u) run v p = refl
