-- Linking joins two linked lists or closes one to a ring, and leaves others unchanged.
use Rattle.std.specs.Prelude.{◌≡◌, ◌↔◌, ℕ, List, [], ◌∷◌, ◌++◌, Option, None, Some}
use Rattle.std.proofs.Common.{sym, ◌∙◌, subst, inl, inr, ⊎_elim}
use Rattle.chain_laws.specs.Chains.{LinkMap, Chain, items, IsChain, IsMember, AreDistinct, AreLinked, first_or, last_or}
use Rattle.chain_laws.specs.Joins.{with_prev_at, with_next_at, with_neighbors}
use Rattle.chain_laws.proofs.ListLemmas.Members.{last_or-IsMember}
use Rattle.chain_laws.proofs.ChainLemmas.LinkedLists.{AreLinked-frame, IsChain-frame, AreLinked-append}
use Rattle.chain_laws.proofs.InterlinkLemmas.Linked.{IsElsewhere, with_next_at-elsewhere, with_prev_at-elsewhere, linked-elsewhere, with_next_at-at, with_prev_at-at}
use Rattle.chain_laws.proofs.InterlinkLemmas.Inverses.{one_some}

abbrev pub IsOutside : Option ℕ → List ℕ → Type 0
IsOutside u xs = (i : ℕ) → u ≡ Some i → IsMember xs i → ⊥

IsElsewhere-item : (u : Option ℕ) (xs : List ℕ) (j : ℕ) → IsOutside u xs → IsMember xs j → IsElsewhere u j
IsElsewhere-item u xs j apart h i named e = apart i named (subst (IsMember xs) e h)

pub AreLinked-with_next_at : (link_map : LinkMap) (u v before : Option ℕ) (xs : List ℕ) (after : Option ℕ) → IsOutside u xs → AreLinked link_map before xs after → AreLinked (with_next_at link_map u v) before xs after
AreLinked-with_next_at link_map u v before xs after apart stored =
    AreLinked-frame link_map (with_next_at link_map u v) before xs after (λ i h. sym (with_next_at-elsewhere link_map u v i (IsElsewhere-item u xs i apart h))) stored

pub AreLinked-with_prev_at : (link_map : LinkMap) (u v before : Option ℕ) (xs : List ℕ) (after : Option ℕ) → IsOutside u xs → AreLinked link_map before xs after → AreLinked (with_prev_at link_map u v) before xs after
AreLinked-with_prev_at link_map u v before xs after apart stored =
    AreLinked-frame link_map (with_prev_at link_map u v) before xs after (λ i h. sym (with_prev_at-elsewhere link_map u v i (IsElsewhere-item u xs i apart h))) stored

linked-outside : (link_map : LinkMap) (u v : Option ℕ) (xs : List ℕ) → IsOutside u xs → IsOutside v xs → (i : ℕ) → IsMember xs i → with_neighbors link_map u v i ≡ link_map i
linked-outside link_map u v xs apart_u apart_v i h = linked-elsewhere link_map u v i (IsElsewhere-item u xs i apart_u h) (IsElsewhere-item v xs i apart_v h)

pub AreLinked-linked : (link_map : LinkMap) (u v before : Option ℕ) (xs : List ℕ) (after : Option ℕ) → IsOutside u xs → IsOutside v xs → AreLinked link_map before xs after → AreLinked (with_neighbors link_map u v) before xs after
AreLinked-linked link_map u v before xs after apart_u apart_v stored =
    AreLinked-frame link_map (with_neighbors link_map u v) before xs after (λ i h. sym (linked-outside link_map u v xs apart_u apart_v i h)) stored

last_beyond : (x y : ℕ) (ys : List ℕ) → (IsMember (y ∷ ys) x → ⊥) → IsElsewhere (last_or ys (Some y)) x
last_beyond x y ys none i named e =
    ⊎_elim
    (λ h. none (inr (subst (IsMember ys) (sym e) h)))
    (λ s. none (inl (one_some s ∙ sym e)))
    (last_or-IsMember ys (Some y) i named)

pub AreLinked-next_of_last : (link_map : LinkMap) (v before : Option ℕ) (xs : List ℕ) (after : Option ℕ) → AreDistinct xs → AreLinked link_map before xs after
    → AreLinked (with_next_at link_map (last_or xs before) v) before xs v
AreLinked-next_of_last link_map v before [] after once stored = tt
AreLinked-next_of_last link_map v before (x ∷ []) after once stored = (with_next_at-at link_map x v _ stored.0, tt)
AreLinked-next_of_last link_map v before (x ∷ y ∷ ys) after once stored =
    (with_next_at-elsewhere link_map (last_or ys (Some y)) v x (last_beyond x y ys once.0) ∙ stored.0, AreLinked-next_of_last link_map v (Some x) (y ∷ ys) after once.1 stored.1)

pub AreLinked-prev_of_first : (link_map : LinkMap) (u before : Option ℕ) (xs : List ℕ) (after : Option ℕ) → AreDistinct xs → AreLinked link_map before xs after
    → AreLinked (with_prev_at link_map (first_or xs after) u) u xs after
AreLinked-prev_of_first link_map u before [] after once stored = tt
AreLinked-prev_of_first link_map u before (x ∷ xs) after once stored =
    (with_prev_at-at link_map x u _ stored.0, AreLinked-with_prev_at link_map (Some x) u (Some x) xs after (λ i named h. once.0 (subst (IsMember xs) (sym (one_some named)) h)) stored.1)

pub AreLinked-glued : (link_map : LinkMap) (before : Option ℕ) (xs : List ℕ) (xs_after ys_before : Option ℕ) (ys : List ℕ) (after : Option ℕ)
    → AreDistinct xs → AreDistinct ys → IsOutside (last_or xs before) ys → IsOutside (first_or ys after) xs
    → AreLinked link_map before xs xs_after → AreLinked link_map ys_before ys after
    → AreLinked (with_neighbors link_map (last_or xs before) (first_or ys after)) before (xs ++ ys) after
AreLinked-glued link_map before xs xs_after ys_before ys after xs_once ys_once last_apart first_apart xs_stored ys_stored =
    let u = last_or xs before in
    let v = first_or ys after in
    AreLinked-append (with_neighbors link_map u v) before xs ys after
    (AreLinked-with_prev_at (with_next_at link_map u v) v u before xs v first_apart (AreLinked-next_of_last link_map v before xs xs_after xs_once xs_stored))
    (AreLinked-prev_of_first (with_next_at link_map u v) u ys_before ys after ys_once (AreLinked-with_next_at link_map u v ys_before ys after last_apart ys_stored))

pub AreLinked-ringed : (link_map : LinkMap) (before : Option ℕ) (xs : List ℕ) (after : Option ℕ) → AreDistinct xs → AreLinked link_map before xs after
    → AreLinked (with_neighbors link_map (last_or xs None) (first_or xs None)) (last_or xs None) xs (first_or xs None)
AreLinked-ringed link_map before [] after once stored = tt
AreLinked-ringed link_map before (x ∷ xs) after once stored =
    let u = last_or xs (Some x) in
    AreLinked-prev_of_first (with_next_at link_map u (Some x)) u before (x ∷ xs) (Some x) once (AreLinked-next_of_last link_map (Some x) before (x ∷ xs) after once stored)

pub IsChain-linked : (link_map : LinkMap) (u v : Option ℕ) (c : Chain) → IsOutside u (items c) → IsOutside v (items c) → IsChain link_map c ↔ IsChain (with_neighbors link_map u v) c
IsChain-linked link_map u v c apart_u apart_v = (
  IsChain-frame link_map (with_neighbors link_map u v) c (λ i h. sym (linked-outside link_map u v (items c) apart_u apart_v i h)),
  IsChain-frame (with_neighbors link_map u v) link_map c (linked-outside link_map u v (items c) apart_u apart_v),
)

pub IsOutside-Some : (i : ℕ) (xs : List ℕ) → (IsMember xs i → ⊥) → IsOutside (Some i) xs
IsOutside-Some i xs none k e h = none (subst (IsMember xs) (sym (one_some e)) h)
