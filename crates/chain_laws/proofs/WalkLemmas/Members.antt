-- A walk has each link of its chain once, and each link has one.
use Rattle.std.specs.Prelude.{◌↔◌, ℕ, ◌≤◌, ◌⊎◌, List, [], ◌∷◌, ◌++◌, reverse, length}
use Rattle.std.proofs.Common.{sym, refl, subst, inl, inr, ⊎_elim}
use mathlib.Core.List.{reverse_aux}
use Rattle.chain_laws.specs.Chains.{LinkMap, Chain, linear, cyclic, items, IsChain, HasLink, HasLinksWithin, IsWellLinked, IsMember, AreDistinct}
use Rattle.chain_laws.specs.Walks.{IsWalk, of_linear, of_cyclic, WalksAhead, PassesTheChain}
use Rattle.chain_laws.proofs.ListLemmas.Members.{IsMember-left, IsMember-right, IsMember-parts, IsMember-written, AreDistinct-left, AreDistinct-right, AreDistinct-apart, AreDistinct-append, length_bound}
use Rattle.chain_laws.proofs.ChainLemmas.Uniqueness.{chain_valid, chains_share}
use Rattle.chain_laws.proofs.ChainLemmas.Rotations.{rotated_to}
use Rattle.chain_laws.proofs.ChainLemmas.Existence.{ChainOf, stored_in, has_chain}
use Rattle.chain_laws.proofs.WalkLemmas.Walker.{walk_passed}

pub IsMember-reversed : (xs zs : List ℕ) (y : ℕ) → IsMember (reverse_aux xs zs) y ↔ (IsMember xs y ⊎ IsMember zs y)
IsMember-reversed [] zs y = (λ h. inr h, λ h. ⊎_elim (λ n. absurd n) (λ k. k) h)
IsMember-reversed (x ∷ xs) zs y =
    let rest = IsMember-reversed xs (x ∷ zs) y in
    (λ h. there (rest.0 h), λ h. rest.1 (back h))
  where
    there : IsMember xs y ⊎ IsMember (x ∷ zs) y → IsMember (x ∷ xs) y ⊎ IsMember zs y
    there (inl h) = inl (inr h)
    there (inr (inl e)) = inl (inl e)
    there (inr (inr h)) = inr h

    back : IsMember (x ∷ xs) y ⊎ IsMember zs y → IsMember xs y ⊎ IsMember (x ∷ zs) y
    back (inl (inl e)) = inr (inl e)
    back (inl (inr h)) = inl h
    back (inr h) = inr (inr h)

pub AreDistinct-reversed : (xs zs : List ℕ) → AreDistinct xs → AreDistinct zs → ((y : ℕ) → IsMember xs y → IsMember zs y → ⊥) → AreDistinct (reverse_aux xs zs)
AreDistinct-reversed [] zs once others apart = others
AreDistinct-reversed (x ∷ xs) zs once others apart =
    AreDistinct-reversed xs (x ∷ zs) once.1 (apart x (inl refl), others) still_apart
  where
    still_apart : (y : ℕ) → IsMember xs y → IsMember (x ∷ zs) y → ⊥
    still_apart y h (inl e) = once.0 (subst (IsMember xs) (sym e) h)
    still_apart y h (inr k) = apart y (inr h) k

pub IsMember-back : (xs : List ℕ) (y : ℕ) → IsMember (reverse xs) y → IsMember xs y
IsMember-back xs y h = ⊎_elim (λ k. k) (λ n. absurd n) ((IsMember-reversed xs [] y).0 h)

pub walk_starts : (link_map : LinkMap) (i : ℕ) (walk : List ℕ) → IsWalk link_map i walk → IsMember walk i
walk_starts link_map i _ (of_linear before after chain) = inl refl
walk_starts link_map i _ (of_cyclic after chain) = inl refl

pub walk_once : (link_map : LinkMap) (i : ℕ) (walk : List ℕ) → IsWalk link_map i walk → AreDistinct walk
walk_once link_map i _ (of_linear before after chain) =
    AreDistinct-append (i ∷ after) (reverse before) (AreDistinct-right before (i ∷ after) chain.1)
    (AreDistinct-reversed before [] (AreDistinct-left before (i ∷ after) chain.1) tt (λ y h n. n))
    (λ y h k. AreDistinct-apart before (i ∷ after) y chain.1 (IsMember-back before y k) h)
walk_once link_map i _ (of_cyclic after chain) = chain.1

pub walk_chain : (link_map : LinkMap) (i : ℕ) (walk : List ℕ) → IsWalk link_map i walk → (c : Chain) × IsChain link_map c × ((j : ℕ) → IsMember walk j ↔ IsMember (items c) j)
walk_chain link_map i _ (of_linear before after chain) = (linear (before ++ i ∷ after), chain, λ j. (there j, back j))
  where
    there : (j : ℕ) → IsMember ((i ∷ after) ++ reverse before) j → IsMember (before ++ i ∷ after) j
    there j h = ⊎_elim (λ k. IsMember-right before (i ∷ after) j k) (λ k. IsMember-left before (i ∷ after) j (IsMember-back before j k)) (IsMember-parts (i ∷ after) (reverse before) j h)

    back : (j : ℕ) → IsMember (before ++ i ∷ after) j → IsMember ((i ∷ after) ++ reverse before) j
    back j h = ⊎_elim (λ k. IsMember-right (i ∷ after) (reverse before) j ((IsMember-reversed before [] j).1 (inl k))) (λ k. IsMember-left (i ∷ after) (reverse before) j k) (IsMember-parts before (i ∷ after) j h)
walk_chain link_map i _ (of_cyclic after chain) = (cyclic (i ∷ after), chain, λ j. (λ h. h, λ h. h))

pub walk_has : PassesTheChain
walk_has link_map i walk c is_walk chain has j =
    let own = walk_chain link_map i walk is_walk in
    let own_has : IsMember (items own.0) i = (own.2 i).0 (walk_starts link_map i walk is_walk) in (
      λ h. chains_share link_map own.0 c i j own.1 chain own_has has ((own.2 j).0 h),
      λ h. (own.2 j).1 (chains_share link_map c own.0 i j chain own.1 has own_has h),
    )

pub walk_valid : (link_map : LinkMap) (i : ℕ) (walk : List ℕ) → IsWalk link_map i walk → (j : ℕ) → IsMember walk j → HasLink link_map j
walk_valid link_map i walk is_walk j h =
    let own = walk_chain link_map i walk is_walk in
    chain_valid link_map own.0 j own.1 ((own.2 j).0 h)

pub walk_bound : (link_map : LinkMap) (slots i : ℕ) (walk : List ℕ) → HasLinksWithin link_map slots → IsWalk link_map i walk → length walk ≤ slots
walk_bound link_map slots i walk within is_walk =
    length_bound walk slots (walk_once link_map i walk is_walk) (λ j h. within.within j (walk_valid link_map i walk is_walk j h))

pub walk_of_chain : (link_map : LinkMap) (i : ℕ) (c : Chain) → IsChain link_map c → IsMember (items c) i → (walk : List ℕ) × IsWalk link_map i walk
walk_of_chain link_map i (linear xs) chain has =
    let w = IsMember-written xs i has in
    (i ∷ w.1 ++ reverse w.0, of_linear w.0 w.1 (subst (λ (zs : List ℕ). IsChain link_map (linear zs)) w.2 chain))
walk_of_chain link_map i (cyclic xs) chain has =
    let t = rotated_to link_map xs i chain has in
    (i ∷ t.0, of_cyclic t.0 t.1)

pub has_walk : (link_map : LinkMap) (slots i : ℕ) → IsWellLinked link_map → HasLinksWithin link_map slots → HasLink link_map i → (walk : List ℕ) × IsWalk link_map i walk
has_walk link_map slots i agrees within valid = by (has_chain link_map slots agrees within i valid)
  where
    by : ChainOf link_map i → (walk : List ℕ) × IsWalk link_map i walk
    by (stored_in c chain has) = walk_of_chain link_map i c chain has

pub walks_ahead : WalksAhead
walks_ahead link_map slots i agrees within valid =
    let walk = has_walk link_map slots i agrees within valid in
    subst (IsWalk link_map i) (sym (walk_passed slots link_map i walk.0 walk.1 (walk_bound link_map slots i walk.0 within walk.1))) walk.1
