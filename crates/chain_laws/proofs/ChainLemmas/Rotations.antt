-- Rotations of chains.
use Rattle.std.proofs.Common.{◌≡◌, ◌↔◌, ℕ, inl, List, [], ◌∷◌, ◌++◌, Option, None, Some, refl, sym, ap, subst, append-nil}
use Rattle.chain_laws.specs.Chains.{LinkMap, IsMember, Chain, linear, cyclic, items, last_or, AreLinked, IsChain}
use Rattle.chain_laws.specs.Neighbors.{IsRotation}
use Rattle.chain_laws.proofs.ListLemmas.Members.{IsMember-written, IsMember-rotated, IsMember-filled, AreDistinct-rotated, last_or-append}
use Rattle.chain_laws.proofs.ChainLemmas.LinkedLists.{AreLinked-left, AreLinked-right, AreLinked-append}
use Rattle.chain_laws.proofs.ChainLemmas.Uniqueness.{chains_share, one_cyclic, one_linear, not_both}

pub AreLinked-rotated : (link_map : LinkMap) (x : ℕ) (xs : List ℕ) (y : ℕ) (ys : List ℕ)
    → AreLinked link_map (last_or (x ∷ xs ++ y ∷ ys) None) (x ∷ xs ++ y ∷ ys) (Some x)
    → AreLinked link_map (last_or (y ∷ ys ++ x ∷ xs) None) (y ∷ ys ++ x ∷ xs) (Some y)
AreLinked-rotated link_map x xs y ys s =
    let left : AreLinked link_map (last_or (x ∷ xs ++ y ∷ ys) None) (x ∷ xs) (Some y) = AreLinked-left link_map _ (x ∷ xs) (y ∷ ys) (Some x) s in
    let right : AreLinked link_map (last_or (x ∷ xs) (last_or (x ∷ xs ++ y ∷ ys) None)) (y ∷ ys) (Some x) = AreLinked-right link_map _ (x ∷ xs) (y ∷ ys) (Some x) s in
    let left_end : last_or (x ∷ xs ++ y ∷ ys) None ≡ last_or (y ∷ ys) (last_or (y ∷ ys ++ x ∷ xs) None) = last_or-append (x ∷ xs) (y ∷ ys) None in
    let right_end : last_or (x ∷ xs) (last_or (x ∷ xs ++ y ∷ ys) None) ≡ last_or (y ∷ ys ++ x ∷ xs) None = sym (last_or-append (y ∷ ys) (x ∷ xs) None) in
    AreLinked-append link_map (last_or (y ∷ ys ++ x ∷ xs) None) (y ∷ ys) (x ∷ xs) (Some y)
    (subst (λ (o : Option ℕ). AreLinked link_map o (y ∷ ys) (Some x)) right_end right)
    (subst (λ (o : Option ℕ). AreLinked link_map o (x ∷ xs) (Some y)) left_end left)

pub rotated : (link_map : LinkMap) (xs ys : List ℕ) → IsChain link_map (cyclic (xs ++ ys)) → IsChain link_map (cyclic (ys ++ xs))
rotated link_map [] ys h = subst (λ (zs : List ℕ). IsChain link_map (cyclic zs)) (sym (append-nil ys)) h
rotated link_map (x ∷ xs) [] h = subst (λ (zs : List ℕ). IsChain link_map (cyclic zs)) (append-nil (x ∷ xs)) h
rotated link_map (x ∷ xs) (y ∷ ys) h = (
  IsMember-filled (y ∷ ys ++ x ∷ xs) y (inl refl),
  AreDistinct-rotated (x ∷ xs) (y ∷ ys) h.1,
  AreLinked-rotated link_map x xs y ys h.2,
)

pub rotated_to : (link_map : LinkMap) (xs : List ℕ) (i : ℕ) → IsChain link_map (cyclic xs) → IsMember xs i
    → (rest : List ℕ) × IsChain link_map (cyclic (i ∷ rest)) × ((y : ℕ) → IsMember xs y ↔ IsMember (i ∷ rest) y)
rotated_to link_map xs i h m =
    let w = IsMember-written xs i m in
    around w.0 w.1 w.2
  where
    around : (before after : List ℕ) → xs ≡ before ++ i ∷ after → (rest : List ℕ) × IsChain link_map (cyclic (i ∷ rest)) × ((y : ℕ) → IsMember xs y ↔ IsMember (i ∷ rest) y)
    around before after e = (
      after ++ before,
      rotated link_map before (i ∷ after) (subst (λ (zs : List ℕ). IsChain link_map (cyclic zs)) e h),
      λ y. (
        (λ k. IsMember-rotated before (i ∷ after) y (subst (λ (zs : List ℕ). IsMember zs y) e k)),
        (λ k. subst (λ (zs : List ℕ). IsMember zs y) (sym e) (IsMember-rotated (i ∷ after) before y k)),
      ),
    )

pub rotations : (link_map : LinkMap) (c other : Chain) → IsChain link_map c → IsRotation c other → IsChain link_map other
rotations link_map (linear xs) (linear ys) h e = subst (λ (zs : List ℕ). IsChain link_map (linear zs)) e h
rotations link_map (linear xs) (cyclic ys) h e = absurd e
rotations link_map (cyclic xs) (linear ys) h e = absurd e
rotations link_map (cyclic xs) (cyclic ys) h e =
    let other : IsChain link_map (cyclic (e.1 ++ e.0)) = rotated link_map e.0 e.1 (subst (λ (zs : List ℕ). IsChain link_map (cyclic zs)) e.2 h) in
    subst (λ (zs : List ℕ). IsChain link_map (cyclic zs)) (sym e.3) other

pub one_ring : (link_map : LinkMap) (xs ys : List ℕ) (i : ℕ) → IsChain link_map (cyclic xs) → IsChain link_map (cyclic ys) → IsMember xs i → IsMember ys i
    → IsRotation (cyclic xs) (cyclic ys)
one_ring link_map [] ys i h k m n = elim m [ ]
one_ring link_map (x ∷ xs) ys i h k m n =
    let w = IsMember-written ys x (chains_share link_map (cyclic (x ∷ xs)) (cyclic ys) i x h k m n (inl refl)) in
    let from : IsChain link_map (cyclic (x ∷ w.1 ++ w.0)) = rotated link_map w.0 (x ∷ w.1) (subst (λ (zs : List ℕ). IsChain link_map (cyclic zs)) w.2 k) in
    (x ∷ w.1, w.0, ap (λ (zs : List ℕ). x ∷ zs) (one_cyclic link_map x xs (w.1 ++ w.0) h from), w.2)

pub one_rotated : (link_map : LinkMap) (i : ℕ) (c other : Chain) → IsChain link_map c → IsChain link_map other → IsMember (items c) i → IsMember (items other) i → IsRotation c other
one_rotated link_map i (linear xs) (linear ys) h k m n = one_linear link_map xs ys i h k m n
one_rotated link_map i (linear xs) (cyclic ys) h k m n = not_both link_map xs ys i h k m n
one_rotated link_map i (cyclic xs) (linear ys) h k m n = not_both link_map ys xs i k h n m
one_rotated link_map i (cyclic xs) (cyclic ys) h k m n = one_ring link_map xs ys i h k m n
