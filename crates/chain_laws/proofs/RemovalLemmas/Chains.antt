-- Chains after a removal: the index leaves its list, and the others are unchanged.
use Rattle.std.specs.Prelude.{◌≡◌, ◌≢◌, ℕ, List, [], ◌∷◌, ◌++◌, Option, None, Some}
use Rattle.std.proofs.Common.{sym, refl, ap, subst, subst₂, inl, inr, ⊎_elim}
use Rattle.chain_laws.specs.Chains.{LinkMap, Chain, linear, cyclic, items, IsChain, IsWellLinked, IsMember, AreDistinct, AreLinked, prev_in, next_in, prev_of, next_of, first_or, last_or}
use Rattle.chain_laws.specs.Joins.{with_neighbors}
use Rattle.chain_laws.specs.Removals.{without_link, with_removal, Removes}
use Rattle.chain_laws.proofs.ListLemmas.Members.{IsMember-rotated, IsMember-filled, filled-IsMember, first_or-IsMember, last_or-IsMember, AreDistinct-left, AreDistinct-right, AreDistinct-apart, AreDistinct-append}
use Rattle.chain_laws.proofs.ChainLemmas.LinkedLists.{AreLinked-frame, IsChain-frame, AreLinked-left, AreLinked-right}
use Rattle.chain_laws.proofs.ChainLemmas.Uniqueness.{chain_closed}
use Rattle.chain_laws.proofs.ChainLemmas.Rotations.{rotated}
use Rattle.chain_laws.proofs.JoinLemmas.Lists.{IsOutside, AreLinked-glued, AreLinked-ringed, IsChain-linked}
use Rattle.chain_laws.proofs.RemovalLemmas.Pairs.{vacated-elsewhere, HasLink-removed, removed_unnamed}

reports_without : (link_map : LinkMap) (q : ℕ) (xs : List ℕ) → (IsMember xs q → ⊥) → (i : ℕ) → IsMember xs i → link_map i ≡ without_link link_map q i
reports_without link_map q xs none i h = sym (vacated-elsewhere link_map q i (λ e. none (subst (IsMember xs) e h)))

pub AreLinked-vacated : (link_map : LinkMap) (q : ℕ) (before : Option ℕ) (xs : List ℕ) (after : Option ℕ) → (IsMember xs q → ⊥)
    → AreLinked link_map before xs after → AreLinked (without_link link_map q) before xs after
AreLinked-vacated link_map q before xs after none stored = AreLinked-frame link_map (without_link link_map q) before xs after (reports_without link_map q xs none) stored

pub IsChain-vacated : (link_map : LinkMap) (q : ℕ) (c : Chain) → (IsMember (items c) q → ⊥) → IsChain link_map c → IsChain (without_link link_map q) c
IsChain-vacated link_map q c none = IsChain-frame link_map (without_link link_map q) c (reports_without link_map q (items c) none)

parts_apart : (x y : List ℕ) (i : ℕ) → AreDistinct (x ++ i ∷ y) → (k : ℕ) → IsMember x k → IsMember y k → ⊥
parts_apart x y i once k h g = AreDistinct-apart x (i ∷ y) k once h (inr g)

pub removed_from_linear : (link_map : LinkMap) (i : ℕ) (x y : List ℕ) → IsChain link_map (linear (x ++ i ∷ y)) → x ++ y ≢ [] → IsChain (with_removal link_map i) (linear (x ++ y))
removed_from_linear link_map i x y chain filled =
    let x_once : AreDistinct x = AreDistinct-left x (i ∷ y) chain.1 in
    let rest_once : AreDistinct (i ∷ y) = AreDistinct-right x (i ∷ y) chain.1 in
    let right : AreLinked link_map (last_or x None) (i ∷ y) None = AreLinked-right link_map None x (i ∷ y) None chain.2 in
    let glued : AreLinked (with_neighbors (without_link link_map i) (last_or x None) (first_or y None)) None (x ++ y) None =
    AreLinked-glued (without_link link_map i) None x (Some i) (Some i) y None x_once rest_once.1 last_apart first_apart
    (AreLinked-vacated link_map i None x (Some i) (λ h. AreDistinct-apart x (i ∷ y) i chain.1 h (inl refl)) (AreLinked-left link_map None x (i ∷ y) None chain.2))
    (AreLinked-vacated link_map i (Some i) y None rest_once.0 right.1) in (
      filled,
      AreDistinct-append x y x_once rest_once.1 (parts_apart x y i chain.1),
      subst₂ (λ u v. AreLinked (with_neighbors (without_link link_map i) u v) None (x ++ y) None) (sym (ap prev_in right.0)) (sym (ap next_in right.0)) glued,
    )
  where
    last_apart : IsOutside (last_or x None) y
    last_apart k named g = ⊎_elim (λ h. parts_apart x y i chain.1 k h g) (λ e. absurd (cc)) (last_or-IsMember x None k named)

    first_apart : IsOutside (first_or y None) x
    first_apart k named h = ⊎_elim (λ g. parts_apart x y i chain.1 k h g) (λ e. absurd (cc)) (first_or-IsMember y None k named)

pub removed_first_of_cyclic : (link_map : LinkMap) (i : ℕ) (y : List ℕ) → IsChain link_map (cyclic (i ∷ y)) → y ≢ [] → IsChain (with_removal link_map i) (cyclic y)
removed_first_of_cyclic link_map i [] chain filled = absurd (filled refl)
removed_first_of_cyclic link_map i (k ∷ y) chain filled =
    let ringed : AreLinked (with_neighbors (without_link link_map i) (last_or y (Some k)) (Some k)) (last_or y (Some k)) (k ∷ y) (Some k) =
    AreLinked-ringed (without_link link_map i) (Some i) (k ∷ y) (Some i) chain.1.1 (AreLinked-vacated link_map i (Some i) (k ∷ y) (Some i) chain.1.0 chain.2.1) in (
      filled,
      chain.1.1,
      subst₂ (λ u v. AreLinked (with_neighbors (without_link link_map i) u v) (last_or y (Some k)) (k ∷ y) (Some k)) (sym (ap prev_in chain.2.0)) (sym (ap next_in chain.2.0)) ringed,
    )

filled_rotated : (x y : List ℕ) → x ++ y ≢ [] → y ++ x ≢ []
filled_rotated x y filled =
    let some = filled-IsMember (x ++ y) filled in
    IsMember-filled (y ++ x) some.0 (IsMember-rotated x y some.0 some.1)

pub removed_from_cyclic : (link_map : LinkMap) (i : ℕ) (x y : List ℕ) → IsChain link_map (cyclic (x ++ i ∷ y)) → x ++ y ≢ [] → IsChain (with_removal link_map i) (cyclic (x ++ y))
removed_from_cyclic link_map i x y chain filled =
    rotated (with_removal link_map i) y x (removed_first_of_cyclic link_map i (y ++ x) (rotated link_map x (i ∷ y) chain) (filled_rotated x y filled))

pub removed_rest : (link_map : LinkMap) (i : ℕ) → IsWellLinked link_map → (c : Chain) → (IsMember (items c) i → ⊥) → IsChain link_map c → IsChain (with_removal link_map i) c
removed_rest link_map i agrees c none chain =
    let closed = chain_closed link_map c chain in
    let before_apart : IsOutside (prev_of link_map i) (items c) = λ k named h. none (closed.forward k i h ((agrees.both k i).1 named)) in
    let after_apart : IsOutside (next_of link_map i) (items c) = λ k named h. none (closed.back k i h ((agrees.both i k).0 named)) in
    (IsChain-linked (without_link link_map i) (prev_of link_map i) (next_of link_map i) c before_apart after_apart).0 (IsChain-vacated link_map i c none chain)

pub removed_removes : (link_map : LinkMap) (i : ℕ) → IsWellLinked link_map → Removes link_map (with_removal link_map i) i
removed_removes link_map i agrees =
    record {
      from_linear = removed_from_linear link_map i;
      from_cyclic = removed_from_cyclic link_map i;
      rest = removed_rest link_map i agrees;
      links = HasLink-removed link_map i;
      unnamed = removed_unnamed link_map i agrees;
    }
