-- The chains after a removal are determined: the old ones, each without the index.
use Rattle.std.specs.Prelude.{◌≡◌, ◌≢◌, ℕ, ◌⊎◌, List, [], ◌∷◌, ◌++◌}
use Rattle.std.proofs.Common.{sym, refl, ap, ◌∙◌, subst, inl, inr, ⊎_elim}
use Rattle.std.proofs.lemmas.Bool.{cases_eq}
use Rattle.chain_laws.specs.Chains.{LinkMap, Chain, linear, cyclic, items, IsChain, HasLinksWithin, IsWellLinked, IsMember, AreDistinct}
use Rattle.chain_laws.specs.Neighbors.{IsRotation}
use Rattle.chain_laws.specs.Removals.{with_removal, Removes, list_without, chain_without, RemovalIsDetermined, RemovalLeavesEachWithout, RemovalIsDeterminedByPairs}
use Rattle.chain_laws.proofs.InterlinkLemmas.Inverses.{if_same, if_other}
use Rattle.chain_laws.proofs.ListLemmas.Members.{IsMember-written, IsMember-middle, IsMember-or_not, IsMember-filled, filled-IsMember}
use Rattle.chain_laws.proofs.ChainLemmas.Uniqueness.{chain_valid, chain_filled, chains_share}
use Rattle.chain_laws.proofs.ChainLemmas.Rotations.{rotated, rotated_to, one_rotated}
use Rattle.chain_laws.proofs.ChainLemmas.Existence.{ChainOf, stored_in, has_chain}
use Rattle.chain_laws.proofs.ChainLemmas.Determinacy.{chain_elsewhere, pairs_decide}
use Rattle.chain_laws.proofs.RemovalLemmas.Pairs.{removed_agrees, removed_in_pairs}
use Rattle.chain_laws.proofs.RemovalLemmas.Chains.{removed_removes}

pub list_without-same : (x : ℕ) (xs : List ℕ) (i : ℕ) → x ≡ i → list_without (x ∷ xs) i ≡ list_without xs i
list_without-same x xs i e = if_same x i (list_without xs i) (x ∷ list_without xs i) e

pub list_without-other : (x : ℕ) (xs : List ℕ) (i : ℕ) → x ≢ i → list_without (x ∷ xs) i ≡ x ∷ list_without xs i
list_without-other x xs i ne = if_other x i (list_without xs i) (x ∷ list_without xs i) ne

pub list_without-none : (xs : List ℕ) (i : ℕ) → (IsMember xs i → ⊥) → list_without xs i ≡ xs
list_without-none [] i none = refl
list_without-none (x ∷ xs) i none =
    list_without-other x xs i (λ e. none (inl e)) ∙ ap (λ (zs : List ℕ). x ∷ zs) (list_without-none xs i (λ h. none (inr h)))

pub list_without-middle : (x y : List ℕ) (i : ℕ) → AreDistinct (x ++ i ∷ y) → list_without (x ++ i ∷ y) i ≡ x ++ y
list_without-middle [] y i once = list_without-same i y i refl ∙ list_without-none y i once.0
list_without-middle (a ∷ x) y i once =
    list_without-other a (x ++ i ∷ y) i (λ e. once.0 (subst (IsMember (x ++ i ∷ y)) (sym e) (IsMember-middle x y i)))
    ∙ ap (λ (zs : List ℕ). a ∷ zs) (list_without-middle x y i once.1)

pub list_without-IsMember : (xs : List ℕ) (i j : ℕ) → j ≢ i → IsMember xs j → IsMember (list_without xs i) j
list_without-IsMember [] i j ne h = h
list_without-IsMember (x ∷ xs) i j ne h = by (cases_eq x i) h (list_without-IsMember xs i j ne)
  where
    by : (x ≡ i) ⊎ (x ≢ i) → IsMember (x ∷ xs) j → (IsMember xs j → IsMember (list_without xs i) j) → IsMember (list_without (x ∷ xs) i) j
    by (inl e) (inl s) rest = absurd (ne (sym s ∙ e))
    by (inl e) (inr k) rest = subst (λ (zs : List ℕ). IsMember zs j) (sym (list_without-same x xs i e)) (rest k)
    by (inr d) (inl s) rest = subst (λ (zs : List ℕ). IsMember zs j) (sym (list_without-other x xs i d)) (inl s)
    by (inr d) (inr k) rest = subst (λ (zs : List ℕ). IsMember zs j) (sym (list_without-other x xs i d)) (inr (rest k))

pub chain_without-IsMember : (c : Chain) (i j : ℕ) → j ≢ i → IsMember (items c) j → IsMember (items (chain_without c i)) j
chain_without-IsMember (linear xs) i j ne h = list_without-IsMember xs i j ne h
chain_without-IsMember (cyclic xs) i j ne h = list_without-IsMember xs i j ne h

pub chain_without-none : (c : Chain) (i : ℕ) → (IsMember (items c) i → ⊥) → chain_without c i ≡ c
chain_without-none (linear xs) i none = ap (λ (zs : List ℕ). linear zs) (list_without-none xs i none)
chain_without-none (cyclic xs) i none = ap (λ (zs : List ℕ). cyclic zs) (list_without-none xs i none)

pub removes_shortens : (old new : LinkMap) (i : ℕ) → Removes old new i → (c : Chain) → IsChain old c → items (chain_without c i) ≢ [] → IsChain new (chain_without c i)
removes_shortens old new i removes (linear xs) chain filled = by (IsMember-or_not xs i)
  where
    around : (x y : List ℕ) → xs ≡ x ++ i ∷ y → IsChain new (linear (list_without xs i))
    around x y e =
        let here : IsChain old (linear (x ++ i ∷ y)) = subst (λ (zs : List ℕ). IsChain old (linear zs)) e chain in
        let same : list_without xs i ≡ x ++ y = ap (λ (zs : List ℕ). list_without zs i) e ∙ list_without-middle x y i here.1 in
        subst (λ (zs : List ℕ). IsChain new (linear zs)) (sym same) (removes.from_linear x y here (λ z. filled (same ∙ z)))

    by : IsMember xs i ⊎ (IsMember xs i → ⊥) → IsChain new (linear (list_without xs i))
    by (inl h) = let w = IsMember-written xs i h in around w.0 w.1 w.2
    by (inr none) = subst (λ (zs : List ℕ). IsChain new (linear zs)) (sym (list_without-none xs i none)) (removes.rest (linear xs) none chain)
removes_shortens old new i removes (cyclic xs) chain filled = by (IsMember-or_not xs i)
  where
    around : (x y : List ℕ) → xs ≡ x ++ i ∷ y → IsChain new (cyclic (list_without xs i))
    around x y e =
        let here : IsChain old (cyclic (x ++ i ∷ y)) = subst (λ (zs : List ℕ). IsChain old (cyclic zs)) e chain in
        let same : list_without xs i ≡ x ++ y = ap (λ (zs : List ℕ). list_without zs i) e ∙ list_without-middle x y i here.1 in
        subst (λ (zs : List ℕ). IsChain new (cyclic zs)) (sym same) (removes.from_cyclic x y here (λ z. filled (same ∙ z)))

    by : IsMember xs i ⊎ (IsMember xs i → ⊥) → IsChain new (cyclic (list_without xs i))
    by (inl h) = let w = IsMember-written xs i h in around w.0 w.1 w.2
    by (inr none) = subst (λ (zs : List ℕ). IsChain new (cyclic zs)) (sym (list_without-none xs i none)) (removes.rest (cyclic xs) none chain)

removed_alike : (old left right : LinkMap) (slots i : ℕ) → IsWellLinked old → HasLinksWithin old slots → Removes old left i → Removes old right i → (c : Chain) → IsChain left c → IsChain right c
removed_alike old left right slots i agrees within l r c chain =
    let some = filled-IsMember (items c) (chain_filled left c chain) in
    let valid = (l.links some.0).0 (chain_valid left c some.0 chain some.1) in
    by some.0 some.1 valid.1 (has_chain old slots agrees within some.0 valid.0)
  where
    by : (j : ℕ) → IsMember (items c) j → j ≢ i → ChainOf old j → IsChain right c
    by j h ne (stored_in d old_chain has) =
        let has_j = chain_without-IsMember d i j ne has in
        let filled = IsMember-filled (items (chain_without d i)) j has_j in
        chain_elsewhere left right c (chain_without d i) j chain (removes_shortens old left i l d old_chain filled) (removes_shortens old right i r d old_chain filled) h has_j

pub removal_is_determined : RemovalIsDetermined
removal_is_determined old new slots i agrees within removes c =
    let removal = removed_removes old i agrees in
    (removed_alike old new (with_removal old i) slots i agrees within removes removal c, removed_alike old (with_removal old i) new slots i agrees within removal removes c)

rotated_without : (old : LinkMap) (i : ℕ) (xs ys : List ℕ) → IsChain old (cyclic xs) → IsMember xs i
    → ((rest : List ℕ) → IsChain old (cyclic (i ∷ rest)) → IsRotation (cyclic rest) (cyclic ys))
    → (zs : List ℕ) × IsChain old (cyclic zs) × (ys ≡ list_without zs i)
rotated_without old i xs ys chain h rotations =
    let t = rotated_to old xs i chain h in
    let parts = rotations t.0 t.1 in
    let start : IsChain old (cyclic (i ∷ parts.0 ++ parts.1)) = subst (λ (zs : List ℕ). IsChain old (cyclic (i ∷ zs))) parts.2 t.1 in
    let longer : IsChain old (cyclic (parts.1 ++ i ∷ parts.0)) = rotated old (i ∷ parts.0) parts.1 start in
    (parts.1 ++ i ∷ parts.0, longer, parts.3 ∙ sym (list_without-middle parts.1 parts.0 i longer.1))

longer_of : (old new : LinkMap) (i j : ℕ) → Removes old new i → j ≢ i → (d c : Chain) → IsChain old d → IsChain new c → IsMember (items d) j → IsMember (items c) j → IsMember (items d) i
    → (e : Chain) × IsChain old e × (c ≡ chain_without e i)
longer_of old new i j removes ne (linear xs) c old_chain chain has h has_i =
    let has_j = list_without-IsMember xs i j ne has in
    let shortened = removes_shortens old new i removes (linear xs) old_chain (IsMember-filled (list_without xs i) j has_j) in
    by c chain h (one_rotated new j (linear (list_without xs i)) c shortened chain has_j h)
  where
    by : (c : Chain) → IsChain new c → IsMember (items c) j → IsRotation (linear (list_without xs i)) c → (e : Chain) × IsChain old e × (c ≡ chain_without e i)
    by (linear ys) k m same = (linear xs, old_chain, ap (λ (zs : List ℕ). linear zs) (sym same))
    by (cyclic ys) k m same = absurd same
longer_of old new i j removes ne (cyclic xs) c old_chain chain has h has_i = by c chain h
  where
    rotations : (rest : List ℕ) → IsChain old (cyclic (i ∷ rest)) → (c : Chain) → IsChain new c → IsMember (items c) j → IsRotation (cyclic rest) c
    rotations rest ring c k m =
        let all = chains_share old (cyclic xs) (cyclic (i ∷ rest)) i j old_chain ring has_i (inl refl) has in
        let in_rest : IsMember rest j = ⊎_elim (λ (e : i ≡ j). absurd (ne (sym e))) (λ (g : IsMember rest j). g) all in
        one_rotated new j (cyclic rest) c (removes.from_cyclic [] rest ring (IsMember-filled rest j in_rest)) k in_rest m

    by : (c : Chain) → IsChain new c → IsMember (items c) j → (e : Chain) × IsChain old e × (c ≡ chain_without e i)
    by (linear ys) k m =
        let t = rotated_to old xs i old_chain has_i in
        absurd (rotations t.0 t.1 (linear ys) k m)
    by (cyclic ys) k m =
        let t = rotated_without old i xs ys old_chain has_i (λ rest ring. rotations rest ring (cyclic ys) k m) in
        (cyclic t.0, t.1, ap (λ (zs : List ℕ). cyclic zs) t.2)

longer_chain : (old new : LinkMap) (slots i : ℕ) → IsWellLinked old → HasLinksWithin old slots → Removes old new i → (c : Chain) → IsChain new c
    → (e : Chain) × IsChain old e × (c ≡ chain_without e i)
longer_chain old new slots i agrees within removes c chain =
    let some = filled-IsMember (items c) (chain_filled new c chain) in
    let valid = (removes.links some.0).0 (chain_valid new c some.0 chain some.1) in
    by some.0 some.1 valid.1 (has_chain old slots agrees within some.0 valid.0)
  where
    not_i : IsMember (items c) i → ⊥
    not_i h = ((removes.links i).0 (chain_valid new c i chain h)).1 refl

    by : (j : ℕ) → IsMember (items c) j → j ≢ i → ChainOf old j → (e : Chain) × IsChain old e × (c ≡ chain_without e i)
    by j h ne (stored_in d old_chain has) = by_i (IsMember-or_not (items d) i)
      where
        by_i : IsMember (items d) i ⊎ (IsMember (items d) i → ⊥) → (e : Chain) × IsChain old e × (c ≡ chain_without e i)
        by_i (inl has_i) = longer_of old new i j removes ne d c old_chain chain has h has_i
        by_i (inr none) = (c, chain_elsewhere new old c d j chain (removes.rest d none old_chain) old_chain h has, sym (chain_without-none c i not_i))

pub removal_leaves_each_without : RemovalLeavesEachWithout
removal_leaves_each_without old new slots i agrees within removes c =
    (λ chain. let e = longer_chain old new slots i agrees within removes c chain in (e.0, e.1, e.2, chain_filled new c chain), back)
  where
    back : (d : Chain) × IsChain old d × (c ≡ chain_without d i) × (items c ≢ []) → IsChain new c
    back p = subst (IsChain new) (sym p.2) (removes_shortens old new i removes p.0 p.1 (λ e. p.3 (ap items p.2 ∙ e)))

pub removal_is_determined_by_pairs : RemovalIsDeterminedByPairs
removal_is_determined_by_pairs old new i agrees agrees_new removes =
    let removal = removed_in_pairs old i agrees in
    pairs_decide new (with_removal old i) agrees_new (removed_agrees old i agrees)
    (λ j. (λ v. (removal.links j).1 ((removes.links j).0 v), λ v. (removes.links j).1 ((removal.links j).0 v)))
    (λ j k. (λ e. (removal.pairs j k).1 ((removes.pairs j k).0 e), λ e. (removes.pairs j k).1 ((removal.pairs j k).0 e)))
