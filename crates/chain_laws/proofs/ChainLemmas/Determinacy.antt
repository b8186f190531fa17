-- Chains determine the link map, and `Connects` and `AddsLone` the chains.
use Rattle.std.specs.Prelude.{◌≡◌, ℕ, ◌⊎◌, List, [], ◌∷◌, ◌++◌, Option, None, Some}
use Rattle.std.proofs.Common.{sym, refl, ap, ◌∙◌, subst, inl, inr}
use mathlib.Core.Path.{fun_ext}
use Rattle.chain_laws.specs.Chains.{LinkMap, Interlinks, Chain, linear, cyclic, items, IsChain, HasLink, HasLinksWithin, IsWellLinked, IsMember, AreLinked, prev_of, next_of, first_or, last_or}
use Rattle.chain_laws.specs.Joins.{with_join, with_lone, Connects, AddsLone, KeepsChainsWithout, HaveSameChains, ChainsDecide, PairsDecide, JoinIsDetermined, LoneIsDetermined}
use Rattle.chain_laws.proofs.ChainLemmas.NeighborPairs.{same_named}
use Rattle.chain_laws.proofs.ListLemmas.Members.{IsMember-left, IsMember-middle, IsMember-written, IsMember-or_not, last_or-filled, last_or-append}
use Rattle.chain_laws.proofs.ChainLemmas.LinkedLists.{AreLinked-at, reports_next, reports_prev, reports_both}
use Rattle.chain_laws.proofs.ChainLemmas.Uniqueness.{chains_share, not_both, one_linear, one_cyclic}
use Rattle.chain_laws.proofs.ChainLemmas.Rotations.{rotated, rotated_to}
use Rattle.chain_laws.proofs.ChainLemmas.Existence.{ChainOf, stored_in, has_chain}
use Rattle.chain_laws.proofs.JoinLemmas.Chains.{joined_connects}
use Rattle.chain_laws.proofs.JoinLemmas.LoneLinks.{with_lone_adds}

pub AreLinked-same : (left right : LinkMap) (before : Option ℕ) (xs : List ℕ) (after : Option ℕ) (i : ℕ)
    → AreLinked left before xs after → AreLinked right before xs after → IsMember xs i → left i ≡ right i
AreLinked-same left right before [] after i s t h = elim h [ ]
AreLinked-same left right before (x ∷ xs) after i s t (inl e) = subst (λ (j : ℕ). left j ≡ right j) e (s.0 ∙ sym t.0)
AreLinked-same left right before (x ∷ xs) after i s t (inr h) = AreLinked-same left right (Some x) xs after i s.1 t.1 h

pub IsChain-same : (left right : LinkMap) (c : Chain) (i : ℕ) → IsChain left c → IsChain right c → IsMember (items c) i → left i ≡ right i
IsChain-same left right (linear xs) i s t h = AreLinked-same left right None xs None i s.2 t.2 h
IsChain-same left right (cyclic xs) i s t h = AreLinked-same left right (last_or xs None) xs (first_or xs None) i s.2 t.2 h

pub chain_elsewhere : (left right : LinkMap) (c d : Chain) (i : ℕ) → IsChain left c → IsChain left d → IsChain right d → IsMember (items c) i → IsMember (items d) i → IsChain right c
chain_elsewhere left right (linear xs) (linear ys) i c d there h k =
    subst (λ (zs : List ℕ). IsChain right (linear zs)) (sym (one_linear left xs ys i c d h k)) there
chain_elsewhere left right (linear xs) (cyclic ys) i c d there h k = absurd (not_both left xs ys i c d h k)
chain_elsewhere left right (cyclic xs) (linear ys) i c d there h k = absurd (not_both left ys xs i d c k h)
chain_elsewhere left right (cyclic []) (cyclic ys) i c d there h k = elim h [ ]
chain_elsewhere left right (cyclic (x ∷ xs)) (cyclic ys) i c d there h k =
    let w = IsMember-written ys x (chains_share left (cyclic (x ∷ xs)) (cyclic ys) i x c d h k (inl refl)) in
    around w.0 w.1 w.2
  where
    around : (before after : List ℕ) → ys ≡ before ++ x ∷ after → IsChain right (cyclic (x ∷ xs))
    around before after e =
        let here : IsChain left (cyclic (x ∷ after ++ before)) = rotated left before (x ∷ after) (subst (λ (zs : List ℕ). IsChain left (cyclic zs)) e d) in
        let that : IsChain right (cyclic (x ∷ after ++ before)) = rotated right before (x ∷ after) (subst (λ (zs : List ℕ). IsChain right (cyclic zs)) e there) in
        subst (λ (zs : List ℕ). IsChain right (cyclic (x ∷ zs))) (sym (one_cyclic left x xs (after ++ before) c here)) that

pub record NamesChains (Holds : LinkMap → Type 0) (a b : ℕ) : Type 0 where
  pub left : Chain
  pub right : Chain
  pub has_a : IsMember (items left) a
  pub has_b : IsMember (items right) b
  pub left_stored : (new : LinkMap) → Holds new → IsChain new left
  pub right_stored : (new : LinkMap) → Holds new → IsChain new right

pub settled : (old one other : LinkMap) (Holds : LinkMap → Type 0) (a b : ℕ) → ((new : LinkMap) → Holds new → KeepsChainsWithout old new a b)
    → NamesChains Holds a b → Holds one → Holds other → HaveSameChains one other
settled old one other Holds a b keeps settles m n c = (alike one other m n, alike other one n m)
  where
    alike : (left right : LinkMap) → Holds left → Holds right → IsChain left c → IsChain right c
    alike left right l r chain = by (IsMember-or_not (items c) a) (IsMember-or_not (items c) b)
      where
        by : IsMember (items c) a ⊎ (IsMember (items c) a → ⊥) → IsMember (items c) b ⊎ (IsMember (items c) b → ⊥) → IsChain right c
        by (inl h) _ = chain_elsewhere left right c settles.left a chain (settles.left_stored left l) (settles.left_stored right r) h settles.has_a
        by (inr none_a) (inl h) =
            chain_elsewhere left right c settles.right b chain (settles.right_stored left l) (settles.right_stored right r) h settles.has_b
        by (inr none_a) (inr none_b) = (keeps right r c none_a none_b).0 ((keeps left l c none_a none_b).1 chain)

pub end_chain : (link_map : LinkMap) (a : ℕ) → ChainOf link_map a → next_of link_map a ≡ None → (x : List ℕ) × IsChain link_map (linear (x ++ a ∷ []))
end_chain link_map a (stored_in (linear xs) chain has) end = let w = IsMember-written xs a has in by w.0 w.1 w.2
  where
    by : (before after : List ℕ) → xs ≡ before ++ a ∷ after → (x : List ℕ) × IsChain link_map (linear (x ++ a ∷ []))
    by before [] e = (before, subst (λ (zs : List ℕ). IsChain link_map (linear zs)) e chain)
    by before (k ∷ after) e =
        let on = reports_next link_map a _ _ (AreLinked-at link_map None before (k ∷ after) None a (subst (λ (zs : List ℕ). AreLinked link_map None zs None) e chain.2)) in
        absurd (cc)
end_chain link_map a (stored_in (cyclic xs) chain has) end =
    let t = rotated_to link_map xs a chain has in
    by t.0 t.1
  where
    by : (rest : List ℕ) → IsChain link_map (cyclic (a ∷ rest)) → (x : List ℕ) × IsChain link_map (linear (x ++ a ∷ []))
    by [] ring = let on = reports_next link_map a _ _ ring.2.0 in absurd (cc)
    by (k ∷ rest) ring = let on = reports_next link_map a _ _ ring.2.0 in absurd (cc)

pub start_chain : (link_map : LinkMap) (b : ℕ) → ChainOf link_map b → prev_of link_map b ≡ None → (y : List ℕ) × IsChain link_map (linear (b ∷ y))
start_chain link_map b (stored_in (linear xs) chain has) start = let w = IsMember-written xs b has in by w.0 w.1 w.2
  where
    by : (before after : List ℕ) → xs ≡ before ++ b ∷ after → (y : List ℕ) × IsChain link_map (linear (b ∷ y))
    by [] after e = (after, subst (λ (zs : List ℕ). IsChain link_map (linear zs)) e chain)
    by (k ∷ before) after e =
        let back = reports_prev link_map b _ _ (AreLinked-at link_map None (k ∷ before) after None b (subst (λ (zs : List ℕ). AreLinked link_map None zs None) e chain.2)) in
        let last = last_or-filled (k ∷ before) k (inl refl) in
        let some = last.1 None in
        absurd (cc)
start_chain link_map b (stored_in (cyclic xs) chain has) start =
    let t = rotated_to link_map xs b chain has in
    let back = reports_prev link_map b _ _ t.1.2.0 in
    let last = last_or-filled (b ∷ t.0) b (inl refl) in
    let some = last.1 None in
    absurd (cc)

connected : (old : LinkMap) (a b : ℕ) (x y : List ℕ) → IsChain old (linear (x ++ a ∷ [])) → IsChain old (linear (b ∷ y))
    → NamesChains (λ (new : LinkMap). Connects old new a b) a b
connected old a b x y left right = by (IsMember-or_not (x ++ a ∷ []) b)
  where
    in_one : (d : Chain) → IsMember (items d) a → IsMember (items d) b → ((new : LinkMap) → Connects old new a b → IsChain new d)
        → NamesChains (λ (new : LinkMap). Connects old new a b) a b
    in_one d has_a has_b stored = record { left = d; right = d; has_a = has_a; has_b = has_b; left_stored = stored; right_stored = stored }

    by : IsMember (x ++ a ∷ []) b ⊎ (IsMember (x ++ a ∷ []) b → ⊥) → NamesChains (λ (new : LinkMap). Connects old new a b) a b
    by (inl h) =
        let same : x ++ a ∷ [] ≡ b ∷ y = one_linear old (x ++ a ∷ []) (b ∷ y) b left right h (inl refl) in
        in_one (cyclic (x ++ a ∷ [])) (IsMember-middle x [] a) h
        (λ new connects. connects.one (x ++ a ∷ []) left (ap (λ (zs : List ℕ). first_or zs None) same) (last_or-append x (a ∷ []) None))
    by (inr none) =
        in_one (linear ((x ++ a ∷ []) ++ b ∷ y)) (IsMember-left (x ++ a ∷ []) (b ∷ y) a (IsMember-middle x [] a)) (IsMember-middle (x ++ a ∷ []) y b)
        (λ new connects. connects.two x y left right none)

pub join_is_determined : JoinIsDetermined
join_is_determined old new slots a b agrees within ends connects =
    let x = end_chain old a (has_chain old slots agrees within a ends.valid_end) ends.end in
    let y = start_chain old b (has_chain old slots agrees within b ends.valid_start) ends.start in
    settled old new (with_join old a b) (λ (s : LinkMap). Connects old s a b) a b (λ s made. made.rest)
    (connected old a b x.0 y.0 x.1 y.1) connects (joined_connects old a b)

added_alike : (old left right : LinkMap) (q : ℕ) → AddsLone old left q → AddsLone old right q → (c : Chain) → IsChain left c → IsChain right c
added_alike old left right q l r c chain = by (IsMember-or_not (items c) q)
  where
    by : IsMember (items c) q ⊎ (IsMember (items c) q → ⊥) → IsChain right c
    by (inl h) = chain_elsewhere left right c (linear (q ∷ [])) q chain l.alone r.alone h (inl refl)
    by (inr none) = (r.rest c none).0 ((l.rest c none).1 chain)

pub lone_is_determined : LoneIsDetermined
lone_is_determined old new q free adds c =
    let lone = with_lone_adds old q free in
    (added_alike old new (with_lone old q) q adds lone c, added_alike old (with_lone old q) new q lone adds c)

reports_alike : (left right : LinkMap) (slots : ℕ) → IsWellLinked left → HasLinksWithin left slots → HaveSameChains left right → (i : ℕ) → HasLink left i → left i ≡ right i
reports_alike left right slots agrees within same i valid = by (has_chain left slots agrees within i valid)
  where
    by : ChainOf left i → left i ≡ right i
    by (stored_in c chain has) = IsChain-same left right c i chain ((same c).0 chain) has

pub chains_decide : ChainsDecide
chains_decide left right slots agrees_left agrees_right within_left within_right same = fun_ext (λ i. by i (left i) refl (right i) refl)
  where
    by : (i : ℕ) (o : Option Interlinks) → left i ≡ o → (p : Option Interlinks) → right i ≡ p → left i ≡ right i
    by i (Some l) e p f = reports_alike left right slots agrees_left within_left same i (record { link = l; links = e })
    by i None e None f = e ∙ sym f
    by i None e (Some m) f = sym (reports_alike right left slots agrees_right within_right (λ c. ((same c).1, (same c).0)) i (record { link = m; links = f }))

pub pairs_decide : PairsDecide
pairs_decide left right agrees_left agrees_right links pairs = fun_ext (λ i. by i (left i) refl (right i) refl)
  where
    next_same : (i : ℕ) → next_of left i ≡ next_of right i
    next_same i = same_named (next_of left i) (next_of right i) (pairs i)

    prev_same : (i : ℕ) → prev_of left i ≡ prev_of right i
    prev_same i = same_named (prev_of left i) (prev_of right i)
        (λ j. (λ e. (agrees_right.both j i).0 ((pairs j i).0 ((agrees_left.both j i).1 e)), λ e. (agrees_left.both j i).0 ((pairs j i).1 ((agrees_right.both j i).1 e))))

    valid_same : (i : ℕ) → HasLink left i → left i ≡ right i
    valid_same i valid =
        reports_both left i (prev_of right i) (next_of right i) valid (prev_same i) (next_same i)
        ∙ sym (reports_both right i (prev_of right i) (next_of right i) ((links i).0 valid) refl refl)

    by : (i : ℕ) (o : Option Interlinks) → left i ≡ o → (p : Option Interlinks) → right i ≡ p → left i ≡ right i
    by i (Some l) e p f = valid_same i (record { link = l; links = e })
    by i None e None f = e ∙ sym f
    by i None e (Some m) f = valid_same i ((links i).1 (record { link = m; links = f }))
