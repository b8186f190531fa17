-- Chains after an exchange: what followed p follows q, and the reverse.
use Rattle.std.specs.Prelude.{◌≡◌, ℕ, List, [], ◌∷◌, ◌++◌, Option, None, Some}
use Rattle.std.proofs.Common.{sym, refl, ap, ◌∙◌, subst, inl, inr, ⊎_elim}
use Rattle.std.proofs.lemmas.List.{append_assoc}
use Rattle.chain_laws.specs.Chains.{LinkMap, Chain, linear, cyclic, items, IsChain, IsMember, AreDistinct, AreLinked, next_of, first_or, last_or}
use Rattle.chain_laws.specs.Exchanges.{with_exchange, ExchangesInOrder, ExchangeExchanges}
use Rattle.chain_laws.proofs.ListLemmas.Members.{IsMember-left, IsMember-right, IsMember-parts, IsMember-middle, IsMember-filled, first_or-append, last_or-append}
use Rattle.chain_laws.proofs.ListLemmas.Members.{AreDistinct-left, AreDistinct-right, AreDistinct-apart, AreDistinct-rotated}
use Rattle.chain_laws.proofs.ChainLemmas.LinkedLists.{link, reports_valid, reports_next, reports_prev, reports_both, AreLinked-append, AreLinked-left, AreLinked-right, AreLinked-at, AreLinked-last}
use Rattle.chain_laws.proofs.ChainLemmas.LinkedLists.{apart_no_repetition, first_no_repetition}
use Rattle.chain_laws.proofs.ChainLemmas.Uniqueness.{chain_once, chain_filled, chains_share, not_both}
use Rattle.chain_laws.proofs.ChainLemmas.NeighborPairs.{before_first, after_last, chain_stored, stored_chain}
use Rattle.chain_laws.proofs.ExchangeLemmas.Swaps.{swapped, swapped_in, swapped-first, swapped-second, swapped-other}
use Rattle.chain_laws.proofs.ExchangeLemmas.Pairs.{AreExchanged, are_exchanged_back, are_exchanged_mutually, exchanged_are, exchanged_with_itself}

abbrev HasNeither : List ℕ → ℕ → ℕ → Type 0
HasNeither xs p q = (IsMember xs p → ⊥) × (IsMember xs q → ⊥)

around_once : (x y : List ℕ) (r : ℕ) → AreDistinct (x ++ r ∷ y) → (IsMember x r → ⊥) × (IsMember y r → ⊥)
around_once x y r once = (λ h. AreDistinct-apart x (r ∷ y) r once h (inl refl), (AreDistinct-right x (r ∷ y) once).0)

first_alike : (x y z : List ℕ) (r : ℕ) (after others : Option ℕ) → first_or (x ++ r ∷ y) after ≡ first_or (x ++ r ∷ z) others
first_alike x y z r after others = first_or-append x (r ∷ y) after ∙ sym (first_or-append x (r ∷ z) others)

last_or-swapped : (p q : ℕ) (xs : List ℕ) (before : Option ℕ) → HasNeither xs p q → swapped_in p q (last_or xs before) ≡ last_or xs (swapped_in p q before)
last_or-swapped p q [] before neither = refl
last_or-swapped p q (x ∷ xs) before neither =
    last_or-swapped p q xs (Some x) (λ h. neither.0 (inr h), λ h. neither.1 (inr h))
    ∙ ap (λ (k : ℕ). last_or xs (Some k)) (swapped-other p q x (λ e. neither.0 (inl e)) (λ e. neither.1 (inl e)))

module _ (old new : LinkMap) (p q : ℕ) (are : AreExchanged old new p q) where
  reports_exchanged : (i : ℕ) (before after : Option ℕ) → old i ≡ Some (link before after)
      → new i ≡ Some (link (swapped_in p q before) (next_of old (swapped p q i)))
  reports_exchanged i before after e =
      reports_both new i (swapped_in p q before) (next_of old (swapped p q i)) ((are.links i).1 (reports_valid old i (link before after) e))
      (are.back i ∙ ap (swapped_in p q) (reports_prev old i before after e)) (are.forward i)

  AreLinked-neither : (before : Option ℕ) (xs : List ℕ) (after : Option ℕ) → HasNeither xs p q → AreLinked old before xs after
      → AreLinked new (swapped_in p q before) xs after
  AreLinked-neither before [] after neither stored = tt
  AreLinked-neither before (x ∷ xs) after neither stored =
      let same : swapped p q x ≡ x = swapped-other p q x (λ e. neither.0 (inl e)) (λ e. neither.1 (inl e)) in (
        reports_exchanged x before (first_or xs after) stored.0
            ∙ ap (λ (o : Option ℕ). Some (link (swapped_in p q before) o)) (ap (next_of old) same ∙ reports_next old x before (first_or xs after) stored.0),
        subst (λ (k : ℕ). AreLinked new (Some k) xs after) same
            (AreLinked-neither (Some x) xs after (λ h. neither.0 (inr h), λ h. neither.1 (inr h)) stored.1),
      )

  AreLinked-after_p : (xs : List ℕ) (after : Option ℕ) → HasNeither xs p q → AreLinked old (Some p) xs after → AreLinked new (Some q) xs after
  AreLinked-after_p xs after neither stored =
      subst (λ (k : ℕ). AreLinked new (Some k) xs after) (swapped-first p q p refl) (AreLinked-neither (Some p) xs after neither stored)

  AreLinked-after_q : (xs : List ℕ) (after : Option ℕ) → HasNeither xs p q → AreLinked old (Some q) xs after → AreLinked new (Some p) xs after
  AreLinked-after_q xs after neither stored =
      subst (λ (k : ℕ). AreLinked new (Some k) xs after) (swapped-second p q q refl) (AreLinked-neither (Some q) xs after neither stored)

  AreLinked-onward : (r : ℕ) (before : Option ℕ) (z : List ℕ) (end : Option ℕ) (y : List ℕ) (after : Option ℕ) → AreLinked old before (r ∷ z) end
      → next_of old (swapped p q r) ≡ first_or y after → AreLinked new (Some r) y after → AreLinked new (swapped_in p q before) (r ∷ y) after
  AreLinked-onward r before z end y after stored follows rest = (
    reports_exchanged r before (first_or z end) stored.0 ∙ ap (λ (o : Option ℕ). Some (link (swapped_in p q before) o)) follows,
    rest,
  )

  AreLinked-through : (before : Option ℕ) (x : List ℕ) (r : ℕ) (z : List ℕ) (end : Option ℕ) (y : List ℕ) (after : Option ℕ) → HasNeither x p q
      → AreLinked old before (x ++ r ∷ z) end → next_of old (swapped p q r) ≡ first_or y after → AreLinked new (Some r) y after
      → AreLinked new (swapped_in p q before) (x ++ r ∷ y) after
  AreLinked-through before x r z end y after neither stored follows rest =
      AreLinked-append new (swapped_in p q before) x (r ∷ y) after
      (AreLinked-neither before x (Some r) neither (AreLinked-left old before x (r ∷ z) end stored))
      (subst (λ (o : Option ℕ). AreLinked new o (r ∷ y) after) (last_or-swapped p q x before neither)
      (AreLinked-onward r (last_or x before) z end y after (AreLinked-right old before x (r ∷ z) end stored) follows rest))

  follows_p : (o : Option ℕ) → next_of old q ≡ o → next_of old (swapped p q p) ≡ o
  follows_p o e = ap (next_of old) (swapped-first p q p refl) ∙ e

  follows_q : (o : Option ℕ) → next_of old p ≡ o → next_of old (swapped p q q) ≡ o
  follows_q o e = ap (next_of old) (swapped-second p q q refl) ∙ e

  last_after_p : (xs : List ℕ) → HasNeither xs p q → swapped_in p q (last_or xs (Some p)) ≡ last_or xs (Some q)
  last_after_p xs neither = last_or-swapped p q xs (Some p) neither ∙ ap (λ (k : ℕ). last_or xs (Some k)) (swapped-first p q p refl)

  last_after_q : (xs : List ℕ) → HasNeither xs p q → swapped_in p q (last_or xs (Some q)) ≡ last_or xs (Some p)
  last_after_q xs neither = last_or-swapped p q xs (Some q) neither ∙ ap (λ (k : ℕ). last_or xs (Some k)) (swapped-second p q q refl)

  linear_chain : (xs : List ℕ) (i : ℕ) → IsMember xs i → AreLinked new None xs None → IsChain new (linear xs)
  linear_chain xs i h stored = (IsMember-filled xs i h, first_no_repetition new xs None stored, stored)

  taken_out : (x m y : List ℕ) → IsChain old (linear (x ++ p ∷ (m ++ q ∷ y))) → IsChain new (linear (x ++ p ∷ y)) × IsChain new (cyclic (m ++ q ∷ []))
  taken_out x m y chain = (
    linear_chain (x ++ p ∷ y) p (IsMember-middle x y p)
        (AreLinked-through None x p (m ++ q ∷ y) None y None not_in_x chain.2 (follows_p (first_or y None) (reports_next old q _ _ at_q.0))
        (AreLinked-after_q y None not_in_y at_q.1)),
    (
      IsMember-filled ring q (IsMember-middle m [] q),
      AreDistinct-rotated (q ∷ []) m (not_in_m.1, AreDistinct-left m (q ∷ y) inner),
      subst (λ (o : Option ℕ). AreLinked new o ring (first_or ring None)) (ap Some (swapped-first p q p refl) ∙ sym (last_or-append m (q ∷ []) None))
          (AreLinked-through (Some p) m q y None [] (first_or ring None) not_in_m from_p
          (follows_q (first_or ring None) (reports_next old p _ _ at_p ∙ first_alike m y [] q None None)) tt),
    ),
  )
    where
      ring : List ℕ
      ring = m ++ q ∷ []

      at_p : old p ≡ Some (link (last_or x None) (first_or (m ++ q ∷ y) None))
      at_p = AreLinked-at old None x (m ++ q ∷ y) None p chain.2

      from_p : AreLinked old (Some p) (m ++ q ∷ y) None
      from_p = (AreLinked-right old None x (p ∷ m ++ q ∷ y) None chain.2).1

      at_q : AreLinked old (last_or m (Some p)) (q ∷ y) None
      at_q = AreLinked-right old (Some p) m (q ∷ y) None from_p

      inner : AreDistinct (m ++ q ∷ y)
      inner = (AreDistinct-right x (p ∷ m ++ q ∷ y) chain.1).1

      p_once : (IsMember x p → ⊥) × (IsMember (m ++ q ∷ y) p → ⊥)
      p_once = around_once x (m ++ q ∷ y) p chain.1

      q_once : (IsMember m q → ⊥) × (IsMember y q → ⊥)
      q_once = around_once m y q inner

      not_in_x : HasNeither x p q
      not_in_x = (p_once.0, λ h. AreDistinct-apart x (p ∷ m ++ q ∷ y) q chain.1 h (inr (IsMember-middle m y q)))

      not_in_m : HasNeither m p q
      not_in_m = (λ h. p_once.1 (IsMember-left m (q ∷ y) p h), q_once.0)

      not_in_y : HasNeither y p q
      not_in_y = (λ h. p_once.1 (IsMember-right m (q ∷ y) p (inr h)), q_once.1)

  taken_in : (x y z : List ℕ) → IsChain old (linear (x ++ p ∷ y)) → IsChain old (cyclic (z ++ q ∷ [])) → IsChain new (linear (x ++ p ∷ (z ++ q ∷ y)))
  taken_in x y z left right =
      linear_chain (x ++ p ∷ (z ++ q ∷ y)) p (IsMember-middle x (z ++ q ∷ y) p)
      (AreLinked-through None x p y None (z ++ q ∷ y) None (p_once.0, λ h. not_left (IsMember-left x (p ∷ y) q h)) left.2
      (follows_p (first_or (z ++ q ∷ y) None) (AreLinked-last old _ ring _ q right.2 right.0 ends ∙ first_alike z [] y q None None))
      (subst (λ (k : ℕ). AreLinked new (Some k) (z ++ q ∷ y) None) (swapped-second p q q refl)
      (AreLinked-through (Some q) z q [] (first_or ring None) y None (λ h. not_right (IsMember-left z (q ∷ []) p h), q_once.0)
      (subst (λ (o : Option ℕ). AreLinked old o ring (first_or ring None)) ends right.2)
      (follows_q (first_or y None) (reports_next old p _ _ (AreLinked-at old None x y None p left.2)))
      (AreLinked-after_p y None (p_once.1, λ h. not_left (IsMember-right x (p ∷ y) q (inr h))) (AreLinked-right old None x (p ∷ y) None left.2).1))))
    where
      ring : List ℕ
      ring = z ++ q ∷ []

      ends : last_or ring None ≡ Some q
      ends = last_or-append z (q ∷ []) None

      p_once : (IsMember x p → ⊥) × (IsMember y p → ⊥)
      p_once = around_once x y p left.1

      q_once : (IsMember z q → ⊥) × (IsMember [] q → ⊥)
      q_once = around_once z [] q right.1

      not_left : IsMember (x ++ p ∷ y) q → ⊥
      not_left h = not_both old (x ++ p ∷ y) ring q left right h (IsMember-middle z [] q)

      not_right : IsMember ring p → ⊥
      not_right h = not_both old (x ++ p ∷ y) ring p left right (IsMember-middle x y p) h

  two_linear : (x y z w : List ℕ) → IsChain old (linear (x ++ p ∷ y)) → IsChain old (linear (z ++ q ∷ w)) → (IsMember (x ++ p ∷ y) q → ⊥)
      → IsChain new (linear (x ++ p ∷ w)) × IsChain new (linear (z ++ q ∷ y))
  two_linear x y z w left right none = (
    linear_chain (x ++ p ∷ w) p (IsMember-middle x w p)
        (AreLinked-through None x p y None w None (p_once.0, λ h. none (IsMember-left x (p ∷ y) q h)) left.2
        (follows_p (first_or w None) (reports_next old q _ _ at_q.0))
        (AreLinked-after_q w None (λ h. not_right (IsMember-right z (q ∷ w) p (inr h)), q_once.1) at_q.1)),
    linear_chain (z ++ q ∷ y) q (IsMember-middle z y q)
        (AreLinked-through None z q w None y None (λ h. not_right (IsMember-left z (q ∷ w) p h), q_once.0) right.2
        (follows_q (first_or y None) (reports_next old p _ _ at_p.0))
        (AreLinked-after_p y None (p_once.1, λ h. none (IsMember-right x (p ∷ y) q (inr h))) at_p.1)),
  )
    where
      at_p : AreLinked old (last_or x None) (p ∷ y) None
      at_p = AreLinked-right old None x (p ∷ y) None left.2

      at_q : AreLinked old (last_or z None) (q ∷ w) None
      at_q = AreLinked-right old None z (q ∷ w) None right.2

      p_once : (IsMember x p → ⊥) × (IsMember y p → ⊥)
      p_once = around_once x y p left.1

      q_once : (IsMember z q → ⊥) × (IsMember w q → ⊥)
      q_once = around_once z w q right.1

      not_right : IsMember (z ++ q ∷ w) p → ⊥
      not_right h = none (chains_share old (linear (z ++ q ∷ w)) (linear (x ++ p ∷ y)) p q right left h (IsMember-middle x y p) (IsMember-middle z w q))

  two_cyclic : (x y : List ℕ) → IsChain old (cyclic (p ∷ x)) → IsChain old (cyclic (q ∷ y)) → (IsMember (p ∷ x) q → ⊥)
      → IsChain new (cyclic (p ∷ y ++ q ∷ x))
  two_cyclic x y left right none =
      (IsMember-filled ring p (inl refl), apart_no_repetition new (last_or ring None) p (y ++ q ∷ x) (Some p) stored not_again, stored)
    where
      ring : List ℕ
      ring = p ∷ y ++ q ∷ x

      not_right : IsMember (q ∷ y) p → ⊥
      not_right h = none (chains_share old (cyclic (q ∷ y)) (cyclic (p ∷ x)) p q right left h (inl refl) (inl refl))

      not_in_x : HasNeither x p q
      not_in_x = (left.1.0, λ h. none (inr h))

      not_in_y : HasNeither y p q
      not_in_y = (λ h. not_right (inr h), right.1.0)

      not_again : IsMember (y ++ q ∷ x) p → ⊥
      not_again h = ⊎_elim not_in_y.0 (⊎_elim (λ e. not_right (inl e)) not_in_x.0) (IsMember-parts y (q ∷ x) p h)

      from_q : AreLinked new (last_or y (Some p)) (q ∷ x) (Some p)
      from_q =
          subst (λ (o : Option ℕ). AreLinked new o (q ∷ x) (Some p)) (last_after_q y not_in_y)
          (AreLinked-onward q (last_or y (Some q)) y (Some q) x (Some p) right.2 (follows_q (first_or x (Some p)) (reports_next old p _ _ left.2.0))
          (AreLinked-after_p x (Some p) not_in_x left.2.1))

      ends : swapped_in p q (last_or x (Some p)) ≡ last_or ring None
      ends = last_after_p x not_in_x ∙ sym (last_or-append y (q ∷ x) (Some p))

      stored : AreLinked new (last_or ring None) ring (Some p)
      stored =
          subst (λ (o : Option ℕ). AreLinked new o ring (Some p)) ends
          (AreLinked-onward p (last_or x (Some p)) x (Some p) (y ++ q ∷ x) (Some p) left.2
          (follows_p (first_or (y ++ q ∷ x) (Some p)) (reports_next old q _ _ right.2.0 ∙ sym (first_or-append y (q ∷ x) (Some p))))
          (AreLinked-append new (Some p) y (q ∷ x) (Some p) (AreLinked-after_q y (Some q) not_in_y right.2.1) from_q))

  one_cyclic : (x y : List ℕ) → IsChain old (cyclic (p ∷ x ++ q ∷ y)) → IsChain new (cyclic (p ∷ y)) × IsChain new (cyclic (q ∷ x))
  one_cyclic x y chain = (
    (IsMember-filled (p ∷ y) p (inl refl), apart_no_repetition new (last_or y (Some p)) p y (Some p) from_p not_in_y.0, from_p),
    (IsMember-filled (q ∷ x) q (inl refl), apart_no_repetition new (last_or x (Some q)) q x (Some q) from_q not_in_x.1, from_q),
  )
    where
      at_q : AreLinked old (last_or x (Some p)) (q ∷ y) (Some p)
      at_q = AreLinked-right old (Some p) x (q ∷ y) (Some p) chain.2.1

      q_once : (IsMember x q → ⊥) × (IsMember y q → ⊥)
      q_once = around_once x y q chain.1.1

      not_in_x : HasNeither x p q
      not_in_x = (λ h. chain.1.0 (IsMember-left x (q ∷ y) p h), q_once.0)

      not_in_y : HasNeither y p q
      not_in_y = (λ h. chain.1.0 (IsMember-right x (q ∷ y) p (inr h)), q_once.1)

      ends : swapped_in p q (last_or (x ++ q ∷ y) (Some p)) ≡ last_or y (Some p)
      ends = ap (swapped_in p q) (last_or-append x (q ∷ y) (Some p)) ∙ last_after_q y not_in_y

      from_p : AreLinked new (last_or y (Some p)) (p ∷ y) (Some p)
      from_p =
          subst (λ (o : Option ℕ). AreLinked new o (p ∷ y) (Some p)) ends
          (AreLinked-onward p (last_or (x ++ q ∷ y) (Some p)) (x ++ q ∷ y) (Some p) y (Some p) chain.2
          (follows_p (first_or y (Some p)) (reports_next old q _ _ at_q.0)) (AreLinked-after_q y (Some p) not_in_y at_q.1))

      from_q : AreLinked new (last_or x (Some q)) (q ∷ x) (Some q)
      from_q =
          subst (λ (o : Option ℕ). AreLinked new o (q ∷ x) (Some q)) (last_after_p x not_in_x)
          (AreLinked-onward q (last_or x (Some p)) y (Some p) x (Some q) at_q
          (follows_q (first_or x (Some q)) (reports_next old p _ _ chain.2.0 ∙ first_or-append x (q ∷ y) (Some p)))
          (AreLinked-after_p x (Some q) not_in_x (AreLinked-left old (Some p) x (q ∷ y) (Some p) chain.2.1)))

  before_neither : (c : Chain) → HasNeither (items c) p q → swapped_in p q (before_first c) ≡ before_first c
  before_neither (linear xs) neither = refl
  before_neither (cyclic xs) neither = last_or-swapped p q xs None neither

  chain_stays : (c : Chain) → HasNeither (items c) p q → IsChain old c → IsChain new c
  chain_stays c neither chain =
      stored_chain new c (chain_filled old c chain) (chain_once old c chain)
      (subst (λ (o : Option ℕ). AreLinked new o (items c) (after_last c)) (before_neither c neither)
      (AreLinked-neither (before_first c) (items c) (after_last c) neither (chain_stored old c chain)))

  exchanges_in_order : ExchangesInOrder old new p q
  exchanges_in_order =
      record {
        taken_out = λ x m y chain. taken_out x m y (subst (λ (zs : List ℕ). IsChain old (linear zs)) (append_assoc x (p ∷ m) (q ∷ y)) chain);
        taken_in = λ x y z left right.
            subst (λ (zs : List ℕ). IsChain new (linear zs)) (sym (append_assoc x (p ∷ z) (q ∷ y))) (taken_in x y z left right);
      }

pub exchanged_exchanges : ExchangeExchanges
exchanged_exchanges link_map p q agrees valid_p valid_q =
    let new = with_exchange link_map p q in
    let are = exchanged_are link_map p q agrees valid_p valid_q in
    let back = are_exchanged_back link_map new p q are in
    record {
      in_order = exchanges_in_order link_map new p q are;
      in_other_order = exchanges_in_order link_map new q p (are_exchanged_mutually link_map new p q are);
      two_linear = two_linear link_map new p q are;
      two_cyclic = two_cyclic link_map new p q are;
      one_cyclic = one_cyclic link_map new p q are;
      itself = λ e c.
          let same : new ≡ link_map = subst (λ (k : ℕ). with_exchange link_map p k ≡ link_map) e (exchanged_with_itself link_map p agrees valid_p) in
          (λ chain. subst (λ (s : LinkMap). IsChain s c) (sym same) chain, λ chain. subst (λ (s : LinkMap). IsChain s c) same chain);
      rest = λ c none_p none_q. (chain_stays link_map new p q are c (none_p, none_q), chain_stays new link_map p q back c (none_p, none_q));
    }
