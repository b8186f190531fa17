-- The next chain in order, and its rest once the first link is removed.
use Rattle.std.proofs.Common.{◌≡◌, ◌≢◌, ℕ, ◌≤◌, ◌⊎◌, inl, inr, Bool, true, false, List, [], ◌∷◌, ◌++◌, Option, None, Some, refl, sym, ap, ◌∙◌, subst, arith}
use Rattle.std.specs.Prelude.{is_some}
use Rattle.chain_laws.specs.Chains.{LinkMap, Chain, linear, cyclic, items, all_items, HasChain, IsMember, AreDistinct, IsChain, HasLink, StartsAtLeast, first_or, prev_in, next_in, prev_of, next_of}
use Rattle.chain_laws.specs.Removals.{with_removal}
use Rattle.chain_laws.specs.Walks.{step_forward}
use Rattle.chain_laws.specs.ChainStart.{IsStart, chain_of, LeastIsNext}
use Rattle.chain_laws.specs.Transfer.{with_rest, FirstIsTaken}
use Rattle.chain_laws.proofs.ListLemmas.Members.{IsMember-right, IsMember-parts, last_or-filled}
use Rattle.chain_laws.proofs.ChainLemmas.Uniqueness.{chain_valid, written_least}
use Rattle.chain_laws.proofs.ChainLemmas.ChainLists.{IsMember-all_items}
use Rattle.chain_laws.proofs.InterlinkLemmas.Inverses.{if_same}
use Rattle.chain_laws.proofs.WalkLemmas.Walker.{step_forward-other}
use Rattle.chain_laws.proofs.RemovalLemmas.Pairs.{HasLink-removed}
use Rattle.chain_laws.proofs.RemovalLemmas.Chains.{removed_from_linear, removed_first_of_cyclic, removed_rest}

module _ (link_map : LinkMap) (here : ℕ) where
  linear_first : (xs : List ℕ) → IsChain link_map (linear xs) → first_or xs None ≡ Some here
      → (ys : List ℕ) × (linear xs ≡ chain_of (is_some (prev_of link_map here)) (here ∷ ys)) × (xs ≡ here ∷ ys)
  linear_first [] h e = absurd (cc)
  linear_first (x ∷ ys) h e =
      let same : x ≡ here = cc in
      let none : prev_of link_map here ≡ None = ap (prev_of link_map) (sym same) ∙ ap prev_in h.2.0 in
      (ys, ap (λ (zs : List ℕ). linear zs) (ap (λ (z : ℕ). z ∷ ys) same) ∙ sym (ap (λ (o : Option ℕ). chain_of (is_some o) (here ∷ ys)) none), ap (λ (z : ℕ). z ∷ ys) same)

  cyclic_first : (x : ℕ) (xs : List ℕ) → IsChain link_map (cyclic (x ∷ xs)) → here ≡ x
      → (ys : List ℕ) × (cyclic (x ∷ xs) ≡ chain_of (is_some (prev_of link_map here)) (here ∷ ys)) × (x ∷ xs ≡ here ∷ ys)
  cyclic_first x xs h e =
      let l = last_or-filled (x ∷ xs) x (inl refl) in
      let some : prev_of link_map here ≡ Some l.0 = ap (prev_of link_map) e ∙ (ap prev_in h.2.0 ∙ l.1 None) in
      (xs, ap (λ (z : ℕ). cyclic (z ∷ xs)) (sym e) ∙ sym (ap (λ (o : Option ℕ). chain_of (is_some o) (here ∷ xs)) some), ap (λ (z : ℕ). z ∷ xs) (sym e))

  from_start : (c : Chain) (i : ℕ) → IsChain link_map c → StartsAtLeast c → IsMember (items c) i → ((j : ℕ) → HasLink link_map j → i ≤ j) → IsStart link_map i here
      → (ys : List ℕ) × (c ≡ chain_of (is_some (prev_of link_map here)) (here ∷ ys)) × (items c ≡ here ∷ ys)
  from_start (linear xs) i h w m least start = linear_first xs h (start.in_linear xs h m)
  from_start (cyclic []) i h w m least start = absurd m
  from_start (cyclic (x ∷ xs)) i h w m least start =
      let low : x ≤ i = written_least x xs i w m in
      let high : i ≤ x = least x (chain_valid link_map (cyclic (x ∷ xs)) x h (inl refl)) in
      let same : x ≡ i = omega arith in
      cyclic_first x xs h (start.in_cyclic xs (subst (λ (z : ℕ). IsChain link_map (cyclic (z ∷ xs))) same h) ∙ sym same)

pub least_is_next : LeastIsNext
least_is_next link_map [] i here are order valid least start = absurd (are.all i valid)
least_is_next link_map (c ∷ rest) i here are order valid least start =
    let m = order.ascends.0 in
    let own = in_first (IsMember-parts (items c) (all_items rest) i (are.all i valid)) in
    let w = from_start link_map here c i (are.each c (inl refl)) (order.written c (inl refl)) own least start in
    (w.0, rest, ap (λ (d : Chain). d ∷ rest) w.1, subst (λ (zs : List ℕ). IsMember zs i) w.2 own)
  where
    in_first : IsMember (items c) i ⊎ IsMember (all_items rest) i → IsMember (items c) i
    in_first (inl h) = h
    in_first (inr h) =
        let low = order.ascends.0.2 i h in
        let high = least order.ascends.0.0 (chain_valid link_map c order.ascends.0.0 (are.each c (inl refl)) order.ascends.0.1) in
        absurd (omega arith)

left_chain : (link_map : LinkMap) (ring : Bool) (x : ℕ) (xs : List ℕ) → IsChain link_map (chain_of ring (x ∷ xs)) → xs ≢ [] → IsChain (with_removal link_map x) (chain_of ring xs)
left_chain link_map false x xs h filled = removed_from_linear link_map x [] xs h filled
left_chain link_map true x xs h filled = removed_first_of_cyclic link_map x xs h filled

next_left : (link_map : LinkMap) (ring : Bool) (x : ℕ) (xs : List ℕ) → IsChain link_map (chain_of ring (x ∷ xs)) → step_forward x (next_of link_map x) ≡ first_or xs None
next_left link_map false x [] h = ap (λ (o : Option _). step_forward x (next_in o)) h.2.0
next_left link_map false x (y ∷ xs) h = ap (λ (o : Option _). step_forward x (next_in o)) h.2.0 ∙ step_forward-other x y (λ e. h.1.0 (inl e))
next_left link_map true x [] h = ap (λ (o : Option _). step_forward x (next_in o)) h.2.0 ∙ if_same x x None (Some x) refl
next_left link_map true x (y ∷ xs) h = ap (λ (o : Option _). step_forward x (next_in o)) h.2.0 ∙ step_forward-other x y (λ e. h.1.0 (inl e))

pub items_of : (ring : Bool) (xs : List ℕ) → items (chain_of ring xs) ≡ xs
items_of false xs = refl
items_of true xs = refl

pub items_left : (ring : Bool) (xs : List ℕ) (rest : List Chain) → all_items (with_rest ring xs rest) ≡ xs ++ all_items rest
items_left ring [] rest = refl
items_left ring (x ∷ xs) rest = ap (λ (zs : List ℕ). zs ++ all_items rest) (items_of ring (x ∷ xs))

pub first_is_taken : FirstIsTaken
first_is_taken link_map ring x xs rest agrees are = (record { each = each xs refl; once = subst AreDistinct (sym (items_left ring xs rest)) once.1; all = all }, next_left link_map ring x xs first)
  where
    first : IsChain link_map (chain_of ring (x ∷ xs))
    first = are.each (chain_of ring (x ∷ xs)) (inl refl)

    written : all_items (chain_of ring (x ∷ xs) ∷ rest) ≡ x ∷ xs ++ all_items rest
    written = ap (λ (zs : List ℕ). zs ++ all_items rest) (items_of ring (x ∷ xs))

    once : AreDistinct (x ∷ xs ++ all_items rest)
    once = subst AreDistinct written are.once

    others : (c : Chain) → HasChain rest c → IsChain (with_removal link_map x) c
    others c h = removed_rest link_map x agrees c (λ m. once.0 (IsMember-right xs (all_items rest) x (IsMember-all_items rest c x h m))) (are.each c (inr h))

    each : (ys : List ℕ) → xs ≡ ys → (c : Chain) → HasChain (with_rest ring ys rest) c → IsChain (with_removal link_map x) c
    each [] e c h = others c h
    each (y ∷ ys) e c (inl same) = subst (IsChain (with_removal link_map x)) same (subst (λ (zs : List ℕ). IsChain (with_removal link_map x) (chain_of ring zs)) e (left_chain link_map ring x xs first (λ empty. cc)))
    each (y ∷ ys) e c (inr h) = others c h

    among : (j : ℕ) → j ≢ x → IsMember (x ∷ xs ++ all_items rest) j → IsMember (xs ++ all_items rest) j
    among j ne (inl same) = absurd (ne (sym same))
    among j ne (inr h) = h

    all : (j : ℕ) → HasLink (with_removal link_map x) j → IsMember (all_items (with_rest ring xs rest)) j
    all j v =
        let w = (HasLink-removed link_map x j).0 v in
        subst (λ (zs : List ℕ). IsMember zs j) (sym (items_left ring xs rest)) (among j w.1 (subst (λ (zs : List ℕ). IsMember zs j) written (are.all j w.0)))
