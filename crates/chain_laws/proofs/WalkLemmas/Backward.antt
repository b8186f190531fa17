-- A walker passes the walk back: to the start and then from the end, or around a ring.
use Rattle.std.specs.Prelude.{◌≡◌, ◌↔◌, ℕ, zero, suc, ◌+◌, ◌≤◌, List, [], ◌∷◌, ◌++◌, reverse, length, Option, None, Some}
use Rattle.std.proofs.Common.{sym, refl, ap, ◌∙◌, subst, inl, inr, ⊎_elim, arith, length-append}
use Rattle.std.proofs.lemmas.List.{length-reverse}
use mathlib.Core.List.{reverse_aux, reverse_aux-eq}
use Rattle.chain_laws.specs.Chains.{LinkMap, Chain, linear, cyclic, items, IsChain, HasLink, HasLinksWithin, IsWellLinked, IsMember, AreDistinct, AreLinked, prev_in, next_in, prev_of, first_or, last_or}
use Rattle.chain_laws.specs.Walks.{of_linear, of_cyclic, step_forward}
use Rattle.chain_laws.specs.WalksBack.{IsWalkBack, of_linear, of_cyclic, end_from, end_of, step_to, back_ahead, WalksBackAhead, HasNoOtherWalkBack, BackPassesTheChain, CyclicWalkBackIsReversed}
use Rattle.chain_laws.proofs.ListLemmas.Members.{IsMember-left, IsMember-right, IsMember-parts, IsMember-written, AreDistinct-left, AreDistinct-right, AreDistinct-apart, AreDistinct-append, length_bound}
use Rattle.chain_laws.proofs.ChainLemmas.LinkedLists.{AreLinked-left, AreLinked-right}
use Rattle.chain_laws.proofs.ChainLemmas.Uniqueness.{chain_valid, chains_share}
use Rattle.chain_laws.proofs.ChainLemmas.Rotations.{rotated_to}
use Rattle.chain_laws.proofs.ChainLemmas.Existence.{ChainOf, stored_in, has_chain}
use Rattle.chain_laws.proofs.InterlinkLemmas.Inverses.{if_same}
use Rattle.chain_laws.proofs.WalkLemmas.Walker.{step_forward-other, first_or-reversed, no_other_walk}
use Rattle.chain_laws.proofs.WalkLemmas.Members.{IsMember-reversed, IsMember-back, AreDistinct-reversed}

step_to-start : (start end : ℕ) → step_to start end (Some start) ≡ None
step_to-start start end = if_same start start None (Some start) refl

step_to-last : (start end : ℕ) (xs : List ℕ) (before : Option ℕ) → (IsMember xs start → ⊥) → step_to start end (last_or xs before) ≡ last_or xs (step_to start end before)
step_to-last start end [] before none = refl
step_to-last start end (x ∷ xs) before none =
    step_to-last start end xs (Some x) (λ h. none (inr h)) ∙ ap (λ (o : Option ℕ). last_or xs o) (step_forward-other start x (λ e. none (inl e)))

abbrev StepsBackTo : LinkMap → ℕ → ℕ → List ℕ → Type 0
StepsBackTo link_map start end [] = Unit {0}
StepsBackTo link_map start end (z ∷ zs) = (step_to start end (prev_of link_map z) ≡ first_or zs None) × StepsBackTo link_map start end zs

back_passes : (left : ℕ) (link_map : LinkMap) (start end : ℕ) (zs : List ℕ) → StepsBackTo link_map start end zs → length zs ≤ left → back_ahead left link_map start end (first_or zs None) ≡ zs
back_passes zero link_map start end [] steps enough = refl
back_passes (suc left) link_map start end [] steps enough = refl
back_passes zero link_map start end (z ∷ zs) steps enough = absurd (omega arith)
back_passes (suc left) link_map start end (z ∷ zs) steps enough =
    ap (λ (w : List ℕ). z ∷ w) (ap (λ (o : Option ℕ). back_ahead left link_map start end o) steps.0 ∙ back_passes left link_map start end zs steps.1 (omega arith))

StepsBackTo-reversed : (link_map : LinkMap) (start end : ℕ) (xs zs : List ℕ) (before after : Option ℕ) → step_to start end before ≡ first_or zs None → AreLinked link_map before xs after → (IsMember xs start → ⊥)
    → StepsBackTo link_map start end zs → StepsBackTo link_map start end (reverse_aux xs zs)
StepsBackTo-reversed link_map start end [] zs before after on stored none steps = steps
StepsBackTo-reversed link_map start end (x ∷ xs) zs before after on stored none steps =
    StepsBackTo-reversed link_map start end xs (x ∷ zs) (Some x) after (step_forward-other start x (λ e. none (inl e))) stored.1 (λ h. none (inr h))
    (ap (λ o. step_to start end (prev_in o)) stored.0 ∙ on, steps)

end_found : (steps : ℕ) (link_map : LinkMap) (start : ℕ) (before : Option ℕ) (y : ℕ) (ys : List ℕ) → AreLinked link_map before (y ∷ ys) None → (IsMember ys start → ⊥) → length ys ≤ steps
    → Some (end_from steps link_map start y) ≡ last_or ys (Some y)
end_found zero link_map start before y [] stored none enough = refl
end_found zero link_map start before y (k ∷ ks) stored none enough = absurd (omega arith)
end_found (suc steps) link_map start before y [] stored none enough =
    ap (λ (o : Option ℕ). let e : Option ℕ = Some (elim (step_forward start o) [ None ↦ y | Some k ↦ end_from steps link_map start k ]) in e) (ap next_in stored.0)
end_found (suc steps) link_map start before y (k ∷ ks) stored none enough =
    let to : Option ℕ → Option ℕ = λ o. Some (elim o [ None ↦ y | Some j ↦ end_from steps link_map start j ]) in
    ap (λ (o : Option ℕ). to (step_forward start o)) (ap next_in stored.0)
    ∙ (ap to (step_forward-other start k (λ e. none (inl e)))
    ∙ end_found steps link_map start (Some y) k ks stored.1 (λ h. none (inr h)) (omega arith))

after_steps : (link_map : LinkMap) (i end : ℕ) (after : List ℕ) (on : Option ℕ) → AreLinked link_map (Some i) after on → (IsMember after i → ⊥) → StepsBackTo link_map i end (reverse after)
after_steps link_map i end after on stored none = StepsBackTo-reversed link_map i end after [] (Some i) on (step_to-start i end) stored none tt

step_to-after : (i end : ℕ) (after : List ℕ) → (IsMember after i → ⊥) → step_to i end (last_or after (Some i)) ≡ first_or (reverse after) None
step_to-after i end after none =
    step_to-last i end after (Some i) none ∙ (ap (λ (o : Option ℕ). last_or after o) (step_to-start i end) ∙ sym (first_or-reversed after []))

pub back_passed : (left steps : ℕ) (link_map : LinkMap) (i : ℕ) (walk : List ℕ) → IsWalkBack link_map i walk → length walk ≤ left → length walk ≤ steps → back_ahead left link_map i (end_of steps link_map i) (Some i) ≡ walk
back_passed left steps link_map i _ (of_linear before after chain) enough steps_enough =
    back_passes left link_map i end (i ∷ reverse before ++ reverse after) (first, rest) enough
  where
    end : ℕ
    end = end_of steps link_map i

    stored : AreLinked link_map (last_or before None) (i ∷ after) None
    stored = AreLinked-right link_map None before (i ∷ after) None chain.2

    none : IsMember after i → ⊥
    none = (AreDistinct-right before (i ∷ after) chain.1).0

    none_before : IsMember before i → ⊥
    none_before h = AreDistinct-apart before (i ∷ after) i chain.1 h (inl refl)

    short : length after ≤ steps
    short =
        let long = length-append (reverse before) (reverse after) in
        let same = length-reverse after in
        omega (arith, steps_enough, long, same)

    from_end : step_to i end None ≡ first_or (reverse after) None
    from_end = ap (step_to i end) (end_found steps link_map i (last_or before None) i after stored none short) ∙ step_to-after i end after none

    parts : reverse_aux before (reverse after) ≡ reverse before ++ reverse after
    parts = reverse_aux-eq before (reverse after)

    rest : StepsBackTo link_map i end (reverse before ++ reverse after)
    rest = subst (StepsBackTo link_map i end) parts
        (StepsBackTo-reversed link_map i end before (reverse after) None (Some i) from_end (AreLinked-left link_map None before (i ∷ after) None chain.2) none_before
        (after_steps link_map i end after None stored.1 none))

    first : step_to i end (prev_of link_map i) ≡ first_or (reverse before ++ reverse after) None
    first = ap (λ o. step_to i end (prev_in o)) stored.0
        ∙ (step_to-last i end before None none_before
        ∙ (ap (λ (o : Option ℕ). last_or before o) from_end
        ∙ (sym (first_or-reversed before (reverse after)) ∙ ap (λ (zs : List ℕ). first_or zs None) parts)))
back_passed left steps link_map i _ (of_cyclic after chain) enough steps_enough =
    let end = end_of steps link_map i in
    back_passes left link_map i end (i ∷ reverse after)
    (ap (λ o. step_to i end (prev_in o)) chain.2.0 ∙ step_to-after i end after chain.1.0, after_steps link_map i end after (Some i) chain.2.1 chain.1.0) enough

pub no_other_walk_back : HasNoOtherWalkBack
no_other_walk_back link_map i walk other is_walk is_other =
    let left = length walk + length other in
    sym (back_passed left left link_map i walk is_walk (omega arith) (omega arith)) ∙ back_passed left left link_map i other is_other (omega arith) (omega arith)

pub back_starts : (link_map : LinkMap) (i : ℕ) (walk : List ℕ) → IsWalkBack link_map i walk → IsMember walk i
back_starts link_map i _ (of_linear before after chain) = inl refl
back_starts link_map i _ (of_cyclic after chain) = inl refl

IsMember-forth : (xs : List ℕ) (y : ℕ) → IsMember xs y → IsMember (reverse xs) y
IsMember-forth xs y h = (IsMember-reversed xs [] y).1 (inl h)

pub back_once : (link_map : LinkMap) (i : ℕ) (walk : List ℕ) → IsWalkBack link_map i walk → AreDistinct walk
back_once link_map i _ (of_linear before after chain) = (not_again, both)
  where
    right : AreDistinct (i ∷ after)
    right = AreDistinct-right before (i ∷ after) chain.1

    apart : (y : ℕ) → IsMember before y → IsMember (i ∷ after) y → ⊥
    apart y = AreDistinct-apart before (i ∷ after) y chain.1

    not_again : IsMember (reverse before ++ reverse after) i → ⊥
    not_again h = ⊎_elim (λ k. apart i (IsMember-back before i k) (inl refl)) (λ k. right.0 (IsMember-back after i k)) (IsMember-parts (reverse before) (reverse after) i h)

    both : AreDistinct (reverse before ++ reverse after)
    both = AreDistinct-append (reverse before) (reverse after)
        (AreDistinct-reversed before [] (AreDistinct-left before (i ∷ after) chain.1) tt (λ y h n. n))
        (AreDistinct-reversed after [] right.1 tt (λ y h n. n))
        (λ y h k. apart y (IsMember-back before y h) (inr (IsMember-back after y k)))
back_once link_map i _ (of_cyclic after chain) = (λ h. chain.1.0 (IsMember-back after i h), AreDistinct-reversed after [] chain.1.1 tt (λ y h n. n))

pub back_chain : (link_map : LinkMap) (i : ℕ) (walk : List ℕ) → IsWalkBack link_map i walk → (c : Chain) × IsChain link_map c × ((j : ℕ) → IsMember walk j ↔ IsMember (items c) j)
back_chain link_map i _ (of_linear before after chain) = (linear (before ++ i ∷ after), chain, λ j. (there j, back j))
  where
    there : (j : ℕ) → IsMember (i ∷ reverse before ++ reverse after) j → IsMember (before ++ i ∷ after) j
    there j (inl e) = IsMember-right before (i ∷ after) j (inl e)
    there j (inr h) = ⊎_elim (λ k. IsMember-left before (i ∷ after) j (IsMember-back before j k)) (λ k. IsMember-right before (i ∷ after) j (inr (IsMember-back after j k)))
        (IsMember-parts (reverse before) (reverse after) j h)

    behind : (j : ℕ) → IsMember (i ∷ after) j → IsMember (i ∷ reverse before ++ reverse after) j
    behind j (inl e) = inl e
    behind j (inr h) = inr (IsMember-right (reverse before) (reverse after) j (IsMember-forth after j h))

    back : (j : ℕ) → IsMember (before ++ i ∷ after) j → IsMember (i ∷ reverse before ++ reverse after) j
    back j h = ⊎_elim (λ k. inr (IsMember-left (reverse before) (reverse after) j (IsMember-forth before j k))) (behind j) (IsMember-parts before (i ∷ after) j h)
back_chain link_map i _ (of_cyclic after chain) =
    (cyclic (i ∷ after), chain, λ j. (λ h. ⊎_elim (λ e. inl e) (λ k. inr (IsMember-back after j k)) h, λ h. ⊎_elim (λ e. inl e) (λ k. inr (IsMember-forth after j k)) h))

pub back_has : BackPassesTheChain
back_has link_map i walk c is_walk chain has j =
    let own = back_chain link_map i walk is_walk in
    let own_has : IsMember (items own.0) i = (own.2 i).0 (back_starts link_map i walk is_walk) in (
      λ h. chains_share link_map own.0 c i j own.1 chain own_has has ((own.2 j).0 h),
      λ h. (own.2 j).1 (chains_share link_map c own.0 i j chain own.1 has own_has h),
    )

pub back_valid : (link_map : LinkMap) (i : ℕ) (walk : List ℕ) → IsWalkBack link_map i walk → (j : ℕ) → IsMember walk j → HasLink link_map j
back_valid link_map i walk is_walk j h =
    let own = back_chain link_map i walk is_walk in
    chain_valid link_map own.0 j own.1 ((own.2 j).0 h)

pub back_bound : (link_map : LinkMap) (slots i : ℕ) (walk : List ℕ) → HasLinksWithin link_map slots → IsWalkBack link_map i walk → length walk ≤ slots
back_bound link_map slots i walk within is_walk =
    length_bound walk slots (back_once link_map i walk is_walk) (λ j h. within.within j (back_valid link_map i walk is_walk j h))

back_of_chain : (link_map : LinkMap) (i : ℕ) (c : Chain) → IsChain link_map c → IsMember (items c) i → (walk : List ℕ) × IsWalkBack link_map i walk
back_of_chain link_map i (linear xs) chain has =
    let w = IsMember-written xs i has in
    (i ∷ reverse w.0 ++ reverse w.1, of_linear w.0 w.1 (subst (λ (zs : List ℕ). IsChain link_map (linear zs)) w.2 chain))
back_of_chain link_map i (cyclic xs) chain has =
    let t = rotated_to link_map xs i chain has in
    (i ∷ reverse t.0, of_cyclic t.0 t.1)

pub has_walk_back : (link_map : LinkMap) (slots i : ℕ) → IsWellLinked link_map → HasLinksWithin link_map slots → HasLink link_map i → (walk : List ℕ) × IsWalkBack link_map i walk
has_walk_back link_map slots i agrees within valid = by (has_chain link_map slots agrees within i valid)
  where
    by : ChainOf link_map i → (walk : List ℕ) × IsWalkBack link_map i walk
    by (stored_in c chain has) = back_of_chain link_map i c chain has

pub walks_back_ahead : WalksBackAhead
walks_back_ahead link_map slots i agrees within valid =
    let walk = has_walk_back link_map slots i agrees within valid in
    let short = back_bound link_map slots i walk.0 within walk.1 in
    subst (IsWalkBack link_map i) (sym (back_passed slots slots link_map i walk.0 walk.1 short short)) walk.1

pub cyclic_reversed : CyclicWalkBackIsReversed
cyclic_reversed link_map i xs rest chain has walk =
    let t = rotated_to link_map xs i chain has in
    let same = no_other_walk link_map i (i ∷ rest) (i ∷ t.0) walk (of_cyclic t.0 t.1) in
    let rests : rest ≡ t.0 = cc in
    subst (λ (zs : List ℕ). IsWalkBack link_map i (i ∷ reverse zs)) (sym rests) (of_cyclic t.0 t.1)
