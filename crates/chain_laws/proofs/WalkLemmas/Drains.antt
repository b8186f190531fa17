-- The links of a walk removed one after another: the rest is always a walk.
use Rattle.std.specs.Prelude.{◌≡◌, ◌≢◌, ℕ, List, [], ◌∷◌, ◌++◌, reverse, Bool, if◌then◌else◌, is_some, Option, None, Some}
use Rattle.std.specs.Option.{option_or}
use Rattle.std.proofs.Common.{sym, refl, ap, ap₂, ◌∙◌, subst, inl, inr, ⊎_elim, append-nil}
use mathlib.Core.List.{reverse_aux}
use Rattle.chain_laws.specs.Chains.{LinkMap, Interlinks, Chain, linear, cyclic, items, IsChain, HasLink, HasLinksWithin, IsWellLinked, IsMember, prev_in, next_in, prev_of, next_of, first_or, last_or}
use Rattle.chain_laws.specs.Removals.{with_removal, without_link}
use Rattle.chain_laws.specs.Walks.{IsWalk, of_linear, of_cyclic, walk_ahead, step_forward, rest_start_of, walk_from, with_removals, RemovalLeavesTheWalk, TakesWalk, WalkIsTaken}
use Rattle.chain_laws.proofs.ListLemmas.Members.{IsMember-left, IsMember-filled, IsMember-middle, AreDistinct-right, AreDistinct-apart, last_or-append, last_apart}
use Rattle.chain_laws.proofs.ChainLemmas.LinkedLists.{link, AreLinked-right, AreLinked-frame}
use Rattle.chain_laws.proofs.InterlinkLemmas.Inverses.{if_same, one_some, not_both_ways}
use Rattle.chain_laws.proofs.InterlinkLemmas.Linked.{linked-elsewhere}
use Rattle.chain_laws.proofs.ChainLemmas.Uniqueness.{chain_closed, chain_valid}
use Rattle.chain_laws.proofs.RemovalLemmas.Pairs.{vacated-elsewhere, removed-at, removed_agrees, HasLink-removed}
use Rattle.chain_laws.proofs.RemovalLemmas.Chains.{removed_from_linear, removed_first_of_cyclic}
use Rattle.chain_laws.proofs.WalkLemmas.Walker.{step_forward-other, no_other_walk}
use Rattle.chain_laws.proofs.WalkLemmas.Members.{walk_chain, walk_once, walk_starts, walk_valid, walks_ahead}

abbrev rest_of : List ℕ → List ℕ
rest_of [] = []
rest_of (x ∷ xs) = xs

last_reversed : (xs : List ℕ) (k : ℕ) (zs : List ℕ) → reverse_aux (xs ++ k ∷ []) zs ≡ k ∷ reverse_aux xs zs
last_reversed [] k zs = refl
last_reversed (x ∷ xs) k zs = last_reversed xs k (x ∷ zs)

rest_by : (link_map : LinkMap) (i : ℕ) (before after : Option ℕ) → link_map i ≡ Some (link before after) → rest_start_of link_map i ≡ option_or (step_forward i after) (step_forward i before)
rest_by link_map i before after e = ap (λ (o : Option Interlinks). option_or (step_forward i (next_in o)) (step_forward i (prev_in o))) e

rest_forward : (link_map : LinkMap) (i k : ℕ) (before : Option ℕ) → link_map i ≡ Some (link before (Some k)) → k ≢ i → rest_start_of link_map i ≡ Some k
rest_forward link_map i k before e ne = rest_by link_map i before (Some k) e ∙ ap (λ (o : Option ℕ). option_or o (step_forward i before)) (step_forward-other i k ne)

rest_back : (link_map : LinkMap) (i k : ℕ) → link_map i ≡ Some (link (Some k) None) → k ≢ i → rest_start_of link_map i ≡ Some k
rest_back link_map i k e ne = rest_by link_map i (Some k) None e ∙ step_forward-other i k ne

record LeavesWalk (link_map : LinkMap) (i : ℕ) (rest : List ℕ) : Type 0 where
  first : first_or rest None ≡ rest_start_of link_map i
  walk : (k : ℕ) → first_or rest None ≡ Some k → IsWalk (with_removal link_map i) k rest

leaves_from : (link_map : LinkMap) (i k : ℕ) (rest : List ℕ) → rest_start_of link_map i ≡ Some k → first_or rest None ≡ Some k → IsWalk (with_removal link_map i) k rest → LeavesWalk link_map i rest
leaves_from link_map i k rest empties first walk = record {
  first = first ∙ sym empties;
  walk = λ j e. subst (λ (n : ℕ). IsWalk (with_removal link_map i) n rest) (one_some (sym first ∙ e)) walk;
}

leaves_back : (link_map : LinkMap) (i k : ℕ) (before : List ℕ) → IsChain link_map (linear ((before ++ k ∷ []) ++ i ∷ [])) → LeavesWalk link_map i (reverse (before ++ k ∷ []))
leaves_back link_map i k before chain =
    let left = before ++ k ∷ [] in
    let stored : link_map i ≡ Some (link (last_or left None) None) = (AreLinked-right link_map None left (i ∷ []) None chain.2).0 in
    let other : k ≢ i = λ e. AreDistinct-apart left (i ∷ []) k chain.1 (IsMember-middle before [] k) (inl (sym e)) in
    let shorter : IsChain (with_removal link_map i) (linear left) = subst (λ (zs : List ℕ). IsChain (with_removal link_map i) (linear zs)) (append-nil left)
    (removed_from_linear link_map i left [] chain (IsMember-filled (left ++ []) k (IsMember-left left [] k (IsMember-middle before [] k)))) in
    leaves_from link_map i k (reverse left)
    (rest_back link_map i k (stored ∙ ap (λ (o : Option ℕ). let l : Option Interlinks = Some (link o None) in l) (last_or-append before (k ∷ []) None)) other)
    (ap (λ (zs : List ℕ). first_or zs None) (last_reversed before k []))
    (subst (λ (zs : List ℕ). IsWalk (with_removal link_map i) k zs) (sym (last_reversed before k [])) (of_linear before [] shorter))

leaves : (link_map : LinkMap) (i : ℕ) (walk : List ℕ) → IsWalk link_map i walk → LeavesWalk link_map i (rest_of walk)
leaves link_map i _ (of_linear [] [] chain) = record { first = sym (rest_by link_map i None None chain.2.0); walk = λ k e. absurd (cc) }
leaves link_map i _ (of_linear (x ∷ xs) [] chain) =
    let l = last_apart x xs in
    subst (λ (zs : List ℕ). LeavesWalk link_map i (reverse zs)) (sym l.2) (leaves_back link_map i l.1 l.0 (subst (λ (zs : List ℕ). IsChain link_map (linear (zs ++ i ∷ []))) l.2 chain))
leaves link_map i _ (of_linear before (k ∷ ks) chain) =
    let stored = AreLinked-right link_map None before (i ∷ k ∷ ks) None chain.2 in
    let once = AreDistinct-right before (i ∷ k ∷ ks) chain.1 in
    leaves_from link_map i k (k ∷ ks ++ reverse before) (rest_forward link_map i k (last_or before None) stored.0 (λ e. once.0 (inl e))) refl
    (of_linear before ks (removed_from_linear link_map i before (k ∷ ks) chain (IsMember-filled (before ++ k ∷ ks) k (IsMember-middle before ks k))))
leaves link_map i _ (of_cyclic [] chain) = record {
  first = sym (rest_by link_map i (Some i) (Some i) chain.2.0 ∙ ap₂ (λ (o p : Option ℕ). option_or o p) (if_same i i None (Some i) refl) (if_same i i None (Some i) refl));
  walk = λ k e. absurd (cc);
}
leaves link_map i _ (of_cyclic (k ∷ ks) chain) =
    leaves_from link_map i k (k ∷ ks) (rest_forward link_map i k (last_or (k ∷ ks) None) chain.2.0 (λ e. chain.1.0 (inl e))) refl
    (of_cyclic ks (removed_first_of_cyclic link_map i (k ∷ ks) chain (λ e. cc)))

pub removal_leaves_the_walk : RemovalLeavesTheWalk
removal_leaves_the_walk link_map i rest walk =
    let l = leaves link_map i (i ∷ rest) walk in
    (l.first, l.walk)

reports_rest : (link_map : LinkMap) (i : ℕ) (walk : List ℕ) → IsWalk link_map i walk → (j : ℕ) → (IsMember walk j → ⊥) → with_removal link_map i j ≡ link_map j
reports_rest link_map i walk is_walk j none =
    let own = walk_chain link_map i walk is_walk in
    let closed = chain_closed link_map own.0 own.1 in
    let here : IsMember (items own.0) i = (own.2 i).0 (walk_starts link_map i walk is_walk) in
    linked-elsewhere (without_link link_map i) (prev_of link_map i) (next_of link_map i) j
    (λ k named same. none ((own.2 j).1 (closed.back i j here (named ∙ ap (λ (n : ℕ). Some n) (sym same)))))
    (λ k named same. none ((own.2 j).1 (closed.forward i j here (named ∙ ap (λ (n : ℕ). Some n) (sym same)))))
    ∙ vacated-elsewhere link_map i j (λ same. none (subst (IsMember walk) (sym same) (walk_starts link_map i walk is_walk)))

record EmptiesWalk (old new : LinkMap) (walk : List ℕ) : Type 0 where
  gone : (j : ℕ) → IsMember walk j → new j ≡ None
  rest : (j : ℕ) → (IsMember walk j → ⊥) → new j ≡ old j

empties_after : (link_map : LinkMap) (i k : ℕ) (rest : List ℕ) → IsWalk link_map i (i ∷ k ∷ rest) → EmptiesWalk (with_removal link_map i) (with_removals (with_removal link_map i) (k ∷ rest)) (k ∷ rest)
    → EmptiesWalk link_map (with_removals link_map (i ∷ k ∷ rest)) (i ∷ k ∷ rest)
empties_after link_map i k rest walk after = record {
  gone = λ j h. ⊎_elim (λ (e : i ≡ j). after.rest j (λ g. (walk_once link_map i (i ∷ k ∷ rest) walk).0 (subst (IsMember (k ∷ rest)) (sym e) g)) ∙ subst (λ (n : ℕ). with_removal link_map i n ≡ None) e (removed-at link_map i)) (after.gone j) h;
  rest = λ j none. after.rest j (λ h. none (inr h)) ∙ reports_rest link_map i (i ∷ k ∷ rest) walk j none;
}

empties : (link_map : LinkMap) (i : ℕ) (rest : List ℕ) → IsWalk link_map i (i ∷ rest) → EmptiesWalk link_map (with_removals link_map (i ∷ rest)) (i ∷ rest)
empties link_map i [] walk = record {
  gone = λ j h. ⊎_elim (λ (e : i ≡ j). subst (λ (n : ℕ). with_removal link_map i n ≡ None) e (removed-at link_map i)) (λ n. absurd n) h;
  rest = reports_rest link_map i (i ∷ []) walk;
}
empties link_map i (k ∷ rest) walk = empties_after link_map i k rest walk (empties (with_removal link_map i) k rest ((removal_leaves_the_walk link_map i (k ∷ rest) walk).1 k refl))

same_chain : (old new : LinkMap) (c : Chain) → ((j : ℕ) → IsMember (items c) j → old j ≡ new j) → IsChain old c → IsChain new c
same_chain old new (linear xs) same c = (c.0, c.1, AreLinked-frame old new None xs None same c.2)
same_chain old new (cyclic xs) same c = (c.0, c.1, AreLinked-frame old new (last_or xs None) xs (first_or xs None) same c.2)

walk_written : (link_map : LinkMap) (i : ℕ) (walk : List ℕ) → IsWalk link_map i walk → walk ≡ i ∷ rest_of walk
walk_written link_map i _ (of_linear before after chain) = refl
walk_written link_map i _ (of_cyclic after chain) = refl

taken : (old new : LinkMap) (walk : List ℕ) → EmptiesWalk old new walk → TakesWalk old new walk
taken old new walk each = record {
  gone = each.gone;
  rest = each.rest;
  chains = λ c. (
    (λ chain. let apart : (j : ℕ) → IsMember walk j → IsMember (items c) j → ⊥ = λ j h k. let valid = chain_valid new c j chain k in not_both_ways (new j) valid.link (each.gone j h) valid.links in
        (same_chain new old c (λ j k. each.rest j (λ h. apart j h k)) chain, apart)),
    (λ old_chain. same_chain old new c (λ j k. sym (each.rest j (λ h. old_chain.1 j h k))) old_chain.0),
  );
}

pub walk_is_taken : WalkIsTaken
walk_is_taken link_map i walk is_walk =
    let e = walk_written link_map i walk is_walk in
    taken link_map (with_removals link_map walk) walk
    (subst (λ (w : List ℕ). EmptiesWalk link_map (with_removals link_map w) w) (sym e) (empties link_map i (rest_of walk) (subst (IsWalk link_map i) e is_walk)))

pub walk_from-walk : (slots : ℕ) (link_map : LinkMap) (i : ℕ) → IsWellLinked link_map → HasLinksWithin link_map slots → HasLink link_map i → IsWalk link_map i (walk_from slots link_map (Some i))
walk_from-walk slots link_map i agrees within valid =
    subst (IsWalk link_map i) (sym (ap (λ (b : Bool). if b then walk_ahead slots link_map i (Some i) (prev_of link_map i) else []) (ap (is_some {T = Interlinks}) valid.links)))
    (walks_ahead link_map slots i agrees within valid)

pub walk_from-none : (slots : ℕ) (link_map : LinkMap) (i : ℕ) → link_map i ≡ None → walk_from slots link_map (Some i) ≡ []
walk_from-none slots link_map i none = ap (λ (b : Bool). if b then walk_ahead slots link_map i (Some i) (prev_of link_map i) else []) (ap (is_some {T = Interlinks}) none)

walk_from-rest : (slots : ℕ) (link_map : LinkMap) (o : Option ℕ) (rest : List ℕ) → IsWellLinked link_map → HasLinksWithin link_map slots → first_or rest None ≡ o → ((k : ℕ) → first_or rest None ≡ Some k → IsWalk link_map k rest)
    → rest ≡ walk_from slots link_map o
walk_from-rest slots link_map o [] agrees within first walk = ap (walk_from slots link_map) first
walk_from-rest slots link_map o (k ∷ rest) agrees within first walk =
    let own = walk k refl in
    no_other_walk link_map k (k ∷ rest) (walk_from slots link_map (Some k)) own (walk_from-walk slots link_map k agrees within (walk_valid link_map k (k ∷ rest) own k (inl refl)))
    ∙ ap (walk_from slots link_map) first

pub walk_from-next : (slots : ℕ) (link_map : LinkMap) (i : ℕ) → IsWellLinked link_map → HasLinksWithin link_map slots → HasLink link_map i
    → walk_from slots link_map (Some i) ≡ i ∷ walk_from slots (with_removal link_map i) (rest_start_of link_map i)
walk_from-next slots link_map i agrees within valid =
    let walk = walk_from slots link_map (Some i) in
    let is_walk = walk_from-walk slots link_map i agrees within valid in
    let left = leaves link_map i walk is_walk in
    let still : HasLinksWithin (with_removal link_map i) slots = record { within = λ j v. within.within j ((HasLink-removed link_map i j).0 v).0 } in
    walk_written link_map i walk is_walk
    ∙ ap (λ (zs : List ℕ). i ∷ zs) (walk_from-rest slots (with_removal link_map i) (rest_start_of link_map i) (rest_of walk) (removed_agrees link_map i agrees) still left.first left.walk)
