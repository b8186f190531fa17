-- A walker passes the walk: to the end and back to the start, or around a ring.
use Rattle.std.specs.Prelude.{◌≡◌, ◌≢◌, ℕ, zero, suc, ◌+◌, ◌≤◌, List, [], ◌∷◌, ◌++◌, reverse, length, Option, None, Some}
use Rattle.std.proofs.Common.{sym, refl, ap, ap₂, ◌∙◌, inl, inr, arith}
use mathlib.Core.List.{reverse_aux}
use Rattle.chain_laws.specs.Chains.{LinkMap, IsMember, AreLinked, prev_in, next_in, prev_of, first_or, last_or}
use Rattle.chain_laws.specs.Walks.{IsWalk, of_linear, of_cyclic, walk_ahead, step_forward, step_back, HasNoOtherWalk}
use Rattle.chain_laws.proofs.ListLemmas.Members.{AreDistinct-right}
use Rattle.chain_laws.proofs.ChainLemmas.LinkedLists.{AreLinked-left, AreLinked-right}
use Rattle.chain_laws.proofs.InterlinkLemmas.Inverses.{if_same, if_other}

abbrev pub StepsBack : LinkMap → List ℕ → Type 0
StepsBack link_map [] = Unit {0}
StepsBack link_map (z ∷ zs) = (prev_of link_map z ≡ first_or zs None) × StepsBack link_map zs

pub StepsBack-reversed : (link_map : LinkMap) (xs zs : List ℕ) (after : Option ℕ) → AreLinked link_map (first_or zs None) xs after → StepsBack link_map zs → StepsBack link_map (reverse_aux xs zs)
StepsBack-reversed link_map [] zs after stored back = back
StepsBack-reversed link_map (x ∷ xs) zs after stored back = StepsBack-reversed link_map xs (x ∷ zs) after stored.1 (ap prev_in stored.0, back)

pub first_or-reversed : (xs zs : List ℕ) → first_or (reverse_aux xs zs) None ≡ last_or xs (first_or zs None)
first_or-reversed [] zs = refl
first_or-reversed (x ∷ xs) zs = first_or-reversed xs (x ∷ zs)

passes_back : (left : ℕ) (link_map : LinkMap) (start : ℕ) (zs : List ℕ) → StepsBack link_map zs → length zs ≤ left → walk_ahead left link_map start None (first_or zs None) ≡ zs
passes_back zero link_map start [] back enough = refl
passes_back (suc left) link_map start [] back enough = refl
passes_back zero link_map start (z ∷ zs) back enough = absurd (omega arith)
passes_back (suc left) link_map start (z ∷ zs) back enough =
    ap (λ (w : List ℕ). z ∷ w) (ap (λ (o : Option ℕ). walk_ahead left link_map start None o) back.0 ∙ passes_back left link_map start zs back.1 (omega arith))

pub step_forward-other : (start k : ℕ) → k ≢ start → step_forward start (Some k) ≡ Some k
step_forward-other start k ne = if_other k start None (Some k) ne

step_back-other : (start k : ℕ) (back : Option ℕ) → k ≢ start → step_back start (Some k) back ≡ back
step_back-other start k back ne = if_other k start None back ne

passes_on : (left : ℕ) (link_map : LinkMap) (start : ℕ) (before : Option ℕ) (y : ℕ) (ys zs : List ℕ)
    → AreLinked link_map before (y ∷ ys) None → (IsMember ys start → ⊥) → StepsBack link_map zs → length (y ∷ ys ++ zs) ≤ left
    → walk_ahead left link_map start (Some y) (first_or zs None) ≡ y ∷ ys ++ zs
passes_on zero link_map start before y ys zs stored none back enough = absurd (omega arith)
passes_on (suc left) link_map start before y [] zs stored none back enough =
    ap (λ (w : List ℕ). y ∷ w)
    (ap (λ (o : Option ℕ). walk_ahead left link_map start (step_forward start o) (step_back start o (first_or zs None))) (ap next_in stored.0)
    ∙ passes_back left link_map start zs back (omega arith))
passes_on (suc left) link_map start before y (k ∷ ks) zs stored none back enough =
    let other : k ≢ start = λ e. none (inl e) in
    ap (λ (w : List ℕ). y ∷ w)
    (ap (λ (o : Option ℕ). walk_ahead left link_map start (step_forward start o) (step_back start o (first_or zs None))) (ap next_in stored.0)
    ∙ ap₂ (λ (o p : Option ℕ). walk_ahead left link_map start o p) (step_forward-other start k other) (step_back-other start k (first_or zs None) other)
    ∙ passes_on left link_map start (Some y) k ks zs stored.1 (λ h. none (inr h)) back (omega arith))

passes_cyclic : (left : ℕ) (link_map : LinkMap) (start : ℕ) (before back : Option ℕ) (y : ℕ) (ys : List ℕ)
    → AreLinked link_map before (y ∷ ys) (Some start) → (IsMember ys start → ⊥) → length (y ∷ ys) ≤ left
    → walk_ahead left link_map start (Some y) back ≡ y ∷ ys
passes_cyclic zero link_map start before back y ys stored none enough = absurd (omega arith)
passes_cyclic (suc left) link_map start before back y [] stored none enough =
    ap (λ (w : List ℕ). y ∷ w)
    (ap (λ (o : Option ℕ). walk_ahead left link_map start (step_forward start o) (step_back start o back)) (ap next_in stored.0)
    ∙ ap₂ (λ (o p : Option ℕ). walk_ahead left link_map start o p) (if_same start start None (Some start) refl) (if_same start start None back refl)
    ∙ passes_back left link_map start [] tt (omega arith))
passes_cyclic (suc left) link_map start before back y (k ∷ ks) stored none enough =
    let other : k ≢ start = λ e. none (inl e) in
    ap (λ (w : List ℕ). y ∷ w)
    (ap (λ (o : Option ℕ). walk_ahead left link_map start (step_forward start o) (step_back start o back)) (ap next_in stored.0)
    ∙ ap₂ (λ (o p : Option ℕ). walk_ahead left link_map start o p) (step_forward-other start k other) (step_back-other start k back other)
    ∙ passes_cyclic left link_map start (Some y) back k ks stored.1 (λ h. none (inr h)) (omega arith))

pub walk_passed : (left : ℕ) (link_map : LinkMap) (i : ℕ) (walk : List ℕ) → IsWalk link_map i walk → length walk ≤ left → walk_ahead left link_map i (Some i) (prev_of link_map i) ≡ walk
walk_passed left link_map i _ (of_linear before after chain) enough =
    let stored = AreLinked-right link_map None before (i ∷ after) None chain.2 in
    let once = AreDistinct-right before (i ∷ after) chain.1 in
    let home = StepsBack-reversed link_map before [] (Some i) (AreLinked-left link_map None before (i ∷ after) None chain.2) tt in
    ap (λ (o : Option ℕ). walk_ahead left link_map i (Some i) o) (ap prev_in stored.0 ∙ sym (first_or-reversed before []))
    ∙ passes_on left link_map i (last_or before None) i after (reverse before) stored once.0 home enough
walk_passed left link_map i _ (of_cyclic after chain) enough =
    passes_cyclic left link_map i (last_or after (Some i)) (prev_of link_map i) i after chain.2 chain.1.0 enough

pub no_other_walk : HasNoOtherWalk
no_other_walk link_map i walk other is_walk is_other =
    let left = length walk + length other in
    sym (walk_passed left link_map i walk is_walk (omega arith)) ∙ walk_passed left link_map i other is_other (omega arith)
