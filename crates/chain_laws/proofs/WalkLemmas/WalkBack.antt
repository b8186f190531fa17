-- The walk back from a link to the start of its chain, or once around a ring.
use Rattle.std.proofs.Common.{◌≡◌, ◌≢◌, ℕ, suc, ◌+◌, ◌<◌, ◌≤◌, ◌⊎◌, inl, inr, List, [], ◌∷◌, ◌++◌, length, None, Some, refl, sym, ap, ◌∙◌, subst, length-append, append_assoc, append-nil, arith}
use Rattle.chain_laws.specs.Chains.{LinkMap, Chain, linear, cyclic, items, IsMember, AreDistinct, IsChain, first_or, last_or, prev_in, next_in, prev_of, next_of}
use Rattle.chain_laws.specs.Neighbors.{IsChainOf}
use Rattle.chain_laws.specs.ChainStart.{IsBack, WalkBackBegins, WalkBackContinues, WalkBackEnds, WalkBackIsCyclic, WalkBackIsShort, IsOnward, WalkOnBegins, WalkOnContinues, WalksMeet}
use Rattle.chain_laws.proofs.ListLemmas.Members.{IsMember-left, IsMember-right, IsMember-parts, IsMember-written, AreDistinct-apart, last_or-append, last_apart}
use Rattle.chain_laws.proofs.ChainLemmas.LinkedLists.{AreLinked-at}
use Rattle.chain_laws.proofs.ChainLemmas.Uniqueness.{chain_valid, chain_once}
use Rattle.chain_laws.proofs.ChainLemmas.Partitions.{chain_of_each}
use Rattle.chain_laws.proofs.ChainLemmas.Rotations.{rotated_to}

pub data IsEmptyOrEnds : List ℕ → Type 0 where
  is_empty : IsEmptyOrEnds []
  ends_in : (xs : List ℕ) (x : ℕ) → IsEmptyOrEnds (xs ++ x ∷ [])

pub ending : (xs : List ℕ) → IsEmptyOrEnds xs
ending [] = is_empty
ending (x ∷ xs) = let l = last_apart x xs in subst IsEmptyOrEnds (sym l.2) (ends_in l.0 l.1)

prev_linear : (link_map : LinkMap) (before : List ℕ) (here : ℕ) (after : List ℕ) → IsChain link_map (linear (before ++ here ∷ after)) → prev_of link_map here ≡ last_or before None
prev_linear link_map before here after h = ap prev_in (AreLinked-at link_map None before after None here h.2)

prev_cyclic : (link_map : LinkMap) (i : ℕ) (before after : List ℕ) (here : ℕ) → IsChain link_map (cyclic (i ∷ before ++ after)) → first_or after (Some i) ≡ Some here → prev_of link_map here ≡ last_or before (Some i)
prev_cyclic link_map i before [] here h e =
    let same : i ≡ here = cc in
    ap (prev_of link_map) (sym same) ∙ (ap prev_in h.2.0 ∙ last_or-append before [] (Some i))
prev_cyclic link_map i before (a ∷ after) here h e =
    let same : a ≡ here = cc in
    ap (prev_of link_map) (sym same) ∙ ap prev_in (AreLinked-at link_map (last_or (i ∷ before ++ a ∷ after) None) (i ∷ before) after (Some i) a h.2)

pub back_begins : WalkBackBegins
back_begins link_map i = record {
  in_linear = λ xs h m. let w = IsMember-written xs i m in (w.0, w.1, w.2, inl refl, omega arith);
  in_cyclic = λ xs h. (xs, [], sym (append-nil xs), refl, omega arith);
}

module _ (i steps here : ℕ) where
  record InLinear (xs : List ℕ) : Type 0 where
    before : List ℕ
    after : List ℕ
    parts : xs ≡ before ++ here ∷ after
    has : IsMember (here ∷ after) i
    few : steps ≤ length after

  record InCyclic (xs : List ℕ) : Type 0 where
    before : List ℕ
    after : List ℕ
    parts : xs ≡ before ++ after
    first : first_or after (Some i) ≡ Some here
    few : steps ≤ length after

module _ (link_map : LinkMap) (i steps here : ℕ) (back : IsBack link_map i steps here) where
  linear_at : (xs : List ℕ) → IsChain link_map (linear xs) → IsMember xs i → InLinear i steps here xs
  linear_at xs h m = let b = back.in_linear xs h m in record { before = b.0; after = b.1; parts = b.2; has = b.3; few = b.4 }

  cyclic_at : (xs : List ℕ) → IsChain link_map (cyclic (i ∷ xs)) → InCyclic i steps here xs
  cyclic_at xs h = let b = back.in_cyclic xs h in record { before = b.0; after = b.1; parts = b.2; first = b.3; few = b.4 }

  before_linear : (xs : List ℕ) (h : IsChain link_map (linear xs)) (m : IsMember xs i) → prev_of link_map here ≡ last_or (linear_at xs h m).before None
  before_linear xs h m =
      let at = linear_at xs h m in
      prev_linear link_map at.before here at.after (subst (λ (ys : List ℕ). IsChain link_map (linear ys)) at.parts h)

  before_cyclic : (xs : List ℕ) (h : IsChain link_map (cyclic (i ∷ xs))) → prev_of link_map here ≡ last_or (cyclic_at xs h).before (Some i)
  before_cyclic xs h =
      let at = cyclic_at xs h in
      prev_cyclic link_map i at.before at.after here (subst (λ (ys : List ℕ). IsChain link_map (cyclic (i ∷ ys))) at.parts h) at.first

nothing_before : (before : List ℕ) → IsEmptyOrEnds before → last_or before None ≡ None → before ≡ []
nothing_before _ is_empty e = refl
nothing_before _ (ends_in ys y) e = let l : last_or (ys ++ y ∷ []) None ≡ Some y = last_or-append ys (y ∷ []) None in absurd (cc)

something_before : (before : List ℕ) (i : ℕ) → IsEmptyOrEnds before → last_or before (Some i) ≡ None → ⊥
something_before _ i is_empty e = cc
something_before _ i (ends_in ys y) e = let l : last_or (ys ++ y ∷ []) (Some i) ≡ Some y = last_or-append ys (y ∷ []) (Some i) in cc

pub back_ends : WalkBackEnds
back_ends link_map i steps here back none = record { in_linear = from_start; in_cyclic = λ xs h. absurd (once_around xs h) }
  where
    from_start : (xs : List ℕ) → IsChain link_map (linear xs) → IsMember xs i → first_or xs None ≡ Some here
    from_start xs h m =
        let at = linear_at link_map i steps here back xs h m in
        let empty = nothing_before at.before (ending at.before) (sym (before_linear link_map i steps here back xs h m) ∙ none) in
        ap (λ (ys : List ℕ). first_or ys None) (at.parts ∙ ap (λ (ys : List ℕ). ys ++ here ∷ at.after) empty)

    once_around : (xs : List ℕ) → IsChain link_map (cyclic (i ∷ xs)) → ⊥
    once_around xs h =
        let at = cyclic_at link_map i steps here back xs h in
        something_before at.before i (ending at.before) (sym (before_cyclic link_map i steps here back xs h) ∙ none)

pub on_begins : WalkOnBegins
on_begins link_map i before after h = inl refl

next_onward : (link_map : LinkMap) (i on k : ℕ) (before after rest ahead : List ℕ) → IsChain link_map (linear (before ++ i ∷ after)) → i ∷ after ≡ rest ++ on ∷ ahead → next_of link_map on ≡ Some k → IsMember (i ∷ after) k
next_onward link_map i on k before after rest ahead h parts e =
    let all : before ++ i ∷ after ≡ (before ++ rest) ++ on ∷ ahead = ap (λ (ys : List ℕ). before ++ ys) parts ∙ sym (append_assoc before rest (on ∷ ahead)) in
    let next = ap next_in (AreLinked-at link_map None (before ++ rest) ahead None on (subst (λ (ys : List ℕ). IsChain link_map (linear ys)) all h).2) in
    subst (λ (ys : List ℕ). IsMember ys k) (sym parts) (IsMember-right rest (on ∷ ahead) k (inr (first_is_member ahead k (sym next ∙ e))))
  where
    first_is_member : (xs : List ℕ) (x : ℕ) → first_or xs None ≡ Some x → IsMember xs x
    first_is_member [] x e = absurd (cc)
    first_is_member (y ∷ xs) x e = inl (cc)

pub on_continues : WalkOnContinues
on_continues link_map i on k onward e before after h =
    let w = IsMember-written (i ∷ after) on (onward before after h) in
    next_onward link_map i on k before after w.0 w.1 h w.2 e

is_before : (link_map : LinkMap) (i here k : ℕ) (before after : List ℕ) → IsEmptyOrEnds before → IsChain link_map (linear (before ++ here ∷ after)) → IsMember (here ∷ after) i → last_or before None ≡ Some k
    → IsOnward link_map i k → ⊥
is_before link_map i here k _ after is_empty h has e onward = cc
is_before link_map i here k _ after (ends_in ys y) h has e onward =
    let l : last_or (ys ++ y ∷ []) None ≡ Some y = last_or-append ys (y ∷ []) None in
    let same : y ≡ k = cc in
    let w = IsMember-written (here ∷ after) i has in
    let all : (ys ++ y ∷ []) ++ here ∷ after ≡ ((ys ++ y ∷ []) ++ w.0) ++ i ∷ w.1 =
    ap (λ (zs : List ℕ). (ys ++ y ∷ []) ++ zs) w.2 ∙ sym (append_assoc (ys ++ y ∷ []) w.0 (i ∷ w.1)) in
    let chain = subst (λ (zs : List ℕ). IsChain link_map (linear zs)) all h in
    AreDistinct-apart ((ys ++ y ∷ []) ++ w.0) (i ∷ w.1) k chain.1
    (IsMember-left (ys ++ y ∷ []) w.0 k (IsMember-right ys (y ∷ []) k (inl same)))
    (onward ((ys ++ y ∷ []) ++ w.0) w.1 chain)

pub walks_meet : WalksMeet
walks_meet link_map i steps here k back e onward = record { in_linear = λ xs h m. absurd (straight xs h m); in_cyclic = λ xs h. refl }
  where
    straight : (xs : List ℕ) → IsChain link_map (linear xs) → IsMember xs i → ⊥
    straight xs h m =
        let at = linear_at link_map i steps here back xs h m in
        is_before link_map i here k at.before at.after (ending at.before) (subst (λ (ys : List ℕ). IsChain link_map (linear ys)) at.parts h) at.has
        (sym (before_linear link_map i steps here back xs h m) ∙ e) onward

pub back_wraps_around : WalkBackIsCyclic
back_wraps_around link_map i steps here back e = walks_meet link_map i steps here i back e (on_begins link_map i)

step_linear : (i steps here k : ℕ) (before after : List ℕ) → IsEmptyOrEnds before → last_or before None ≡ Some k → steps ≤ length after → IsMember (here ∷ after) i → (xs : List ℕ) → xs ≡ before ++ here ∷ after
    → (b : List ℕ) × (a : List ℕ) × (xs ≡ b ++ k ∷ a) × IsMember (k ∷ a) i × (steps + 1 ≤ length a)
step_linear i steps here k _ after is_empty l few has xs parts = absurd (cc)
step_linear i steps here k _ after (ends_in ys y) l few has xs parts =
    let m : last_or (ys ++ y ∷ []) None ≡ Some y = last_or-append ys (y ∷ []) None in
    let same : y ≡ k = cc in
    (ys, here ∷ after, parts ∙ (append_assoc ys (y ∷ []) (here ∷ after) ∙ ap (λ (z : ℕ). ys ++ z ∷ here ∷ after) same), inr has, omega arith)

step_cyclic : (i steps k : ℕ) (before after : List ℕ) → IsEmptyOrEnds before → k ≢ i → last_or before (Some i) ≡ Some k → steps ≤ length after → (xs : List ℕ) → xs ≡ before ++ after
    → (b : List ℕ) × (a : List ℕ) × (xs ≡ b ++ a) × (first_or a (Some i) ≡ Some k) × (steps + 1 ≤ length a)
step_cyclic i steps k _ after is_empty ne l few xs parts = let same : k ≡ i = cc in absurd (ne same)
step_cyclic i steps k _ after (ends_in ys y) ne l few xs parts =
    let m : last_or (ys ++ y ∷ []) (Some i) ≡ Some y = last_or-append ys (y ∷ []) (Some i) in
    let same : Some y ≡ Some k = cc in
    (ys, y ∷ after, parts ∙ append_assoc ys (y ∷ []) after, same, omega arith)

pub back_continues : WalkBackContinues
back_continues link_map i steps here k back e ne = record { in_linear = in_linear; in_cyclic = in_cyclic }
  where
    in_linear : (xs : List ℕ) → IsChain link_map (linear xs) → IsMember xs i → (b : List ℕ) × (a : List ℕ) × (xs ≡ b ++ k ∷ a) × IsMember (k ∷ a) i × (steps + 1 ≤ length a)
    in_linear xs h m =
        let at = linear_at link_map i steps here back xs h m in
        step_linear i steps here k at.before at.after (ending at.before) (sym (before_linear link_map i steps here back xs h m) ∙ e) at.few at.has xs at.parts

    in_cyclic : (xs : List ℕ) → IsChain link_map (cyclic (i ∷ xs)) → (b : List ℕ) × (a : List ℕ) × (xs ≡ b ++ a) × (first_or a (Some i) ≡ Some k) × (steps + 1 ≤ length a)
    in_cyclic xs h =
        let at = cyclic_at link_map i steps here back xs h in
        step_cyclic i steps k at.before at.after (ending at.before) ne (sym (before_cyclic link_map i steps here back xs h) ∙ e) at.few xs at.parts

pub length_among : (xs ys : List ℕ) → AreDistinct xs → ((i : ℕ) → IsMember xs i → IsMember ys i) → length xs ≤ length ys
length_among [] ys once among = omega arith
length_among (x ∷ xs) ys once among = shorter (IsMember-written ys x (among x (inl refl))) (length_among xs)
  where
    shorter : (before : List ℕ) × (after : List ℕ) × (ys ≡ before ++ x ∷ after)
        → ((zs : List ℕ) → AreDistinct xs → ((i : ℕ) → IsMember xs i → IsMember zs i) → length xs ≤ length zs) → length (x ∷ xs) ≤ length ys
    shorter w rest =
        let fewer : length xs ≤ length (w.0 ++ w.1) = rest (w.0 ++ w.1) once.1 (λ i h. out i h (IsMember-parts w.0 (x ∷ w.1) i (subst (λ (zs : List ℕ). IsMember zs i) w.2 (among i (inr h))))) in
        let long : length ys ≡ length w.0 + suc (length w.1) = ap length w.2 ∙ length-append w.0 (x ∷ w.1) in
        let both : length (w.0 ++ w.1) ≡ length w.0 + length w.1 = length-append w.0 w.1 in
        omega arith
      where
        out : (i : ℕ) → IsMember xs i → IsMember w.0 i ⊎ IsMember (x ∷ w.1) i → IsMember (w.0 ++ w.1) i
        out i h (inl m) = IsMember-left w.0 w.1 i m
        out i h (inr (inl e)) = absurd (once.0 (subst (IsMember xs) (sym e) h))
        out i h (inr (inr m)) = IsMember-right w.0 w.1 i m

pub back_is_short : WalkBackIsShort
back_is_short link_map slots i steps here links agrees within valid all back = of_chain own.0 own.1.chain own.1.has
  where
    own : (c : Chain) × IsChainOf link_map i c
    own = chain_of_each link_map slots i agrees within valid

    among : (c : Chain) → IsChain link_map c → length (items c) ≤ length links
    among c h = length_among (items c) links (chain_once link_map c h) (λ j m. all j (chain_valid link_map c j h m))

    of_chain : (c : Chain) → IsChain link_map c → IsMember (items c) i → steps < length links
    of_chain (linear xs) h m =
        let at = linear_at link_map i steps here back xs h m in
        let bound : length xs ≤ length links = among (linear xs) h in
        let long : length xs ≡ length at.before + suc (length at.after) = ap length at.parts ∙ length-append at.before (here ∷ at.after) in
        let few : steps ≤ length at.after = at.few in
        omega arith
    of_chain (cyclic xs) h m =
        let w = rotated_to link_map xs i h m in
        let at = cyclic_at link_map i steps here back w.0 w.1 in
        let bound : length (i ∷ w.0) ≤ length links = among (cyclic (i ∷ w.0)) w.1 in
        let long : length w.0 ≡ length at.before + length at.after = ap length at.parts ∙ length-append at.before at.after in
        let few : steps ≤ length at.after = at.few in
        omega arith
