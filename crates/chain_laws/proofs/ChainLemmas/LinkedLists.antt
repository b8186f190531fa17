-- Linked lists: parts, concatenation, frame, closure, no repetition.
use Rattle.std.proofs.Common.{◌≡◌, ◌≢◌, ℕ, ◌+◌, ◌⊎◌, inl, inr, ⊎_elim, List, [], ◌∷◌, ◌++◌, length, Option, None, Some, refl, sym, ap, ◌∙◌, subst, length-append, arith}
use Rattle.chain_laws.specs.Chains.{LinkMap, Interlinks, Chain, linear, cyclic, items, IsChain, HasLink, IsMember, AreDistinct, first_or, last_or, prev_in, next_in, prev_of, next_of, AreLinked}
use Rattle.chain_laws.proofs.ListLemmas.Members.{IsMember-written, first_or-append, first_or-IsMember}

abbrev pub link : Option ℕ → Option ℕ → Interlinks
link before after = record { prev = before; next = after }

pub reports_valid : (link_map : LinkMap) (i : ℕ) (l : Interlinks) → link_map i ≡ Some l → HasLink link_map i
reports_valid link_map i l e = record { link = l; links = e }

pub reports_next : (link_map : LinkMap) (i : ℕ) (before after : Option ℕ) → link_map i ≡ Some (link before after) → next_of link_map i ≡ after
reports_next link_map i before after e = ap next_in e

pub reports_prev : (link_map : LinkMap) (i : ℕ) (before after : Option ℕ) → link_map i ≡ Some (link before after) → prev_of link_map i ≡ before
reports_prev link_map i before after e = ap prev_in e

pub next_valid : (link_map : LinkMap) (i j : ℕ) → next_of link_map i ≡ Some j → HasLink link_map i
next_valid link_map i j e = by_link (link_map i) refl e
  where
    by_link : (o : Option Interlinks) → link_map i ≡ o → next_in o ≡ Some j → HasLink link_map i
    by_link None is n = absurd (cc)
    by_link (Some l) is n = record { link = l; links = is }

pub prev_valid : (link_map : LinkMap) (i j : ℕ) → prev_of link_map i ≡ Some j → HasLink link_map i
prev_valid link_map i j e = by_link (link_map i) refl e
  where
    by_link : (o : Option Interlinks) → link_map i ≡ o → prev_in o ≡ Some j → HasLink link_map i
    by_link None is n = absurd (cc)
    by_link (Some l) is n = record { link = l; links = is }

pub reports_both : (link_map : LinkMap) (i : ℕ) (before after : Option ℕ) → HasLink link_map i → prev_of link_map i ≡ before → next_of link_map i ≡ after → link_map i ≡ Some (link before after)
reports_both link_map i before after v p n =
    let l : Interlinks = v.link in
    let q : l.prev ≡ before = sym (ap prev_in v.links) ∙ p in
    let m : l.next ≡ after = sym (ap next_in v.links) ∙ n in
    v.links ∙ ap (λ (r : Interlinks). Some r) (both l before after q m)
  where
    both : (l : Interlinks) (before after : Option ℕ) → l.prev ≡ before → l.next ≡ after → l ≡ link before after
    both l before after q m = λ i. record { prev = q i; next = m i }

pub AreLinked-append : (link_map : LinkMap) (before : Option ℕ) (xs ys : List ℕ) (after : Option ℕ)
    → AreLinked link_map before xs (first_or ys after) → AreLinked link_map (last_or xs before) ys after → AreLinked link_map before (xs ++ ys) after
AreLinked-append link_map before [] ys after s t = t
AreLinked-append link_map before (x ∷ xs) ys after s t = (
  s.0 ∙ ap (λ (o : Option ℕ). Some (link before o)) (sym (first_or-append xs ys after)),
  AreLinked-append link_map (Some x) xs ys after s.1 t,
)

pub AreLinked-left : (link_map : LinkMap) (before : Option ℕ) (xs ys : List ℕ) (after : Option ℕ)
    → AreLinked link_map before (xs ++ ys) after → AreLinked link_map before xs (first_or ys after)
AreLinked-left link_map before [] ys after s = tt
AreLinked-left link_map before (x ∷ xs) ys after s = (
  s.0 ∙ ap (λ (o : Option ℕ). Some (link before o)) (first_or-append xs ys after),
  AreLinked-left link_map (Some x) xs ys after s.1,
)

pub AreLinked-right : (link_map : LinkMap) (before : Option ℕ) (xs ys : List ℕ) (after : Option ℕ)
    → AreLinked link_map before (xs ++ ys) after → AreLinked link_map (last_or xs before) ys after
AreLinked-right link_map before [] ys after s = s
AreLinked-right link_map before (x ∷ xs) ys after s = AreLinked-right link_map (Some x) xs ys after s.1

pub AreLinked-at : (link_map : LinkMap) (before : Option ℕ) (xs ys : List ℕ) (after : Option ℕ) (i : ℕ)
    → AreLinked link_map before (xs ++ i ∷ ys) after → link_map i ≡ Some (link (last_or xs before) (first_or ys after))
AreLinked-at link_map before xs ys after i s = (AreLinked-right link_map before xs (i ∷ ys) after s).0

pub AreLinked-each : (link_map : LinkMap) (before : Option ℕ) (xs : List ℕ) (after : Option ℕ)
    → ((left right : List ℕ) (i : ℕ) → xs ≡ left ++ i ∷ right → link_map i ≡ Some (link (last_or left before) (first_or right after))) → AreLinked link_map before xs after
AreLinked-each link_map before [] after each = tt
AreLinked-each link_map before (x ∷ xs) after each = (
  each [] xs x refl,
  AreLinked-each link_map (Some x) xs after (λ left right i e. each (x ∷ left) right i (ap (λ (zs : List ℕ). x ∷ zs) e)),
)

pub AreLinked-frame : (old new : LinkMap) (before : Option ℕ) (xs : List ℕ) (after : Option ℕ)
    → ((i : ℕ) → IsMember xs i → old i ≡ new i) → AreLinked old before xs after → AreLinked new before xs after
AreLinked-frame old new before [] after same s = tt
AreLinked-frame old new before (x ∷ xs) after same s =
    (sym (same x (inl refl)) ∙ s.0, AreLinked-frame old new (Some x) xs after (λ i h. same i (inr h)) s.1)

pub IsChain-frame : (old new : LinkMap) (c : Chain) → ((i : ℕ) → IsMember (items c) i → old i ≡ new i) → IsChain old c → IsChain new c
IsChain-frame old new (linear xs) same c = (c.0, c.1, AreLinked-frame old new None xs None same c.2)
IsChain-frame old new (cyclic xs) same c = (c.0, c.1, AreLinked-frame old new (last_or xs None) xs (first_or xs None) same c.2)

pub AreLinked-valid : (link_map : LinkMap) (before : Option ℕ) (xs : List ℕ) (after : Option ℕ) (i : ℕ)
    → AreLinked link_map before xs after → IsMember xs i → HasLink link_map i
AreLinked-valid link_map before [] after i s h = elim h [ ]
AreLinked-valid link_map before (x ∷ xs) after i s (inl e) = subst (HasLink link_map) e (reports_valid link_map x _ s.0)
AreLinked-valid link_map before (x ∷ xs) after i s (inr h) = AreLinked-valid link_map (Some x) xs after i s.1 h

pub AreLinked-next : (link_map : LinkMap) (before : Option ℕ) (xs : List ℕ) (after : Option ℕ) (i j : ℕ)
    → AreLinked link_map before xs after → IsMember xs i → next_of link_map i ≡ Some j → IsMember xs j ⊎ (after ≡ Some j)
AreLinked-next link_map before [] after i j s h n = elim h [ ]
AreLinked-next link_map before (x ∷ xs) after i j s (inl e) n =
    let first : first_or xs after ≡ Some j = sym (ap next_in s.0) ∙ (ap (next_of link_map) e ∙ n) in
    ⊎_elim (λ (h : IsMember xs j). let r : IsMember (x ∷ xs) j ⊎ (after ≡ Some j) = inl (inr h) in r) (λ (a : after ≡ Some j). inr a) (first_or-IsMember xs after j first)
AreLinked-next link_map before (x ∷ xs) after i j s (inr h) n = widen (AreLinked-next link_map (Some x) xs after i j s.1 h n)
  where
    widen : IsMember xs j ⊎ (after ≡ Some j) → IsMember (x ∷ xs) j ⊎ (after ≡ Some j)
    widen (inl k) = inl (inr k)
    widen (inr a) = inr a

pub AreLinked-prev : (link_map : LinkMap) (before : Option ℕ) (xs : List ℕ) (after : Option ℕ) (i j : ℕ)
    → AreLinked link_map before xs after → IsMember xs i → prev_of link_map i ≡ Some j → IsMember xs j ⊎ (before ≡ Some j)
AreLinked-prev link_map before [] after i j s h p = elim h [ ]
AreLinked-prev link_map before (x ∷ xs) after i j s (inl e) p = inr (sym (ap prev_in s.0) ∙ (ap (prev_of link_map) e ∙ p))
AreLinked-prev link_map before (x ∷ xs) after i j s (inr h) p = widen (AreLinked-prev link_map (Some x) xs after i j s.1 h p)
  where
    widen : IsMember xs j ⊎ (Some x ≡ Some j) → IsMember (x ∷ xs) j ⊎ (before ≡ Some j)
    widen (inl k) = inl (inr k)
    widen (inr a) = inl (inl (cc))

pub AreLinked-prev_some : (link_map : LinkMap) (b : ℕ) (xs : List ℕ) (after : Option ℕ) (i : ℕ)
    → AreLinked link_map (Some b) xs after → IsMember xs i → (j : ℕ) × (prev_of link_map i ≡ Some j)
AreLinked-prev_some link_map b [] after i s h = elim h [ ]
AreLinked-prev_some link_map b (x ∷ xs) after i s (inl e) = (b, sym (ap (prev_of link_map) e) ∙ ap prev_in s.0)
AreLinked-prev_some link_map b (x ∷ xs) after i s (inr h) = AreLinked-prev_some link_map x xs after i s.1 h

pub AreLinked-last : (link_map : LinkMap) (before : Option ℕ) (xs : List ℕ) (after : Option ℕ) (a : ℕ)
    → AreLinked link_map before xs after → (xs ≢ []) → last_or xs None ≡ Some a → next_of link_map a ≡ after
AreLinked-last link_map before [] after a s filled e = absurd (filled refl)
AreLinked-last link_map before (x ∷ []) after a s filled e =
    let same : x ≡ a = cc in
    subst (λ (z : ℕ). next_of link_map z ≡ after) same (ap next_in s.0)
AreLinked-last link_map before (x ∷ z ∷ xs) after a s filled e = AreLinked-last link_map (Some x) (z ∷ xs) after a s.1 (λ r. cc) e

pub AreLinked-first : (link_map : LinkMap) (xs : List ℕ) (after : Option ℕ) (i : ℕ)
    → AreLinked link_map None xs after → IsMember xs i → prev_of link_map i ≡ None → (others : Option ℕ) → first_or xs others ≡ Some i
AreLinked-first link_map [] after i s h p others = elim h [ ]
AreLinked-first link_map (x ∷ xs) after i s (inl e) p others = ap (λ (z : ℕ). Some z) e
AreLinked-first link_map (x ∷ xs) after i s (inr h) p others =
    let more = AreLinked-prev_some link_map x xs after i s.1 h in
    absurd (has_no_prev more.0 more.1)
  where
    has_no_prev : (j : ℕ) → prev_of link_map i ≡ Some j → ⊥
    has_no_prev j q = cc

pub apart_no_repetition : (link_map : LinkMap) (before : Option ℕ) (x : ℕ) (xs : List ℕ) (after : Option ℕ)
    → AreLinked link_map before (x ∷ xs) after → (IsMember xs x → ⊥) → AreDistinct (x ∷ xs)
apart_no_repetition link_map before x [] after s apart = (apart, tt)
apart_no_repetition link_map before x (y ∷ ys) after s apart =
    (apart, apart_no_repetition link_map (Some x) y ys after s.1 again)
  where
    prev_is : prev_of link_map y ≡ Some x
    prev_is = ap prev_in s.1.0

    again : IsMember ys y → ⊥
    again h = ⊎_elim (λ (k : IsMember ys x). apart (inr k)) (λ (e : Some y ≡ Some x). apart (inl (cc))) (AreLinked-prev link_map (Some y) ys after y x s.1.1 h prev_is)

pub first_no_repetition : (link_map : LinkMap) (xs : List ℕ) (after : Option ℕ) → AreLinked link_map None xs after → AreDistinct xs
first_no_repetition link_map [] after s = tt
first_no_repetition link_map (x ∷ xs) after s = apart_no_repetition link_map None x xs after s again
  where
    has_no_prev : (j : ℕ) → prev_of link_map x ≡ Some j → ⊥
    has_no_prev j q = let n : prev_of link_map x ≡ None = ap prev_in s.0 in cc

    again : IsMember xs x → ⊥
    again h = let more = AreLinked-prev_some link_map x xs after x s.1 h in has_no_prev more.0 more.1

pub one_onward : (link_map : LinkMap) (before left : Option ℕ) (xs ys : List ℕ)
    → AreLinked link_map before xs None → AreLinked link_map left ys None → first_or xs None ≡ first_or ys None → xs ≡ ys
one_onward link_map before left [] [] s t e = refl
one_onward link_map before left [] (y ∷ ys) s t e = absurd (cc)
one_onward link_map before left (x ∷ xs) [] s t e = absurd (cc)
one_onward link_map before left (x ∷ xs) (y ∷ ys) s t e =
    let same : x ≡ y = cc in
    let n : first_or xs None ≡ first_or ys None = sym (ap next_in s.0) ∙ (ap (next_of link_map) same ∙ ap next_in t.0) in
    let rest = one_onward link_map (Some x) (Some y) xs ys s.1 t.1 n in
    cc (same, rest)

pub lists_are_one : (link_map : LinkMap) (before left : Option ℕ) (xs ys : List ℕ) (i : ℕ)
    → AreLinked link_map before xs (Some i) → AreLinked link_map left ys (Some i) → (IsMember xs i → ⊥) → (IsMember ys i → ⊥)
    → first_or xs (Some i) ≡ first_or ys (Some i) → xs ≡ ys
lists_are_one link_map before left [] [] i s t a b e = refl
lists_are_one link_map before left [] (y ∷ ys) i s t a b e = absurd (b (inl (cc)))
lists_are_one link_map before left (x ∷ xs) [] i s t a b e = absurd (a (inl (cc)))
lists_are_one link_map before left (x ∷ xs) (y ∷ ys) i s t a b e =
    let same : x ≡ y = cc in
    let n : first_or xs (Some i) ≡ first_or ys (Some i) = sym (ap next_in s.0) ∙ (ap (next_of link_map) same ∙ ap next_in t.0) in
    let rest = lists_are_one link_map (Some x) (Some y) xs ys i s.1 t.1 (λ h. a (inr h)) (λ h. b (inr h)) n in
    cc (same, rest)

pub no_longer : (left : List ℕ) (x : ℕ) (right : List ℕ) → left ++ x ∷ right ≡ right → ⊥
no_longer left x right e =
    let l : length (left ++ x ∷ right) ≡ length left + length (x ∷ right) = length-append left (x ∷ right) in
    let m : length (left ++ x ∷ right) ≡ length right = ap (length {A = ℕ}) e in
    omega arith

pub last_no_repetition : (link_map : LinkMap) (before : Option ℕ) (xs : List ℕ) → AreLinked link_map before xs None → AreDistinct xs
last_no_repetition link_map before [] s = tt
last_no_repetition link_map before (x ∷ xs) s = (again, last_no_repetition link_map (Some x) xs s.1)
  where
    longer : (left right : List ℕ) → xs ≡ left ++ x ∷ right → ⊥
    longer left right e =
        let t : AreLinked link_map (Some x) (left ++ x ∷ right) None = subst (λ (zs : List ℕ). AreLinked link_map (Some x) zs None) e s.1 in
        let u = AreLinked-right link_map (Some x) left (x ∷ right) None t in
        let w : x ∷ xs ≡ x ∷ right = one_onward link_map before (last_or left (Some x)) (x ∷ xs) (x ∷ right) s u refl in
        let v : left ++ x ∷ right ≡ right = sym e ∙ (cc) in
        no_longer left x right v

    again : IsMember xs x → ⊥
    again h = let w = IsMember-written xs x h in longer w.0 w.1 w.2
