-- Chains with a common index are the same.
use Rattle.std.proofs.Common.{◌≡◌, ◌≢◌, ℕ, ◌≤◌, inl, inr, ⊎_elim, List, [], ◌∷◌, Option, None, Some, refl, sym, ap, ◌∙◌, subst, arith}
use Rattle.chain_laws.specs.Chains.{LinkMap, HasLink, IsMember, AreDistinct, Chain, linear, cyclic, items, first_or, last_or, prev_in, next_in, prev_of, next_of, AreLinked, IsChain, StartsAtLeast, IsAtMostEach}
use Rattle.chain_laws.proofs.ListLemmas.Members.{first_or-IsMember, last_or-IsMember, last_or-filled}
use Rattle.chain_laws.proofs.ChainLemmas.LinkedLists.{AreLinked-valid, AreLinked-next, AreLinked-prev, AreLinked-prev_some, AreLinked-first, one_onward, lists_are_one}

pub record HasAllNeighbors (link_map : LinkMap) (Member : ℕ → Type 0) : Type 0 where
  pub forward : (i j : ℕ) → Member i → next_of link_map i ≡ Some j → Member j
  pub back : (i j : ℕ) → Member i → prev_of link_map i ≡ Some j → Member j

pub chain_closed : (link_map : LinkMap) (c : Chain) → IsChain link_map c → HasAllNeighbors link_map (IsMember (items c))
chain_closed link_map (linear xs) h = record { forward = onward; back = backward }
  where
    onward : (i j : ℕ) → IsMember xs i → next_of link_map i ≡ Some j → IsMember xs j
    onward i j m e = ⊎_elim (λ (k : IsMember xs j). k) (λ (n : None ≡ Some j). absurd (cc)) (AreLinked-next link_map None xs None i j h.2 m e)

    backward : (i j : ℕ) → IsMember xs i → prev_of link_map i ≡ Some j → IsMember xs j
    backward i j m e = ⊎_elim (λ (k : IsMember xs j). k) (λ (n : None ≡ Some j). absurd (cc)) (AreLinked-prev link_map None xs None i j h.2 m e)
chain_closed link_map (cyclic xs) h = record { forward = onward; back = backward }
  where
    first : (j : ℕ) → first_or xs None ≡ Some j → IsMember xs j
    first j e = ⊎_elim (λ (k : IsMember xs j). k) (λ (n : None ≡ Some j). absurd (cc)) (first_or-IsMember xs None j e)

    last : (j : ℕ) → last_or xs None ≡ Some j → IsMember xs j
    last j e = ⊎_elim (λ (k : IsMember xs j). k) (λ (n : None ≡ Some j). absurd (cc)) (last_or-IsMember xs None j e)

    onward : (i j : ℕ) → IsMember xs i → next_of link_map i ≡ Some j → IsMember xs j
    onward i j m e = ⊎_elim (λ (k : IsMember xs j). k) (first j) (AreLinked-next link_map (last_or xs None) xs (first_or xs None) i j h.2 m e)

    backward : (i j : ℕ) → IsMember xs i → prev_of link_map i ≡ Some j → IsMember xs j
    backward i j m e = ⊎_elim (λ (k : IsMember xs j). k) (last j) (AreLinked-prev link_map (last_or xs None) xs (first_or xs None) i j h.2 m e)

pub chain_valid : (link_map : LinkMap) (c : Chain) (i : ℕ) → IsChain link_map c → IsMember (items c) i → HasLink link_map i
chain_valid link_map (linear xs) i h m = AreLinked-valid link_map None xs None i h.2 m
chain_valid link_map (cyclic xs) i h m = AreLinked-valid link_map (last_or xs None) xs (first_or xs None) i h.2 m

pub chain_once : (link_map : LinkMap) (c : Chain) → IsChain link_map c → AreDistinct (items c)
chain_once link_map (linear xs) h = h.1
chain_once link_map (cyclic xs) h = h.1

pub chain_filled : (link_map : LinkMap) (c : Chain) → IsChain link_map c → items c ≢ []
chain_filled link_map (linear xs) h = h.0
chain_filled link_map (cyclic xs) h = h.0

pub reaches_first : (link_map : LinkMap) (Member : ℕ → Type 0) (before : Option ℕ) (x : ℕ) (xs : List ℕ) (after : Option ℕ) (i : ℕ)
    → HasAllNeighbors link_map Member → AreLinked link_map before (x ∷ xs) after → IsMember (x ∷ xs) i → Member i → Member x
reaches_first link_map Member before x xs after i closed s (inl e) m = subst Member (sym e) m
reaches_first link_map Member before x [] after i closed s (inr h) m = elim h [ ]
reaches_first link_map Member before x (y ∷ ys) after i closed s (inr h) m =
    closed.back y x (reaches_first link_map Member (Some x) y ys after i closed s.1 h m) (ap prev_in s.1.0)

pub reaches_all : (link_map : LinkMap) (Member : ℕ → Type 0) (before : Option ℕ) (x : ℕ) (xs : List ℕ) (after : Option ℕ) (i : ℕ)
    → HasAllNeighbors link_map Member → AreLinked link_map before (x ∷ xs) after → Member x → IsMember (x ∷ xs) i → Member i
reaches_all link_map Member before x xs after i closed s m (inl e) = subst Member e m
reaches_all link_map Member before x [] after i closed s m (inr h) = elim h [ ]
reaches_all link_map Member before x (y ∷ ys) after i closed s m (inr h) =
    reaches_all link_map Member (Some x) y ys after i closed s.1 (closed.forward x y m (ap next_in s.0)) h

pub reaches : (link_map : LinkMap) (Member : ℕ → Type 0) (before : Option ℕ) (xs : List ℕ) (after : Option ℕ) (i j : ℕ)
    → HasAllNeighbors link_map Member → AreLinked link_map before xs after → IsMember xs i → Member i → IsMember xs j → Member j
reaches link_map Member before [] after i j closed s h m k = elim h [ ]
reaches link_map Member before (x ∷ xs) after i j closed s h m k =
    reaches_all link_map Member before x xs after j closed s (reaches_first link_map Member before x xs after i closed s h m) k

pub chain_within : (link_map : LinkMap) (Member : ℕ → Type 0) (c : Chain) (i j : ℕ)
    → HasAllNeighbors link_map Member → IsChain link_map c → IsMember (items c) i → Member i → IsMember (items c) j → Member j
chain_within link_map Member (linear xs) i j closed h k m l = reaches link_map Member None xs None i j closed h.2 k m l
chain_within link_map Member (cyclic xs) i j closed h k m l = reaches link_map Member (last_or xs None) xs (first_or xs None) i j closed h.2 k m l

pub chains_share : (link_map : LinkMap) (c d : Chain) (i j : ℕ)
    → IsChain link_map c → IsChain link_map d → IsMember (items c) i → IsMember (items d) i → IsMember (items c) j → IsMember (items d) j
chains_share link_map c d i j h k m n l = chain_within link_map (IsMember (items d)) c i j (chain_closed link_map d k) h m n l

pub cyclic_prev_some : (link_map : LinkMap) (xs : List ℕ) (i : ℕ) → IsChain link_map (cyclic xs) → IsMember xs i → (j : ℕ) × (prev_of link_map i ≡ Some j)
cyclic_prev_some link_map xs i h m =
    let last = last_or-filled xs i m in
    AreLinked-prev_some link_map last.0 xs (first_or xs None) i (subst (λ (o : Option ℕ). AreLinked link_map o xs (first_or xs None)) (last.1 None) h.2) m

pub not_both : (link_map : LinkMap) (xs ys : List ℕ) (i : ℕ) → IsChain link_map (linear xs) → IsChain link_map (cyclic ys) → IsMember xs i → IsMember ys i → ⊥
not_both link_map [] ys i h k m n = m
not_both link_map (x ∷ xs) ys i h k m n =
    let member : IsMember ys x = reaches_first link_map (IsMember ys) None x xs None i (chain_closed link_map (cyclic ys) k) h.2 m n in
    let some = cyclic_prev_some link_map ys x k member in
    has_no_prev some.0 some.1
  where
    has_no_prev : (j : ℕ) → prev_of link_map x ≡ Some j → ⊥
    has_no_prev j e = let none : prev_of link_map x ≡ None = ap prev_in h.2.0 in cc

pub one_linear : (link_map : LinkMap) (xs ys : List ℕ) (i : ℕ) → IsChain link_map (linear xs) → IsChain link_map (linear ys) → IsMember xs i → IsMember ys i → xs ≡ ys
one_linear link_map [] ys i h k m n = elim m [ ]
one_linear link_map (x ∷ xs) ys i h k m n =
    let member : IsMember ys x = reaches_first link_map (IsMember ys) None x xs None i (chain_closed link_map (linear ys) k) h.2 m n in
    let first : first_or ys None ≡ Some x = AreLinked-first link_map ys None x k.2 member (ap prev_in h.2.0) None in
    one_onward link_map None None (x ∷ xs) ys h.2 k.2 (sym first)

pub one_cyclic : (link_map : LinkMap) (i : ℕ) (xs ys : List ℕ) → IsChain link_map (cyclic (i ∷ xs)) → IsChain link_map (cyclic (i ∷ ys)) → xs ≡ ys
one_cyclic link_map i xs ys h k =
    lists_are_one link_map (Some i) (Some i) xs ys i h.2.1 k.2.1 h.1.0 k.1.0 (sym (ap next_in h.2.0) ∙ ap next_in k.2.0)

pub at_most_members : (x : ℕ) (xs : List ℕ) (y : ℕ) → IsAtMostEach x xs → IsMember xs y → x ≤ y
at_most_members x [] y least h = elim h [ ]
at_most_members x (z ∷ xs) y least (inl e) = subst (λ (w : ℕ). x ≤ w) e least.0
at_most_members x (z ∷ xs) y least (inr h) = at_most_members x xs y least.1 h

pub IsMember-at_most : (x : ℕ) (xs : List ℕ) → ((y : ℕ) → IsMember xs y → x ≤ y) → IsAtMostEach x xs
IsMember-at_most x [] least = tt
IsMember-at_most x (z ∷ xs) least = (least z (inl refl), IsMember-at_most x xs (λ y h. least y (inr h)))

pub written_least : (x : ℕ) (xs : List ℕ) (y : ℕ) → StartsAtLeast (cyclic (x ∷ xs)) → IsMember (x ∷ xs) y → x ≤ y
written_least x xs y w (inl e) = let same : x ≡ y = e in omega arith
written_least x xs y w (inr h) = at_most_members x xs y w h

pub one_written : (link_map : LinkMap) (xs ys : List ℕ) (i : ℕ) → IsChain link_map (cyclic xs) → IsChain link_map (cyclic ys) → StartsAtLeast (cyclic xs) → StartsAtLeast (cyclic ys)
    → IsMember xs i → IsMember ys i → xs ≡ ys
one_written link_map [] ys i h k v w m n = elim m [ ]
one_written link_map (x ∷ xs) [] i h k v w m n = elim n [ ]
one_written link_map (x ∷ xs) (y ∷ ys) i h k v w m n =
    let x_in : IsMember (y ∷ ys) x = chains_share link_map (cyclic (x ∷ xs)) (cyclic (y ∷ ys)) i x h k m n (inl refl) in
    let y_in : IsMember (x ∷ xs) y = chains_share link_map (cyclic (y ∷ ys)) (cyclic (x ∷ xs)) i y k h n m (inl refl) in
    let low : x ≤ y = written_least x xs y v y_in in
    let high : y ≤ x = written_least y ys x w x_in in
    let same : x ≡ y = omega arith in
    let from : IsChain link_map (cyclic (x ∷ ys)) = subst (λ (z : ℕ). IsChain link_map (cyclic (z ∷ ys))) (sym same) k in
    let rest : xs ≡ ys = one_cyclic link_map x xs ys h from in
    cc (same, rest)

pub one_chain : (link_map : LinkMap) (c d : Chain) (i : ℕ) → IsChain link_map c → IsChain link_map d → StartsAtLeast c → StartsAtLeast d
    → IsMember (items c) i → IsMember (items d) i → c ≡ d
one_chain link_map (linear xs) (linear ys) i h k v w m n = ap (λ (zs : List ℕ). linear zs) (one_linear link_map xs ys i h k m n)
one_chain link_map (linear xs) (cyclic ys) i h k v w m n = absurd (not_both link_map xs ys i h k m n)
one_chain link_map (cyclic xs) (linear ys) i h k v w m n = absurd (not_both link_map ys xs i k h n m)
one_chain link_map (cyclic xs) (cyclic ys) i h k v w m n = ap (λ (zs : List ℕ). cyclic zs) (one_written link_map xs ys i h k v w m n)
