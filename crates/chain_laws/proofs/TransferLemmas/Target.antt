-- A new link at the end of the last of several runs.
use Rattle.std.proofs.Common.{◌≡◌, ℕ, suc, ◌+◌, ◌-◌, ◌<◌, ◌≤◌, ◌⊎◌, inl, inr, Bool, true, false, if◌then◌else◌, List, [], ◌∷◌, ◌++◌, length, Option, None, Some, refl, sym, ap, ap₂, ◌∙◌, subst, length-append, append_assoc, append-nil, arith}
use Rattle.std.specs.List.{range_with_len}
use Rattle.chain_laws.specs.Chains.{LinkMap, Chain, linear, cyclic, items, all_items, HasChain, IsMember, AreDistinct, IsChain, HasLink, AreChains, first_or, last_or, next_in, next_of}
use Rattle.chain_laws.specs.Insertions.{with_insertion, IsInsertPosition, Inserts, HasIndex}
use Rattle.chain_laws.specs.Arrangements.{in_runs}
use Rattle.chain_laws.specs.ChainStart.{chain_of}
use Rattle.chain_laws.specs.Transfer.{with_rest, with_appended, end_before, end_after, LastIsAppended}
use Rattle.chain_laws.proofs.ChainLemmas.LinkedLists.{AreLinked-at, reports_valid}
use Rattle.chain_laws.proofs.ChainLemmas.ChainLists.{IsMember-all_items}
use Rattle.chain_laws.proofs.InsertionLemmas.Chains.{inserted_inserts}
use Rattle.chain_laws.proofs.TransferLemmas.Source.{items_of}
use Rattle.chain_laws.proofs.ListLemmas.Ranges.{IsMember-range, range-IsMember, AreDistinct-range, range_last, in_runs-append, one_run}
use Rattle.chain_laws.proofs.RenamingLemmas.ChainRuns.{items_in_runs}

chain-parts : (cs ds : List Chain) (c : Chain) → HasChain (cs ++ ds) c → HasChain cs c ⊎ HasChain ds c
chain-parts [] ds c h = inr h
chain-parts (b ∷ cs) ds c (inl e) = inl (inl e)
chain-parts (b ∷ cs) ds c (inr h) = into (chain-parts cs ds c h)
  where
    into : HasChain cs c ⊎ HasChain ds c → HasChain (b ∷ cs) c ⊎ HasChain ds c
    into (inl m) = inl (inr m)
    into (inr m) = inr m

chain-left : (cs ds : List Chain) (c : Chain) → HasChain cs c → HasChain (cs ++ ds) c
chain-left [] ds c h = absurd h
chain-left (b ∷ cs) ds c (inl e) = inl e
chain-left (b ∷ cs) ds c (inr h) = inr (chain-left cs ds c h)

chain-right : (cs ds : List Chain) (c : Chain) → HasChain ds c → HasChain (cs ++ ds) c
chain-right [] ds c h = h
chain-right (b ∷ cs) ds c h = inr (chain-right cs ds c h)

pub all_items-append : (cs ds : List Chain) → all_items (cs ++ ds) ≡ all_items cs ++ all_items ds
all_items-append [] ds = refl
all_items-append (c ∷ cs) ds = ap (λ (xs : List ℕ). items c ++ xs) (all_items-append cs ds) ∙ sym (append_assoc (items c) (all_items cs) (all_items ds))

pub items_arranged : (done : List Chain) (ring : Bool) (xs : List ℕ) → all_items (with_appended done ring xs) ≡ all_items done ++ xs
items_arranged done ring [] = sym (append-nil (all_items done))
items_arranged done ring (x ∷ xs) =
    all_items-append done (chain_of ring (x ∷ xs) ∷ [])
    ∙ ap (λ (ys : List ℕ). all_items done ++ ys) (append-nil (items (chain_of ring (x ∷ xs))) ∙ items_of ring (x ∷ xs))

pub arranged-length : (done : List Chain) (ring : Bool) (xs : List ℕ) → length (all_items (with_appended done ring xs)) ≡ length (all_items done) + length xs
arranged-length done ring xs = ap length (items_arranged done ring xs) ∙ length-append (all_items done) xs

pub arranged_between : (done : List Chain) (ring : Bool) (xs : List ℕ) (rest : List Chain) → done ++ with_rest ring xs rest ≡ with_appended done ring xs ++ rest
arranged_between done ring [] rest = refl
arranged_between done ring (x ∷ xs) rest = sym (append_assoc done (chain_of ring (x ∷ xs) ∷ []) rest)

arranged_runs : (done : List Chain) (ring : Bool) (x : ℕ) (xs : List ℕ)
    → in_runs 1 (with_appended done ring (x ∷ xs)) ≡ in_runs 1 done ++ chain_of ring (range_with_len (1 + length (all_items done)) (length (x ∷ xs))) ∷ []
arranged_runs done ring x xs =
    in_runs-append 1 done (chain_of ring (x ∷ xs) ∷ [])
    ∙ ap (λ (ds : List Chain). in_runs 1 done ++ ds) (one_run (1 + length (all_items done)) ring (x ∷ xs))

filled_arranged : (done : List Chain) (ring : Bool) (xs : List ℕ) (x : ℕ)
    → in_runs 1 (with_appended done ring (xs ++ x ∷ [])) ≡ in_runs 1 done ++ chain_of ring (range_with_len (1 + length (all_items done)) (length xs + 1)) ∷ []
filled_arranged done ring [] x = arranged_runs done ring x []
filled_arranged done ring (y ∷ xs) x =
    arranged_runs done ring y (xs ++ x ∷ [])
    ∙ ap (λ (n : ℕ). in_runs 1 done ++ chain_of ring (range_with_len (1 + length (all_items done)) n) ∷ []) (length-append (y ∷ xs) (x ∷ []))

last_next : (link_map : LinkMap) (ring : Bool) (k n : ℕ) → IsChain link_map (chain_of ring (range_with_len k (n + 1)))
    → HasLink link_map (k + n) × (next_of link_map (k + n) ≡ (if ring then Some k else None))
last_next link_map false k n h =
    let s = AreLinked-at link_map None (range_with_len k n) [] None (k + n) (subst (λ (zs : List ℕ). IsChain link_map (linear zs)) (range_last k n) h).2 in
    (reports_valid link_map (k + n) _ s, ap next_in s)
last_next link_map true k n h =
    let all = range_with_len k n ++ (k + n) ∷ [] in
    let s = AreLinked-at link_map (last_or all None) (range_with_len k n) [] (first_or all None) (k + n) (subst (λ (zs : List ℕ). IsChain link_map (cyclic zs)) (range_last k n) h).2 in
    (reports_valid link_map (k + n) _ s, ap next_in s ∙ sym (ap (λ (zs : List ℕ). first_or zs None) (range_last k n)) ∙ first k n)
  where
    first : (k n : ℕ) → first_or (range_with_len k (n + 1)) None ≡ Some k
    first k n = ap (λ (m : ℕ). first_or (range_with_len k m) None) (let e : n + 1 ≡ suc n = omega arith in e)

longer_run : (new : LinkMap) (ring : Bool) (k n a q : ℕ) → a ≡ k + n → q ≡ a + 1 → IsChain new (chain_of ring (range_with_len k n ++ a ∷ q ∷ [])) → IsChain new (chain_of ring (range_with_len k (suc n + 1)))
longer_run new ring k n a q last after h =
    subst (λ (zs : List ℕ). IsChain new (chain_of ring zs)) (sym (ap (range_with_len k) (let e : suc n + 1 ≡ (n + 1) + 1 = omega arith in e) ∙ range_last k (n + 1) ∙ ap₂ (λ (zs : List ℕ) (z : ℕ). zs ++ z ∷ []) (range_last k n) (let e : k + (n + 1) ≡ q = omega arith in e)
    ∙ (append_assoc (range_with_len k n) ((k + n) ∷ []) (q ∷ []) ∙ ap (λ (z : ℕ). range_with_len k n ++ z ∷ q ∷ []) (sym last)))) h

record IsEnd (link_map : LinkMap) (ring : Bool) (k m q : ℕ) : Type 0 where
  position : IsInsertPosition link_map q (end_before ring m q) (end_after ring m q)
  longer : (new : LinkMap) → Inserts link_map new q (end_before ring m q) (end_after ring m q) → IsChain new (chain_of ring (range_with_len k (m + 1)))
  low : (c : Chain) → ((i : ℕ) → IsMember (items c) i → i < k) → (HasIndex c (end_before ring m q) → ⊥) × (HasIndex c (end_after ring m q) → ⊥)

first_end : (link_map : LinkMap) (ring : Bool) (k q : ℕ) → q ≡ k → IsEnd link_map ring k 0 q
first_end link_map false k q is = record {
  position = tt;
  longer = λ new ins. subst (λ (z : ℕ). IsChain new (linear (z ∷ []))) is (ins.alone refl refl);
  low = λ c below. ((λ h. h), (λ h. h));
}
first_end link_map true k q is = record {
  position = inr (inr (refl, refl));
  longer = λ new ins. subst (λ (z : ℕ). IsChain new (cyclic (z ∷ []))) is (ins.ring refl refl);
  low = λ c below. ((λ h. above c below h), (λ h. above c below h));
}
  where
    above : (c : Chain) → ((i : ℕ) → IsMember (items c) i → i < k) → IsMember (items c) q → ⊥
    above c below h = let l = below q h in omega (arith, l)

next_end : (link_map : LinkMap) (ring : Bool) (k n q : ℕ) → q ≡ (k + n) + 1 → IsChain link_map (chain_of ring (range_with_len k (suc n))) → IsEnd link_map ring k (suc n) q
next_end link_map ring k n q is h = by ring (last_next link_map ring k n own_run) own_run
  where
    own_run : IsChain link_map (chain_of ring (range_with_len k (n + 1)))
    own_run = subst (λ (m : ℕ). IsChain link_map (chain_of ring (range_with_len k m))) (let e : suc n ≡ n + 1 = omega arith in e) h

    last : q - 1 ≡ k + n
    last = omega arith

    first : q - suc n ≡ k
    first = omega arith

    after : q ≡ (q - 1) + 1
    after = omega arith

    above : (c : Chain) → ((i : ℕ) → IsMember (items c) i → i < k) → (j : ℕ) → k ≤ j → IsMember (items c) j → ⊥
    above c below j high m = let l = below j m in omega (arith, l)

    written : (r : Bool) → IsChain link_map (chain_of r (range_with_len k (n + 1))) → IsChain link_map (chain_of r (range_with_len k n ++ (q - 1) ∷ []))
    written r own = subst (λ (zs : List ℕ). IsChain link_map (chain_of r zs)) (range_last k n ∙ ap (λ (z : ℕ). range_with_len k n ++ z ∷ []) (sym last)) own

    by : (r : Bool) → HasLink link_map (k + n) × (next_of link_map (k + n) ≡ (if r then Some k else None)) → IsChain link_map (chain_of r (range_with_len k (n + 1))) → IsEnd link_map r k (suc n) q
    by false (valid, next) own = record {
      position = (subst (HasLink link_map) (sym last) valid, ap (next_of link_map) last ∙ next);
      longer = λ new ins. longer_run new false k n (q - 1) q last after ((ins.after (q - 1) refl (sym (ap (next_of link_map) last ∙ next)) (range_with_len k n) []).0 (written false own));
      low = λ c below. ((λ m. above c below (q - 1) (omega arith) m), (λ m. m));
    }
    by true (valid, next) own =
        let once_around : next_of link_map (q - 1) ≡ Some (q - suc n) = ap (next_of link_map) last ∙ (next ∙ ap (λ (z : ℕ). Some z) (sym first)) in
        record {
          position = inl once_around;
          longer = λ new ins. longer_run new true k n (q - 1) q last after ((ins.after (q - 1) refl (sym once_around) (range_with_len k n) []).1 (written true own));
          low = λ c below. ((λ m. above c below (q - 1) (omega arith) m), (λ m. above c below (q - suc n) (omega arith) m));
        }

module _ (link_map : LinkMap) (done : List Chain) (ring : Bool) (xs : List ℕ) (x q : ℕ) (are : AreChains link_map (in_runs 1 (with_appended done ring xs))) (is : q ≡ length (all_items done) + length xs + 1) where
  arranged : all_items (in_runs 1 (with_appended done ring xs)) ≡ range_with_len 1 (length (all_items done) + length xs)
  arranged = items_in_runs 1 (with_appended done ring xs) ∙ ap (range_with_len 1) (arranged-length done ring xs)

  before_q : (i : ℕ) → HasLink link_map i → (1 ≤ i) × (i < q)
  before_q i v = let w = IsMember-range 1 (length (all_items done) + length xs) i (subst (λ (zs : List ℕ). IsMember zs i) arranged (are.all i v)) in (w.0, omega (arith, w.1, is))

  free : link_map q ≡ None
  free = by (link_map q) refl
    where
      by : (o : Option _) → link_map q ≡ o → o ≡ None
      by None e = refl
      by (Some l) e = let w = before_q q (reports_valid link_map q l e) in absurd (omega (arith, w.1))

  below : (c : Chain) → HasChain (in_runs 1 done) c → (i : ℕ) → IsMember (items c) i → i < 1 + length (all_items done)
  below c h i m =
      let w = IsMember-range 1 (length (all_items done)) i (subst (λ (zs : List ℕ). IsMember zs i) (items_in_runs 1 done) (IsMember-all_items (in_runs 1 done) c i h m)) in
      omega (arith, w.1)

  old_chain : (ys : List ℕ) → xs ≡ ys → (c : Chain) → HasChain (in_runs 1 done) c → IsChain link_map c
  old_chain [] e c h = are.each c (subst (λ (zs : List ℕ). HasChain (in_runs 1 (with_appended done ring zs)) c) (sym e) h)
  old_chain (y ∷ ys) e c h =
      are.each c (subst (λ (zs : List ℕ). HasChain (in_runs 1 (with_appended done ring zs)) c) (sym e)
      (subst (λ (cs : List Chain). HasChain cs c) (sym (arranged_runs done ring y ys)) (chain-left (in_runs 1 done) _ c h)))

  end : (ys : List ℕ) → xs ≡ ys → IsEnd link_map ring (1 + length (all_items done)) (length ys) q
  end [] e = let long : length xs ≡ 0 = ap length e in first_end link_map ring (1 + length (all_items done)) q (omega arith)
  end (y ∷ ys) e =
      let run = chain_of ring (range_with_len (1 + length (all_items done)) (length (y ∷ ys))) in
      let long : length xs ≡ suc (length ys) = ap length e in
      next_end link_map ring (1 + length (all_items done)) (length ys) q (omega arith)
      (are.each run (subst (λ (zs : List ℕ). HasChain (in_runs 1 (with_appended done ring zs)) run) (sym e)
      (subst (λ (cs : List Chain). HasChain cs run) (sym (arranged_runs done ring y ys)) (chain-right (in_runs 1 done) (run ∷ []) run (inl refl)))))

  abbrev new : LinkMap
  new = with_insertion link_map q (end_before ring (length xs) q) (end_after ring (length xs) q)

  ins : Inserts link_map new q (end_before ring (length xs) q) (end_after ring (length xs) q)
  ins = inserted_inserts link_map q (end_before ring (length xs) q) (end_after ring (length xs) q) free

  each : (c : Chain) → HasChain (in_runs 1 (with_appended done ring (xs ++ x ∷ []))) c → IsChain new c
  each c h = by (chain-parts (in_runs 1 done) (chain_of ring (range_with_len (1 + length (all_items done)) (length xs + 1)) ∷ []) c (subst (λ (cs : List Chain). HasChain cs c) (filled_arranged done ring xs x) h))
    where
      by : HasChain (in_runs 1 done) c ⊎ HasChain (chain_of ring (range_with_len (1 + length (all_items done)) (length xs + 1)) ∷ []) c → IsChain new c
      by (inl m) =
          let low = (end xs refl).low c (below c m) in
          (ins.rest c (λ g. let l = below c m q g in omega (arith, l, is)) low.0 low.1).0 (old_chain xs refl c m)
      by (inr (inl e)) = subst (IsChain new) e ((end xs refl).longer new ins)
      by (inr (inr m)) = absurd m

  all : (i : ℕ) → HasLink new i → IsMember (all_items (in_runs 1 (with_appended done ring (xs ++ x ∷ [])))) i
  all i v = subst (λ (zs : List ℕ). IsMember zs i) (sym now_arranged) (by ((ins.links i).0 v))
    where
      now_arranged : all_items (in_runs 1 (with_appended done ring (xs ++ x ∷ []))) ≡ range_with_len 1 q
      now_arranged = items_in_runs 1 (with_appended done ring (xs ++ x ∷ [])) ∙ ap (range_with_len 1) (arranged-length done ring (xs ++ x ∷ []) ∙ (let e : length (xs ++ x ∷ []) ≡ length xs + 1 = length-append xs (x ∷ []) in omega arith))

      by : HasLink link_map i ⊎ (i ≡ q) → IsMember (range_with_len 1 q) i
      by (inl w) = let b = before_q i w in range-IsMember 1 q i b.0 (omega (arith, b.1))
      by (inr e) = range-IsMember 1 q i (omega arith) (omega arith)

  once : AreDistinct (all_items (in_runs 1 (with_appended done ring (xs ++ x ∷ []))))
  once = subst AreDistinct (sym (items_in_runs 1 (with_appended done ring (xs ++ x ∷ [])))) (AreDistinct-range 1 _)

pub last_is_appended : LastIsAppended
last_is_appended link_map done ring xs x q are is = (
  free link_map done ring xs x q are is,
  (end link_map done ring xs x q are is xs refl).position,
  record { each = each link_map done ring xs x q are is; once = once link_map done ring xs x q are is; all = all link_map done ring xs x q are is },
)
