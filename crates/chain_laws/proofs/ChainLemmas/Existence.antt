-- A well-linked arena has chains.
use Rattle.std.proofs.Common.{◌≡◌, ◌≢◌, ℕ, zero, suc, ◌+◌, ◌<◌, ◌≤◌, ◌⊎◌, inl, inr, ⊎_elim, List, [], ◌∷◌, ◌++◌, length, Option, None, Some, refl, sym, ap, ◌∙◌, subst, length-append, arith}
use Rattle.std.proofs.Math.Decide.{ℕ_discrete}
use Rattle.chain_laws.specs.Chains.{LinkMap, Interlinks, HasLink, HasLinksWithin, IsWellLinked, IsMember, AreDistinct, Chain, linear, cyclic, items, last_or, prev_in, prev_of, next_of, AreLinked, IsChain, HasChain, all_items, StartsAtLeast, IsSortedByLeast, AreChains, IsInOrder}
use Rattle.chain_laws.proofs.ListLemmas.Members.{IsMember-left, IsMember-right, IsMember-parts, IsMember-filled, IsMember-or_not, AreDistinct-append, last_or-filled, length_bound}
use Rattle.chain_laws.proofs.ChainLemmas.LinkedLists.{link, reports_valid, reports_both, next_valid, prev_valid, AreLinked-append, AreLinked-valid, AreLinked-last, apart_no_repetition, last_no_repetition}
use Rattle.chain_laws.proofs.ChainLemmas.Uniqueness.{chain_valid, chain_once, chains_share, IsMember-at_most}
use Rattle.chain_laws.proofs.ChainLemmas.Rotations.{rotated_to}
use Rattle.chain_laws.proofs.ChainLemmas.ChainLists.{IsMember-all_items, chain_at, all_items_valid}

data Ending (link_map : LinkMap) (before : Option ℕ) (k : ℕ) : Type 0 where
  ends : (after : List ℕ) → AreLinked link_map before (k ∷ after) None → Ending link_map before k
  is_cyclic : (after : List ℕ) → AreLinked link_map before (k ∷ after) (Some k) → (IsMember after k → ⊥) → Ending link_map before k

data Beginning (link_map : LinkMap) (k : ℕ) : Type 0 where
  begins : (xs : List ℕ) → AreLinked link_map None xs None → IsMember xs k → Beginning link_map k

pub data ChainOf (link_map : LinkMap) (k : ℕ) : Type 0 where
  stored_in : (c : Chain) → IsChain link_map c → IsMember (items c) k → ChainOf link_map k

module _ (link_map : LinkMap) (slots : ℕ) (agrees : IsWellLinked link_map) (within : HasLinksWithin link_map slots) where
  bounded : (xs : List ℕ) → AreDistinct xs → ((i : ℕ) → IsMember xs i → HasLink link_map i) → slots < length xs → ⊥
  bounded xs once valid more =
      let bound : length xs ≤ slots = length_bound xs slots once (λ i h. within.within i (valid i h)) in
      omega arith

  names_last : (before : Option ℕ) (k : ℕ) (xs : List ℕ) (j : ℕ) → AreLinked link_map before (k ∷ xs) (Some j) → prev_of link_map j ≡ last_or (k ∷ xs) None
  names_last before k xs j s =
      let last = last_or-filled (k ∷ xs) k (inl refl) in
      let on : next_of link_map last.0 ≡ Some j = AreLinked-last link_map before (k ∷ xs) (Some j) last.0 s (IsMember-filled (k ∷ xs) k (inl refl)) (last.1 None) in
      (agrees.both last.0 j).0 on ∙ sym (last.1 None)

  onward : (left : ℕ) (before : Option ℕ) (k : ℕ) (xs : List ℕ) (j : ℕ) → AreLinked link_map before (k ∷ xs) (Some j) → (IsMember xs k → ⊥) → (j ≢ k)
      → slots < left + length (k ∷ xs) → Ending link_map before k
  onward zero before k xs j s apart differs more =
      absurd (bounded (k ∷ xs) (apart_no_repetition link_map before k xs (Some j) s apart) (λ i h. AreLinked-valid link_map before (k ∷ xs) (Some j) i s h) (omega arith))
  onward (suc left) before k xs j s apart differs more = by_next (next_of link_map j) refl (λ m t a d. onward left before k (xs ++ j ∷ []) m t a d longer)
    where
      prev_is : prev_of link_map j ≡ last_or (k ∷ xs) before
      prev_is = names_last before k xs j s

      valid : HasLink link_map j
      valid = let last = last_or-filled (k ∷ xs) k (inl refl) in prev_valid link_map j last.0 (prev_is ∙ last.1 before)

      longer : slots < left + length (k ∷ xs ++ j ∷ [])
      longer = let l : length (xs ++ j ∷ []) ≡ length xs + length (j ∷ []) = length-append xs (j ∷ []) in omega arith

      stored : (after : Option ℕ) → next_of link_map j ≡ after → AreLinked link_map before (k ∷ xs ++ j ∷ []) after
      stored after n = AreLinked-append link_map before (k ∷ xs) (j ∷ []) after s (reports_both link_map j (last_or (k ∷ xs) before) after valid prev_is n, tt)

      still_apart : IsMember (xs ++ j ∷ []) k → ⊥
      still_apart h = ⊎_elim apart (⊎_elim differs (λ (n : ⊥). n)) (IsMember-parts xs (j ∷ []) k h)

      by_test : (m : ℕ) → next_of link_map j ≡ Some m → Dec (m ≡ k)
          → ((m : ℕ) → AreLinked link_map before (k ∷ xs ++ j ∷ []) (Some m) → (IsMember (xs ++ j ∷ []) k → ⊥) → (m ≢ k) → Ending link_map before k) → Ending link_map before k
      by_test m n (yes e) on = is_cyclic (xs ++ j ∷ []) (stored (Some k) (n ∙ ap (λ (z : ℕ). Some z) e)) still_apart
      by_test m n (no d) on = on m (stored (Some m) n) still_apart d

      by_next : (after : Option ℕ) → next_of link_map j ≡ after
          → ((m : ℕ) → AreLinked link_map before (k ∷ xs ++ j ∷ []) (Some m) → (IsMember (xs ++ j ∷ []) k → ⊥) → (m ≢ k) → Ending link_map before k) → Ending link_map before k
      by_next None n on = ends (xs ++ j ∷ []) (stored None n)
      by_next (Some m) n on = by_test m n (ℕ_discrete m k) on

  on_from : (k : ℕ) → HasLink link_map k → Ending link_map (prev_of link_map k) k
  on_from k valid = by_next (next_of link_map k) refl
    where
      stored : (after : Option ℕ) → next_of link_map k ≡ after → AreLinked link_map (prev_of link_map k) (k ∷ []) after
      stored after n = (reports_both link_map k (prev_of link_map k) after valid refl n, tt)

      by_test : (m : ℕ) → next_of link_map k ≡ Some m → Dec (m ≡ k) → Ending link_map (prev_of link_map k) k
      by_test m n (yes e) = is_cyclic [] (stored (Some k) (n ∙ ap (λ (z : ℕ). Some z) e)) (λ h. h)
      by_test m n (no d) = onward slots (prev_of link_map k) k [] m (stored (Some m) n) (λ h. h) d (omega arith)

      by_next : (after : Option ℕ) → next_of link_map k ≡ after → Ending link_map (prev_of link_map k) k
      by_next None n = ends [] (stored None n)
      by_next (Some m) n = by_test m n (ℕ_discrete m k)

  backward : (left : ℕ) (before : Option ℕ) (x : ℕ) (xs : List ℕ) (k : ℕ) → AreLinked link_map before (x ∷ xs) None → IsMember (x ∷ xs) k → slots < left + length (x ∷ xs) → Beginning link_map k
  backward left None x xs k s h more = begins (x ∷ xs) s h
  backward zero (Some j) x xs k s h more =
      absurd (bounded (x ∷ xs) (last_no_repetition link_map (Some j) (x ∷ xs) s) (λ i m. AreLinked-valid link_map (Some j) (x ∷ xs) None i s m) (omega arith))
  backward (suc left) (Some j) x xs k s h more = backward left (prev_of link_map j) j (x ∷ xs) k (before, s) (inr h) (omega arith)
    where
      on : next_of link_map j ≡ Some x
      on = (agrees.both j x).1 (ap prev_in s.0)

      before : link_map j ≡ Some (link (prev_of link_map j) (Some x))
      before = reports_both link_map j (prev_of link_map j) (Some x) (next_valid link_map j x on) refl on

  pub has_chain : (k : ℕ) → HasLink link_map k → ChainOf link_map k
  has_chain k valid = by_ending (on_from k valid)
    where
      by_beginning : Beginning link_map k → ChainOf link_map k
      by_beginning (begins xs s h) = stored_in (linear xs) (IsMember-filled xs k h, last_no_repetition link_map None xs s, s) h

      ring : (after : List ℕ) → AreLinked link_map (prev_of link_map k) (k ∷ after) (Some k) → AreLinked link_map (last_or (k ∷ after) None) (k ∷ after) (Some k)
      ring after s = subst (λ (o : Option ℕ). AreLinked link_map o (k ∷ after) (Some k)) (names_last (prev_of link_map k) k after k s) s

      by_ending : Ending link_map (prev_of link_map k) k → ChainOf link_map k
      by_ending (ends after s) = by_beginning (backward slots (prev_of link_map k) k after k s (inl refl) (omega arith))
      by_ending (is_cyclic after s apart) =
          stored_in (cyclic (k ∷ after))
          (IsMember-filled (k ∷ after) k (inl refl), apart_no_repetition link_map (prev_of link_map k) k after (Some k) s apart, ring after s)
          (inl refl)

  data WrittenFrom (k : ℕ) : Type 0 where
    written_from : (c : Chain) → IsChain link_map c → IsMember (items c) k → StartsAtLeast c → WrittenFrom k

  from_least : (k : ℕ) → ChainOf link_map k → ((c : Chain) (y : ℕ) → IsChain link_map c → IsMember (items c) k → IsMember (items c) y → k ≤ y) → WrittenFrom k
  from_least k (stored_in (linear xs) h m) least = written_from (linear xs) h m tt
  from_least k (stored_in (cyclic xs) h m) least =
      let t = rotated_to link_map xs k h m in
      written_from (cyclic (k ∷ t.0)) t.1 (inl refl) (IsMember-at_most k t.0 (λ y n. least (cyclic (k ∷ t.0)) y t.1 (inl refl) (inr n)))

  record OtherChains (done : List Chain) : Type 0 where
    chains : List Chain
    each : (c : Chain) → HasChain chains c → IsChain link_map c
    written : (c : Chain) → HasChain chains c → StartsAtLeast c
    once : AreDistinct (all_items chains)
    apart : (i : ℕ) → IsMember (all_items chains) i → IsMember (all_items done) i → ⊥
    all : (i : ℕ) → HasLink link_map i → IsMember (all_items done) i ⊎ IsMember (all_items chains) i
    ascends : IsSortedByLeast chains

  with_chain : (k : ℕ) (done : List Chain) (c : Chain) → IsChain link_map c → IsMember (items c) k → StartsAtLeast c
      → ((i : ℕ) → HasLink link_map i → i < k → IsMember (all_items done) i) → ((y : ℕ) → IsMember (items c) y → IsMember (all_items done) y → ⊥)
      → OtherChains (c ∷ done) → OtherChains done
  with_chain k done c h m w below apart more = record {
    chains = c ∷ more.chains;
    each = chains_each;
    written = chains_written;
    once = AreDistinct-append (items c) (all_items more.chains) (chain_once link_map c h) more.once (λ y n o. more.apart y o (IsMember-left (items c) (all_items done) y n));
    apart = λ i n o. ⊎_elim (λ (p : IsMember (items c) i). apart i p o) (λ (p : IsMember (all_items more.chains) i). more.apart i p (IsMember-right (items c) (all_items done) i o)) (IsMember-parts (items c) (all_items more.chains) i n);
    all = λ i v. by_more i (more.all i v);
    ascends = ((k, m, above), more.ascends);
  }
    where
      chains_each : (d : Chain) → HasChain (c ∷ more.chains) d → IsChain link_map d
      chains_each d (inl e) = subst (IsChain link_map) e h
      chains_each d (inr n) = more.each d n

      chains_written : (d : Chain) → HasChain (c ∷ more.chains) d → StartsAtLeast d
      chains_written d (inl e) = subst StartsAtLeast e w
      chains_written d (inr n) = more.written d n

      by_part : (i : ℕ) → IsMember (items c) i ⊎ IsMember (all_items done) i → IsMember (all_items done) i ⊎ IsMember (items c ++ all_items more.chains) i
      by_part i (inl n) = inr (IsMember-left (items c) (all_items more.chains) i n)
      by_part i (inr n) = inl n

      by_more : (i : ℕ) → IsMember (items c ++ all_items done) i ⊎ IsMember (all_items more.chains) i → IsMember (all_items done) i ⊎ IsMember (items c ++ all_items more.chains) i
      by_more i (inl n) = by_part i (IsMember-parts (items c) (all_items done) i n)
      by_more i (inr n) = inr (IsMember-right (items c) (all_items more.chains) i n)

      above : (y : ℕ) → IsMember (all_items more.chains) y → k < y
      above y n =
          let late : (y < k) → ⊥ = λ (l : y < k). more.apart y n (IsMember-right (items c) (all_items done) y (below y (all_items_valid link_map more.chains y more.each n) l)) in
          let other : (k ≡ y) → ⊥ = λ (e : k ≡ y). more.apart y n (IsMember-left (items c) (all_items done) y (subst (IsMember (items c)) e m)) in
          omega arith

  others : (left k : ℕ) (done : List Chain) → k + left ≡ suc slots → ((c : Chain) → HasChain done c → IsChain link_map c)
      → ((i : ℕ) → HasLink link_map i → i < k → IsMember (all_items done) i) → OtherChains done
  others zero k done e each below = record {
    chains = [];
    each = λ c n. absurd n;
    written = λ c n. absurd n;
    once = tt;
    apart = λ i n o. n;
    all = λ i v. inl (below i v (let w = within.within i v in let high : i ≤ slots = w.1 in omega arith));
    ascends = tt;
  }
  others (suc left) k done e each below =
      by_valid (link_map k) refl (λ below_more. others left (suc k) done next each below_more)
      (λ c h below_more. others left (suc k) (c ∷ done) next (each_more c h) below_more)
    where
      next : suc k + left ≡ suc slots
      next = omega arith

      each_more : (c : Chain) → IsChain link_map c → (d : Chain) → HasChain (c ∷ done) d → IsChain link_map d
      each_more c h d (inl f) = subst (IsChain link_map) f h
      each_more c h d (inr n) = each d n

      split : (P : ℕ → Type 0) → ((i : ℕ) → HasLink link_map i → i < k → P i) → (HasLink link_map k → P k) → (i : ℕ) → HasLink link_map i → i < suc k → P i
      split P low here i v l = by_test (ℕ_discrete i k)
        where
          by_test : Dec (i ≡ k) → P i
          by_test (yes f) = subst P (sym f) (here (subst (HasLink link_map) f v))
          by_test (no d) = low i v (omega arith)

      done_apart : (IsMember (all_items done) k → ⊥) → (c : Chain) → IsChain link_map c → IsMember (items c) k → (y : ℕ) → IsMember (items c) y → IsMember (all_items done) y → ⊥
      done_apart new c h m y n o =
          let d = chain_at done y o in
          new (IsMember-all_items done d.0 k d.1 (chains_share link_map c d.0 y k h (each d.0 d.1) n d.2 m))

      by_written : (IsMember (all_items done) k → ⊥) → WrittenFrom k
          → ((c : Chain) → IsChain link_map c → ((i : ℕ) → HasLink link_map i → i < suc k → IsMember (all_items (c ∷ done)) i) → OtherChains (c ∷ done)) → OtherChains done
      by_written new (written_from c h m w) more =
          with_chain k done c h m w below (done_apart new c h m)
          (more c h (split (IsMember (items c ++ all_items done)) (λ i v l. IsMember-right (items c) (all_items done) i (below i v l)) (λ v. IsMember-left (items c) (all_items done) k m)))

      least : (IsMember (all_items done) k → ⊥) → (c : Chain) (y : ℕ) → IsChain link_map c → IsMember (items c) k → IsMember (items c) y → k ≤ y
      least new c y h m n =
          let early : (y < k) → ⊥ = λ (l : y < k). done_apart new c h m y n (below y (chain_valid link_map c y h n) l) in
          omega arith

      by_done : HasLink link_map k → IsMember (all_items done) k ⊎ (IsMember (all_items done) k → ⊥)
          → (((i : ℕ) → HasLink link_map i → i < suc k → IsMember (all_items done) i) → OtherChains done)
          → ((c : Chain) → IsChain link_map c → ((i : ℕ) → HasLink link_map i → i < suc k → IsMember (all_items (c ∷ done)) i) → OtherChains (c ∷ done)) → OtherChains done
      by_done v (inl h) same more = same (split (IsMember (all_items done)) below (λ w. h))
      by_done v (inr new) same more = by_written new (from_least k (has_chain k v) (least new)) more

      by_valid : (o : Option Interlinks) → link_map k ≡ o
          → (((i : ℕ) → HasLink link_map i → i < suc k → IsMember (all_items done) i) → OtherChains done)
          → ((c : Chain) → IsChain link_map c → ((i : ℕ) → HasLink link_map i → i < suc k → IsMember (all_items (c ∷ done)) i) → OtherChains (c ∷ done)) → OtherChains done
      by_valid None is same more = same (split (IsMember (all_items done)) below (λ (v : HasLink link_map k). let f = v.links in absurd (cc)))
      by_valid (Some l) is same more = by_done (reports_valid link_map k l is) (IsMember-or_not (all_items done) k) same more

  pub has_chains : (chains : List Chain) × AreChains link_map chains × IsInOrder chains
  has_chains =
      let all = others slots 1 [] (omega arith) (λ c n. absurd n) none_before in (
        all.chains,
        record { each = all.each; once = all.once; all = λ i v. ⊎_elim (λ (n : ⊥). absurd n) (λ (n : IsMember (all_items all.chains) i). n) (all.all i v) },
        record { written = all.written; ascends = all.ascends },
      )
    where
      none_before : (i : ℕ) → HasLink link_map i → i < 1 → ⊥
      none_before i v l = let w = within.within i v in let low : 1 ≤ i = w.0 in omega arith
