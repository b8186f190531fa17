-- The starts among the entries of an arena.
use Rattle.std.specs.Prelude.{◌≡◌, ℕ, zero, suc, ◌+◌, Bool, true, false, not, is_none, is_some, if◌then◌else◌, List, [], ◌∷◌, slice_index_or, Option, None, Some}
use Rattle.std.specs.Option.{option_map}
use Rattle.std.proofs.Common.{refl, sym, ap, ◌∙◌, subst, inl, inr, arith}
use Rattle.chain_laws.specs.Chains.{IsWellLinked, HasLink, IsChain, linear, prev_in, prev_of}
use Rattle.chain_laws.proofs.InterlinkLemmas.Inverses.{one_some}
use Rattle.chain_laws.proofs.ChainLemmas.Existence.{has_chain}
use Rattle.chain_laws.proofs.ChainLemmas.Determinacy.{start_chain}
use Rattle.arena_traits.specs.Arena.{Arena, entry_at, slot_at}
use Rattle.arena_traits.specs.Entries.{entries_from}
use Rattle.chain_links.specs.ChainArena.{LinkView, link_map, interlinks_of}
use Rattle.chain_links.proofs.ArenaInsertionLemmas.{slots-within}
use Rattle.chain_arena.specs.Starts.{HasPointer, starts_among, starts_of, AreStarts}

pub none_of : (o : Option ℕ) → is_none o ≡ true → o ≡ None
none_of None is = refl
none_of (Some x) is = absurd (let h = is in cc)

pub missing : {I : Type 0} (number : I → ℕ) (o : Option I) (q : Option ℕ) (b : Bool) → option_map number o ≡ q → is_some o ≡ not b → is_none q ≡ b
missing number None q true read is = ap is_none (sym read)
missing number None q false read is = absurd (let h = is in cc)
missing number (Some i) q true read is = absurd (let h = is in cc)
missing number (Some i) q false read is = ap is_none (sym read)

module _ {Gen T : Type 0} where
  -- The pointer's entry is k slots on, and its link has no previous link.
  pub record IsStartAt (i : ℕ) (slots : List (Option (Gen × LinkView T))) (p : ℕ × Gen) : Type 0 where
    pub k : ℕ
    pub index : p.0 ≡ i + k
    pub link : LinkView T
    pub stored : slice_index_or slots k None ≡ Some (p.1, link)
    pub first : link.prev ≡ None

  one_on : (i : ℕ) (o : Option (Gen × LinkView T)) (slots : List (Option (Gen × LinkView T))) (p : ℕ × Gen) → IsStartAt (suc i) slots p → IsStartAt i (o ∷ slots) p
  one_on i o slots p rest = record { k = suc rest.k; index = (let e = rest.index in omega (arith, e)); link = rest.link; stored = rest.stored; first = rest.first }

  is_start : (i : ℕ) (slots : List (Option (Gen × LinkView T))) (p : ℕ × Gen) → HasPointer (starts_among (entries_from i slots)) p → IsStartAt i slots p
  is_start i [] p h = elim h [ ]
  is_start i (None ∷ slots) p h = one_on i None slots p (is_start (suc i) slots p h)
  is_start i (Some e ∷ slots) p h = by (is_none e.1.prev) refl h (λ n. is_start (suc i) slots p n)
    where
      by : (b : Bool) → is_none e.1.prev ≡ b → HasPointer (if b then (i, e.0) ∷ starts_among (entries_from (suc i) slots) else starts_among (entries_from (suc i) slots)) p
          → (HasPointer (starts_among (entries_from (suc i) slots)) p → IsStartAt (suc i) slots p) → IsStartAt i (Some e ∷ slots) p
      by true is (inl same) later = record {
        k = 0;
        index = (let s = ap (λ (q : ℕ × Gen). q.0) same in omega (arith, s));
        link = e.1;
        stored = ap (λ (g : Gen). Some (g, e.1)) (ap (λ (q : ℕ × Gen). q.1) same);
        first = none_of e.1.prev is;
      }
      by true is (inr n) later = one_on i (Some e) slots p (later n)
      by false is n later = one_on i (Some e) slots p (later n)

  start_is : (i : ℕ) (slots : List (Option (Gen × LinkView T))) (p : ℕ × Gen) (k : ℕ) (link : LinkView T) → p.0 ≡ i + k → slice_index_or slots k None ≡ Some (p.1, link) → link.prev ≡ None
      → HasPointer (starts_among (entries_from i slots)) p
  start_is i [] p k link index stored first = absurd (let h = stored in cc)
  start_is i (None ∷ slots) p zero link index stored first = absurd (let h = stored in cc)
  start_is i (None ∷ slots) p (suc k) link index stored first = start_is (suc i) slots p k link (omega (arith, index)) stored first
  start_is i (Some e ∷ slots) p zero link index stored first =
      let own : e ≡ (p.1, link) = one_some stored in
      let none : e.1.prev ≡ None = ap (λ (f : Gen × LinkView T). f.1.prev) own ∙ first in
      let at : p.0 ≡ i = omega (arith, index) in
      let generation : e.0 ≡ p.1 = ap (λ (f : Gen × LinkView T). f.0) own in
      let same : (let q : ℕ × Gen = (i, e.0) in q) ≡ p = λ j. (sym at j, generation j) in
      subst (λ (o : Option ℕ). HasPointer (if is_none o then (i, e.0) ∷ starts_among (entries_from (suc i) slots) else starts_among (entries_from (suc i) slots)) p) (sym none) (inl same)
  start_is i (Some e ∷ slots) p (suc k) link index stored first = by (is_none e.1.prev) (start_is (suc i) slots p k link (omega (arith, index)) stored first)
    where
      by : (b : Bool) → HasPointer (starts_among (entries_from (suc i) slots)) p → HasPointer (if b then (i, e.0) ∷ starts_among (entries_from (suc i) slots) else starts_among (entries_from (suc i) slots)) p
      by true n = inr n
      by false n = n

  pub are_starts : (a : Arena Gen (LinkView T)) → IsWellLinked (link_map a) → AreStarts a (starts_of a)
  are_starts a agrees p = (there, back p.0 refl)
    where
      there : HasPointer (starts_of a) p → (link : LinkView T) × (entry_at a p.0 ≡ Some (p.1, link)) × (xs : List ℕ) × IsChain (link_map a) (linear (p.0 ∷ xs))
      there h =
          let at = is_start 1 a.slots p h in
          let index : p.0 ≡ suc at.k = (let e = at.index in omega (arith, e)) in
          let stored : entry_at a p.0 ≡ Some (p.1, at.link) = ap (slot_at a.slots) index ∙ at.stored in
          let valid : HasLink (link_map a) p.0 = record { link = interlinks_of (p.1, at.link); links = ap (option_map interlinks_of) stored } in
          let none : prev_of (link_map a) p.0 ≡ None = ap (λ (o : Option (Gen × LinkView T)). prev_in (option_map interlinks_of o)) stored ∙ at.first in
          let chain = start_chain (link_map a) p.0 (has_chain (link_map a) _ agrees (slots-within interlinks_of a.slots) p.0 valid) none in
          (at.link, stored, chain.0, chain.1)

      back : (n : ℕ) → p.0 ≡ n → (link : LinkView T) × (entry_at a p.0 ≡ Some (p.1, link)) × (xs : List ℕ) × IsChain (link_map a) (linear (p.0 ∷ xs)) → HasPointer (starts_of a) p
      back zero index h = absurd (let s = sym (ap (slot_at a.slots) index) ∙ h.1 in cc)
      back (suc k) index h =
          let none : h.0.prev ≡ None = sym (ap (λ (o : Option (Gen × LinkView T)). prev_in (option_map interlinks_of o)) h.1) ∙ ap prev_in h.3.2.0 in
          start_is 1 a.slots p k h.0 (omega (arith, index)) (sym (ap (slot_at a.slots) index) ∙ h.1) none
