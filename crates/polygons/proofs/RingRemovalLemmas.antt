-- Removing the corners of a ring one by one.
use Rattle.std.proofs.Common.{◌≡◌, ℕ, ◌+◌, inl, ⊎_elim, List, [], ◌∷◌, ◌++◌, Option, None, Some, refl, sym, ap, ◌∙◌, subst, append_assoc, arith}
use Rattle.std.specs.Prelude.{length}
use Rattle.std.proofs.lemmas.Bool.{cases_eq}
use Rattle.std.proofs.lemmas.List.{append-nil, length-append}
use Rattle.arena_core.specs.PointerKinds.{PointerKind}
use Rattle.chain_laws.specs.Chains.{LinkMap, cyclic, IsMember}
use Rattle.chain_laws.proofs.ChainLemmas.MemberLaws.{chains_share_each}
use Rattle.chain_laws.proofs.InterlinkLemmas.Inverses.{one_some}
use Rattle.arena_traits.specs.Arena.{IsValid}
use Rattle.arena_traits.specs.Entries.{ArenaView, ArenaState, count, first_key, view_after_removal}
use Rattle.chain_lists.specs.Lists.{Item, indexes, IsRing, KeepsWithout, IsItemRemoved, RemovesItem}
use Rattle.chain_lists.proofs.ItemListLemmas.{among-left, among-right, among-parts}
use Rattle.polygons.specs.Rings.{AllInRings, IsRingOfCorner, ReadsNextInRing, RemovesRing, view_after_removals}

removed_last : {Gen T : Type 0} (following : Gen → Gen) (s : ArenaView Gen T) (xs : List (Item Gen T)) (e : Item Gen T) → view_after_removals following s (xs ++ e ∷ []) ≡ view_after_removal following (view_after_removals following s xs) e.0.0
removed_last following s [] e = refl
removed_last following s (x ∷ xs) e = removed_last following (view_after_removal following s x.0.0) xs e

module _ {A Gen T : Type 0} {view : A → ArenaView Gen T} {entry : A → ℕ → Option (Gen × T)} (state : (a : A) → ArenaState (view a) (entry a)) (interlinks : A → LinkMap) where
  -- What is left of a ring, from `at` on; if nothing, `at` is not valid.
  abbrev pub IsLeft : A → ℕ × Gen → List (Item Gen T) → Type 0
  IsLeft a at [] = IsValid (entry a) at → ⊥
  IsLeft a at (e ∷ es) = (e.0 ≡ at) × IsRing state interlinks a (e ∷ es)

  pub record IsPartlyRemoved (following : Gen → Gen) (old now : A) (p at : ℕ × Gen) : Type 0 where
    pub removed : List (Item Gen T)
    pub rest : List (Item Gen T)
    pub ring : IsRingOfCorner state interlinks old p (removed ++ rest)
    pub left : IsLeft now at rest
    pub view_after : view now ≡ view_after_removals following (view old) removed
    pub size : count (view old) ≡ count (view now) + length removed
    pub gone : (i : ℕ) → IsMember (indexes removed) i → entry now i ≡ None
    pub entries : (i : ℕ) → (IsMember (indexes removed) i → ⊥) → entry now i ≡ entry old i
    pub others : KeepsWithout state interlinks cyclic old now (p ∷ [])

  pub all_left : (following : Gen → Gen) (old : A) (p : ℕ × Gen) → AllInRings state interlinks old → IsValid (entry old) p → IsPartlyRemoved following old old p p
  all_left following old p all valid =
      let ring = all (p, valid.value) valid.stored in
      record {
        removed = [];
        rest = (p, valid.value) ∷ ring.others;
        ring = record { ring = ring.ring; first = refl };
        left = (refl, ring.ring);
        view_after = refl;
        size = omega arith;
        gone = λ i none. absurd none;
        entries = λ i other. refl;
        others = λ xs absent is. is;
      }

  first_among : (a : A) (p : ℕ × Gen) (items : List (Item Gen T)) → IsRingOfCorner state interlinks a p items → IsMember (indexes items) p.0
  first_among a p [] is = absurd (let none = is.first in cc)
  first_among a p (e ∷ es) is = inl (let same : e.0 ≡ p = let first = is.first in cc in ap (λ (k : ℕ × Gen). k.0) same)

  module _ {P I W : Type 0} (pointers : PointerKind P I Gen W) (old now new : A) (p : ℕ × Gen) (at : P) (part : IsPartlyRemoved pointers.following old now p (pointers.key at)) where
    module _ (t : T) (es : List (Item Gen T)) (rest_is : part.rest ≡ (pointers.key at, t) ∷ es) (ring : IsRing state interlinks now ((pointers.key at, t) ∷ es)) (gone : IsItemRemoved state interlinks cyclic now new pointers (pointers.key at, t)) where
      ring_is : IsRingOfCorner state interlinks old p (part.removed ++ (pointers.key at, t) ∷ es)
      ring_is = subst (λ (l : List (Item Gen T)). IsRingOfCorner state interlinks old p (part.removed ++ l)) rest_is part.ring

      left_after : (next : ℕ × Gen) (fs : List (Item Gen T)) → es ≡ fs → Some next ≡ first_key (fs ++ (pointers.key at, t) ∷ []) → IsLeft new next fs
      left_after next [] is first = λ valid.
          let same : next ≡ pointers.key at = one_some first in
          absurd (let some = subst (IsValid (entry new)) same valid in let none = sym some.stored ∙ gone.gone in cc)
      left_after next (f ∷ fs) is first = (sym (one_some first), gone.list [] (f ∷ fs) (subst (λ (l : List (Item Gen T)). IsRing state interlinks now ((pointers.key at, t) ∷ l)) is ring) (λ none. cc))

      removes_one : (next : ℕ × Gen) → Some next ≡ first_key (es ++ (pointers.key at, t) ∷ []) → IsPartlyRemoved pointers.following old new p next
      removes_one next first = record {
        removed = part.removed ++ (pointers.key at, t) ∷ [];
        rest = es;
        ring = subst (IsRingOfCorner state interlinks old p) (sym (append_assoc part.removed ((pointers.key at, t) ∷ []) es)) ring_is;
        left = left_after next es refl first;
        view_after = gone.removed.1 ∙ (ap (λ s. view_after_removal pointers.following s (pointers.key at).0) part.view_after ∙ sym (removed_last pointers.following (view old) part.removed (pointers.key at, t)));
        size = omega (arith, part.size, gone.size, length-append part.removed ((pointers.key at, t) ∷ []));
        gone = λ i has. ⊎_elim (λ is. ap (entry new) is ∙ gone.gone)
            (λ other. gone.entries i other ∙ ⊎_elim (λ before. part.gone i before) (λ last. ⊎_elim (λ is. absurd (other (sym is))) (λ none. absurd none) last) (among-parts part.removed ((pointers.key at, t) ∷ []) i has)) (cases_eq i (pointers.key at).0);
        entries = λ i apart. gone.entries i (λ is. apart (among-right part.removed ((pointers.key at, t) ∷ []) i (inl (sym is)))) ∙ part.entries i (λ before. apart (among-left part.removed ((pointers.key at, t) ∷ []) i before));
        others = λ xs absent is. gone.others xs (
          (λ has. absent.0 ((chains_share_each (interlinks old) (cyclic (indexes xs)) (cyclic (indexes (part.removed ++ (pointers.key at, t) ∷ es))) (pointers.key at).0 p.0 is.chain ring_is.ring.chain has
              (among-right part.removed ((pointers.key at, t) ∷ es) (pointers.key at).0 (inl refl))).1 (first_among old p _ ring_is))),
          tt,
        )
            (part.others xs absent is);
      }

    pub removal_goes_on : (next : P) (r : Option T) → ReadsNextInRing state interlinks pointers.key now at (Some next) → RemovesItem state interlinks cyclic pointers now at r new → IsPartlyRemoved pointers.following old new p (pointers.key next)
    removal_goes_on next r reads removes = by part.rest refl part.left r removes
      where
        by : (rest : List (Item Gen T)) → part.rest ≡ rest → IsLeft now (pointers.key at) rest → (r : Option T) → RemovesItem state interlinks cyclic pointers now at r new → IsPartlyRemoved pointers.following old new p (pointers.key next)
        by [] is left r removes = absurd (let none = reads.none left in cc)
        by (e ∷ es) is left None removes = absurd (removes.0 (subst (IsValid (entry now)) left.0 (record { value = e.1; stored = left.1.are_stored.0 })))
        by (e ∷ es) is left (Some t) removes =
            let there = sym (subst (λ (k : ℕ × Gen). entry now k.0 ≡ Some (k.1, e.1)) left.0 left.1.are_stored.0) ∙ removes.removed.0 in
            let value : e.1 ≡ t = ap (λ (x : Gen × T). x.1) (one_some there) in
            let same : e ≡ (pointers.key at, t) = ap (λ (k : ℕ × Gen). (k, e.1)) left.0 ∙ ap (λ (w : T). (pointers.key at, w)) value in
            let ring = subst (λ (d : Item Gen T). IsRing state interlinks now (d ∷ es)) same left.1 in
            removes_one t es (is ∙ ap (λ (d : Item Gen T). d ∷ es) same) ring removes (pointers.key next) (reads.next t es ring)

  pub all_removed : {P : Type 0} (key : P → ℕ × Gen) (following : Gen → Gen) (old now : A) (p : ℕ × Gen) (at : P) (n : ℕ) → IsPartlyRemoved following old now p (key at) → ReadsNextInRing state interlinks key now at None
      → n + count (view now) ≡ count (view old) → RemovesRing state interlinks following old p (Some n) now
  all_removed key following old now p at n part reads total = by part.rest part.ring part.left
    where
      by : (rest : List (Item Gen T)) → IsRingOfCorner state interlinks old p (part.removed ++ rest) → IsLeft now (key at) rest → RemovesRing state interlinks following old p (Some n) now
      by [] ring left = (
        part.removed,
        record { ring = subst (IsRingOfCorner state interlinks old p) (append-nil part.removed) ring; view_after = part.view_after; gone = part.gone; entries = part.entries; others = part.others },
        omega (arith, part.size, total),
      )
      by (e ∷ es) ring left = absurd (continues es (reads.next e.1 es (subst (λ (k : ℕ × Gen). IsRing state interlinks now ((k, e.1) ∷ es)) left.0 left.1)))
        where
          continues : (fs : List (Item Gen T)) → None ≡ first_key (fs ++ (key at, e.1) ∷ []) → ⊥
          continues [] none = cc
          continues (f ∷ fs) none = cc
