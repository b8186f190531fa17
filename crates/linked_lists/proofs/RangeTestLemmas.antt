-- The ends of a range, by the walk from the first one.
use Rattle.std.proofs.Common.{◌≡◌, ◌≢◌, ℕ, inl, inr, ⊎_elim, List, [], ◌∷◌, ◌++◌, map, Option, None, Some, refl, sym, ap, ◌∙◌, subst, append_assoc}
use Rattle.std.specs.Prelude.{◌⊎◌, is_some}
use Rattle.std.proofs.lemmas.List.{map-append, append-nil}
use Rattle.chain_laws.specs.Chains.{LinkMap, IsMember, AreDistinct}
use Rattle.chain_laws.specs.Walks.{IsWalk, Walker, of_cyclic, step_of, passes_ahead}
use Rattle.chain_laws.proofs.WalkLemmas.Steps.{step_ahead}
use Rattle.chain_laws.proofs.WalkLemmas.Walker.{no_other_walk}
use Rattle.chain_laws.proofs.InterlinkLemmas.Inverses.{one_some}
use Rattle.arena_traits.specs.Arena.{IsValid}
use Rattle.arena_traits.specs.Entries.{ArenaView, ArenaState, first_key}
use Rattle.chain_lists.specs.Lists.{Item, AreEntries, indexes, IsRing}
use Rattle.chain_lists.proofs.ItemListLemmas.{are_stored-left, are_stored-right, same_pointer, among-left, apart, last_is}
use Rattle.linked_lists.specs.declared.entry.Entry.{Entry}
use Rattle.linked_lists.specs.LinkedLists.{as_item, ring_of, pointers_of, IsHandle, IsList, IsNoneOf, IsRangeWithout}
use Rattle.linked_lists.proofs.RingLemmas.{ring_rotated}
use Rattle.linked_lists.proofs.ListLemmas.{ring_parts, ring_has, head_valid, item_valid, head_or_item, one_list}
use Rattle.linked_lists.proofs.InsertionLemmas.{has_item}
use Rattle.linked_lists.proofs.MoveLemmas.{in_one_part}
use Rattle.linked_lists.proofs.RangeLemmas.{not_last}

module _ {Gen T : Type 0} where
  none_of-append : (xs : List (Item Gen T)) (e : Item Gen T) (k : ℕ × Gen) → IsNoneOf (pointers_of xs) k → k ≢ e.0 → IsNoneOf (pointers_of (xs ++ e ∷ [])) k
  none_of-append [] e k none other = (other, tt)
  none_of-append (x ∷ xs) e k none other = (none.0, none_of-append xs e k none.1 other)

  none_of-left : (xs ys : List (Item Gen T)) (k : ℕ × Gen) → IsNoneOf (pointers_of (xs ++ ys)) k → IsNoneOf (pointers_of xs) k
  none_of-left [] ys k none = tt
  none_of-left (x ∷ xs) ys k none = (none.0, none_of-left xs ys k none.1)

  none_of_there : (xs : List (Item Gen T)) (e : Item Gen T) (ys : List (Item Gen T)) (k : ℕ × Gen) → e.0 ≡ k → IsNoneOf (pointers_of (xs ++ e ∷ ys)) k → ⊥
  none_of_there [] e ys k same none = none.0 (sym same)
  none_of_there (x ∷ xs) e ys k same none = none_of_there xs e ys k same none.1

  first_of_append : (xs : List (Item Gen T)) (e : Item Gen T) (ys : List (Item Gen T)) → first_key (xs ++ e ∷ ys) ≡ first_key (xs ++ e ∷ [])
  first_of_append [] e ys = refl
  first_of_append (x ∷ xs) e ys = refl

  cut_at : (e : Item Gen T) (xs ys us vs : List (Item Gen T)) → (IsMember (indexes xs) e.0.0 → ⊥) → (IsMember (indexes us) e.0.0 → ⊥) → (f : Item Gen T) → f.0.0 ≡ e.0.0 → xs ++ e ∷ ys ≡ us ++ f ∷ vs → e ∷ ys ≡ f ∷ vs
  cut_at e [] ys [] vs no_left no_right f is same = same
  cut_at e [] ys (u ∷ us) vs no_left no_right f is same = absurd (no_right (inl (sym (ap (λ (x : Item Gen T). x.0.0) (let first : e ≡ u = cc in first)))))
  cut_at e (x ∷ xs) ys [] vs no_left no_right f is same = absurd (no_left (inl (ap (λ (y : Item Gen T). y.0.0) (let first : x ≡ f = cc in first) ∙ is)))
  cut_at e (x ∷ xs) ys (u ∷ us) vs no_left no_right f is same = let rest : xs ++ e ∷ ys ≡ us ++ f ∷ vs = cc in cut_at e xs ys us vs (λ has. no_left (inr has)) (λ has. no_right (inr has)) f is rest

-- The walk has passed items other than `last` and `q`, and the others are ahead.
pub record IsPartlyPassed {Gen T : Type 0} (links : LinkMap) (walker : Walker) (last q : ℕ × Gen) (h : ℕ × Gen) (before from : List (Item Gen T)) : Type 0 where
  pub passed : List (Item Gen T)
  pub rest : List (Item Gen T)
  pub split : from ≡ passed ++ rest
  pub ahead : passes_ahead links walker ≡ indexes (map as_item rest ++ ring_of h before)
  pub no_last : IsNoneOf (pointers_of passed) last
  pub no_q : IsNoneOf (pointers_of passed) q

module _ {A Gen T : Type 0} {view : A → ArenaView Gen (Entry T)} {entry : A → ℕ → Option (Gen × Entry T)} (state : (a : A) → ArenaState (view a) (entry a)) (interlinks : A → LinkMap) (a : A) (first last q : ℕ × Gen) where
  abbrev pub Passes : Walker → Type 0
  Passes walker = (h : ℕ × Gen) (t : T) (before after : List (Item Gen T)) → IsList state interlinks a h (before ++ (first, t) ∷ after) → IsPartlyPassed (interlinks a) walker last q h before ((first, t) ∷ after)

  from_first : (h : ℕ × Gen) (t : T) (before after : List (Item Gen T)) → IsList state interlinks a h (before ++ (first, t) ∷ after) → IsRing state interlinks a (map as_item ((first, t) ∷ after) ++ ring_of h before)
  from_first h t before after is = ring_rotated state interlinks a (ring_of h before) (map as_item ((first, t) ∷ after)) (subst (IsRing state interlinks a) (ring_parts h before ((first, t) ∷ after)) is)

  pub none_passed : (walker : Walker) → IsWalk (interlinks a) first.0 (passes_ahead (interlinks a) walker) → Passes walker
  none_passed walker walk h t before after is =
      let ring = from_first h t before after is in
      record {
        passed = [];
        rest = (first, t) ∷ after;
        split = refl;
        ahead = no_other_walk (interlinks a) first.0 (passes_ahead (interlinks a) walker) (indexes (map as_item ((first, t) ∷ after) ++ ring_of h before)) walk (of_cyclic (indexes (map as_item after ++ ring_of h before)) ring.chain);
        no_last = tt;
        no_q = tt;
      }

  pub never_ends : (walker : Walker) → ((k : ℕ) (rest : List ℕ) → passes_ahead (interlinks a) walker ≡ k ∷ rest → entry a k ≡ None) → (h : ℕ × Gen) (t : T) (before after : List (Item Gen T)) → IsList state interlinks a h (before ++ (first, t) ∷ after) → Passes walker → ⊥
  never_ends walker end h t before after is passes = by (passes h t before after is).rest (passes h t before after is).split (passes h t before after is).ahead
    where
      by : (rest : List (Item Gen T)) → (first, t) ∷ after ≡ (passes h t before after is).passed ++ rest → passes_ahead (interlinks a) walker ≡ indexes (map as_item rest ++ ring_of h before) → ⊥
      by [] split ahead = let none = ap is_some (end h.0 (indexes (map as_item before)) ahead) in let some = ap is_some is.are_stored.0 in let both = sym some ∙ none in cc
      by (e ∷ es) split ahead =
          let stored = are_stored-left (entry a) (map as_item ((first, t) ∷ after)) (ring_of h before) (from_first h t before after is).are_stored in
          let there = are_stored-right (entry a) (map as_item (passes h t before after is).passed) (map as_item (e ∷ es)) (subst (AreEntries (entry a)) (ap (map as_item) split ∙ map-append as_item (passes h t before after is).passed (e ∷ es)) stored) in
          let none = ap is_some (end e.0.0 (indexes (map as_item es ++ ring_of h before)) ahead) in let some = ap is_some there.0 in let both = sym some ∙ none in cc

  at_range : (h : ℕ × Gen) (t : T) (before after : List (Item Gen T)) → IsList state interlinks a h (before ++ (first, t) ∷ after) → (range : IsRangeWithout state interlinks a first last q) → (first, t) ∷ after ≡ range.range ++ range.after
  at_range h t before after is range = by range.range range.ends.0 range.list
    where
      once : (k : ℕ × Gen) (xs ys : List (Item Gen T)) (s : T) → IsList state interlinks a k (xs ++ (first, s) ∷ ys) → IsMember (indexes xs) first.0 → ⊥
      once k xs ys s there has =
          let distinct = subst (λ (l : List (Item Gen (Entry T))). AreDistinct (indexes l)) (ring_parts k xs ((first, s) ∷ ys)) there.chain.1 in
          (apart (ring_of k xs) (as_item (first, s)) (map as_item ys) distinct).0 (among-left (ring_of k xs) (map as_item ys) first.0 (ring_has k xs first.0 (inr has)))

      by : (es : List (Item Gen T)) → first_key es ≡ Some first → IsList state interlinks a range.handle (range.before ++ es ++ range.after) → (first, t) ∷ after ≡ es ++ range.after
      by [] is_first list = absurd (let none = is_first in cc)
      by (e ∷ es) is_first list =
          let is_e : e ≡ (first, e.1) = ap (λ (k : ℕ × Gen). (k, e.1)) (one_some is_first) in
          let flat = subst (IsList state interlinks a range.handle) (append_assoc range.before (e ∷ es) range.after) list in
          let there = subst (λ (d : Item Gen T). IsList state interlinks a range.handle (range.before ++ d ∷ (es ++ range.after))) is_e flat in
          let same = one_list state interlinks a h range.handle (before ++ (first, t) ∷ after) (range.before ++ (first, e.1) ∷ (es ++ range.after)) first.0 is there
          (has_item state interlinks a a first (first, t) h t before after) (has_item state interlinks a a first (first, e.1) range.handle e.1 range.before (es ++ range.after)) in
          cut_at (first, t) before after range.before (es ++ range.after) (once h before after t is) (once range.handle range.before (es ++ range.after) e.1 there) (first, e.1) refl same.1
          ∙ ap (λ (d : Item Gen T). d ∷ (es ++ range.after)) (sym is_e)

  module _ (old new : Walker) (p : ℕ × Gen) (valid : IsValid (entry a) p) (step : step_of (interlinks a) old ≡ Some (p.0, new)) where
    next_passed : (h : ℕ × Gen) (t : T) (before after : List (Item Gen T)) → IsList state interlinks a h (before ++ (first, t) ∷ after) → (part : IsPartlyPassed (interlinks a) old last q h before ((first, t) ∷ after))
        → ((p ≡ h) × (part.rest ≡ [])) ⊎ ((e : Item Gen T) × (es : List (Item Gen T)) × (part.rest ≡ e ∷ es) × (e.0 ≡ p) × (passes_ahead (interlinks a) new ≡ indexes (map as_item es ++ ring_of h before)))
    next_passed h t before after is part = by part.rest part.split (sym (step_ahead (interlinks a) old new p.0 step) ∙ part.ahead)
      where
        ring : IsRing state interlinks a (map as_item ((first, t) ∷ after) ++ ring_of h before)
        ring = from_first h t before after is

        by : (rest : List (Item Gen T)) → (first, t) ∷ after ≡ part.passed ++ rest → p.0 ∷ passes_ahead (interlinks a) new ≡ indexes (map as_item rest ++ ring_of h before)
            → ((p ≡ h) × (rest ≡ [])) ⊎ ((e : Item Gen T) × (es : List (Item Gen T)) × (rest ≡ e ∷ es) × (e.0 ≡ p) × (passes_ahead (interlinks a) new ≡ indexes (map as_item es ++ ring_of h before)))
        by [] split ahead = let index : p.0 ≡ h.0 = cc in inl (same_pointer (entry a) p h valid (head_valid (entry a) h is.are_stored.0) index, refl)
        by (e ∷ es) split ahead =
            let index : p.0 ≡ e.0.0 = cc in
            let later : passes_ahead (interlinks a) new ≡ indexes (map as_item es ++ ring_of h before) = cc in
            let stored = are_stored-left (entry a) (map as_item ((first, t) ∷ after)) (ring_of h before) ring.are_stored in
            let there = are_stored-right (entry a) (map as_item part.passed) (map as_item (e ∷ es)) (subst (AreEntries (entry a)) (ap (map as_item) split ∙ map-append as_item part.passed (e ∷ es)) stored) in
            inr (e, es, refl, same_pointer (entry a) e.0 p (item_valid (entry a) e.0 e.1 there.0) valid (sym index), later)

    head_is_no_item : (h : ℕ × Gen) (t : T) (before after : List (Item Gen T)) → IsList state interlinks a h (before ++ (first, t) ∷ after) → (IsHandle (entry a) p → ⊥) → p ≡ h → ⊥
    head_is_no_item h t before after is not_head same = not_head (subst (IsHandle (entry a)) (sym same) is.are_stored.0)

    pub one_more_passed : (IsHandle (entry a) p → ⊥) → p ≢ q → p ≢ last → Passes old → Passes new
    one_more_passed no_head not_q not_last_one passes h t before after is =
        let part = passes h t before after is in
        ⊎_elim
        (λ ends. absurd (head_is_no_item h t before after is no_head ends.0))
        (λ (e, es, rest, same, ahead). record {
          passed = part.passed ++ e ∷ [];
          rest = es;
          split = part.split ∙ (ap (λ (l : List (Item Gen T)). part.passed ++ l) rest ∙ sym (append_assoc part.passed (e ∷ []) es));
          ahead = ahead;
          no_last = none_of-append part.passed e last part.no_last (λ is_e. not_last_one (sym (is_e ∙ same)));
          no_q = none_of-append part.passed e q part.no_q (λ is_e. not_q (sym (is_e ∙ same)));
        })
        (next_passed h t before after is part)

    pub no_range_at_head : (h : ℕ × Gen) (t : T) (before after : List (Item Gen T)) → IsList state interlinks a h (before ++ (first, t) ∷ after) → Passes old → IsHandle (entry a) p → IsRangeWithout state interlinks a first last q → ⊥
    no_range_at_head h t before after is passes head range =
        let part = passes h t before after is in
        let whole = at_range h t before after is range in
        ⊎_elim
        (λ ends.
        let all : part.passed ≡ range.range ++ range.after = sym (append-nil part.passed) ∙ (ap (λ (l : List (Item Gen T)). part.passed ++ l) (sym ends.1) ∙ (sym part.split ∙ whole)) in
        not_last range.range last last range.ends.1 (none_of-left range.range range.after last (subst (λ (l : List (Item Gen T)). IsNoneOf (pointers_of l) last) all part.no_last)) refl)
        (λ (e, es, rest, same, ahead). item_is_no_head e es rest same)
        (next_passed h t before after is part)
      where
        item_is_no_head : (e : Item Gen T) (es : List (Item Gen T)) → (passes h t before after is).rest ≡ e ∷ es → e.0 ≡ p → ⊥
        item_is_no_head e es rest same =
            let part = passes h t before after is in
            let stored = are_stored-left (entry a) (map as_item ((first, t) ∷ after)) (ring_of h before) (from_first h t before after is).are_stored in
            let apart = ap (map as_item) (part.split ∙ ap (λ (l : List (Item Gen T)). part.passed ++ l) rest) ∙ map-append as_item part.passed (e ∷ es) in
            let there = are_stored-right (entry a) (map as_item part.passed) (map as_item (e ∷ es)) (subst (AreEntries (entry a)) apart stored) in
            head_or_item (entry a) p e.0 e.1 head there.0 (sym (ap (λ (k : ℕ × Gen). k.0) same))

    pub no_range_at_q : (h : ℕ × Gen) (t : T) (before after : List (Item Gen T)) → IsList state interlinks a h (before ++ (first, t) ∷ after) → Passes old → (IsHandle (entry a) p → ⊥) → p ≡ q → IsRangeWithout state interlinks a first last q → ⊥
    no_range_at_q h t before after is passes no_head is_q range =
        let part = passes h t before after is in
        ⊎_elim
        (λ ends. head_is_no_item h t before after is no_head ends.0)
        (λ (e, es, rest, same, ahead).
        let whole : range.range ++ range.after ≡ part.passed ++ e ∷ es = sym (at_range h t before after is range) ∙ (part.split ∙ ap (λ (l : List (Item Gen T)). part.passed ++ l) rest) in
        ⊎_elim
        (λ left. none_of_there part.passed e left.0 q (same ∙ is_q) (subst (λ (l : List (Item Gen T)). IsNoneOf (pointers_of l) q) left.1 range.apart))
        (λ right. not_last range.range last last range.ends.1 (none_of-left range.range right.0 last (subst (λ (l : List (Item Gen T)). IsNoneOf (pointers_of l) last) right.1 part.no_last)) refl)
        (in_one_part range.range range.after part.passed es e whole))
        (next_passed h t before after is part)

    pub range_at_last : (h : ℕ × Gen) (t : T) (before after : List (Item Gen T)) → IsList state interlinks a h (before ++ (first, t) ∷ after) → Passes old → (IsHandle (entry a) p → ⊥) → p ≢ q → p ≡ last → IsRangeWithout state interlinks a first last q
    range_at_last h t before after is passes no_head not_q is_last =
        let part = passes h t before after is in
        ⊎_elim
        (λ ends. absurd (head_is_no_item h t before after is no_head ends.0))
        (λ (e, es, rest, same, ahead).
        let whole : (first, t) ∷ after ≡ part.passed ++ e ∷ es = part.split ∙ ap (λ (l : List (Item Gen T)). part.passed ++ l) rest in
        let listed : before ++ (first, t) ∷ after ≡ before ++ (part.passed ++ e ∷ []) ++ es = ap (λ (l : List (Item Gen T)). before ++ l) (whole ∙ sym (append_assoc part.passed (e ∷ []) es)) ∙ sym (append_assoc before (part.passed ++ e ∷ []) es) in
        record {
          handle = h;
          before = before;
          range = part.passed ++ e ∷ [];
          after = es;
          list = subst (IsList state interlinks a h) listed is;
          ends = (sym (first_of_append part.passed e es) ∙ sym (ap first_key whole), last_is part.passed e ∙ ap (λ (k : ℕ × Gen). Some k) (same ∙ is_last));
          apart = none_of-append part.passed e q part.no_q (λ is_e. not_q (sym (is_e ∙ same)));
        })
        (next_passed h t before after is part)
