-- Moves of a range directly after another link.
use Rattle.std.proofs.Common.{◌≡◌, ◌≢◌, ℕ, inl, inr, ⊎_elim, List, [], ◌∷◌, ◌++◌, map, Option, Some, refl, sym, ap, ◌∙◌, subst, append_assoc}
use Rattle.std.specs.Prelude.{◌⊎◌, is_some, true}
use Rattle.std.proofs.lemmas.List.{map-append}
use Rattle.chain_laws.specs.Chains.{LinkMap, cyclic, IsChain, IsMember}
use Rattle.chain_laws.specs.Splices.{Splices, IsRun}
use Rattle.chain_laws.proofs.InterlinkLemmas.Inverses.{one_some}
use Rattle.arena_traits.specs.Arena.{IsValid}
use Rattle.arena_traits.specs.Entries.{ArenaView, ArenaState, index_of, first_key, last_key}
use Rattle.chain_lists.specs.Lists.{Item, AreEntries, indexes, IsRing}
use Rattle.chain_lists.proofs.ItemListLemmas.{are_stored-append, are_stored-left, are_stored-right, among-left, among-right, among-parts, last_apart, last_is, last_key-cons}
use Rattle.chain_lists.proofs.ListChangeLemmas.{parts, whole, stays}
use Rattle.linked_lists.specs.declared.entry.Entry.{Entry}
use Rattle.linked_lists.specs.declared.entry.Entry.TheVariants as entries
use Rattle.linked_lists.specs.LinkedLists.{as_item, ring_of, pointers_of, HasEnds, IsItem, IsList, IsNoneOf, EachInList, Becomes, KeepsOthers, KeepsEntries, IsRangeWithout, IsRangeMoved}
use Rattle.linked_lists.proofs.RingLemmas.{ring_rotated}
use Rattle.linked_lists.proofs.ListLemmas.{ring_parts, ring_has, ring_member, ring_more, same_handle, item_valid, each_kept, each_kept_two}
use Rattle.linked_lists.proofs.MoveLemmas.{in_one_part}
use Rattle.linked_lists.proofs.RunLemmas.{is_run, first_among, last_among, run_leaves, run_comes, run_elsewhere}

module _ {Gen T : Type 0} where
  first_of_entries : (es : List (Item Gen T)) (f : ℕ × Gen) → first_key es ≡ Some f → first_key (map as_item es) ≡ Some f
  first_of_entries [] f is = is
  first_of_entries (e ∷ es) f is = is

  pub last_of_entries : (es : List (Item Gen T)) (z : ℕ × Gen) → last_key es ≡ Some z → last_key (map as_item es) ≡ Some z
  last_of_entries [] z is = is
  last_of_entries (e ∷ es) z is =
      let end = last_apart e es in
      let last : end.1.0 ≡ z = one_some (sym (ap last_key end.2 ∙ last_is end.0 end.1) ∙ is) in
      ap (λ (l : List (Item Gen T)). last_key (map as_item l)) end.2 ∙ (ap last_key (map-append as_item end.0 (end.1 ∷ []))
      ∙ (last_is (map as_item end.0) (as_item end.1) ∙ ap (λ (k : ℕ × Gen). Some k) last))

  pub not_last : (es : List (Item Gen T)) (z q : ℕ × Gen) → last_key es ≡ Some z → IsNoneOf (pointers_of es) q → q ≢ z
  not_last [] z q is none same = absurd (let no = is in cc)
  not_last (e ∷ []) z q is none same = none.0 (same ∙ sym (one_some is))
  not_last (e ∷ f ∷ fs) z q is none same = not_last (f ∷ fs) z q (last_key-cons e f fs ∙ is) none.1 same

  pub last_stored : (entry : ℕ → Option (Gen × Entry T)) (es : List (Item Gen T)) (z : ℕ × Gen) → last_key es ≡ Some z → AreEntries entry (map as_item es) → IsValid entry z
  last_stored entry [] z is stored = absurd (let no = is in cc)
  last_stored entry (e ∷ es) z is stored =
      let end = last_apart e es in
      let last : end.1.0 ≡ z = one_some (sym (ap last_key end.2 ∙ last_is end.0 end.1) ∙ is) in
      let apart = ap (map as_item) end.2 ∙ map-append as_item end.0 (end.1 ∷ []) in
      let there = are_stored-right entry (map as_item end.0) (as_item end.1 ∷ []) (subst (AreEntries entry) apart stored) in
      subst (IsValid entry) last (item_valid entry end.1.0 end.1.1 there.0)

  pub first_stored : (entry : ℕ → Option (Gen × Entry T)) (es : List (Item Gen T)) (f : ℕ × Gen) → first_key es ≡ Some f → AreEntries entry (map as_item es) → IsItem entry f
  first_stored entry [] f is stored = absurd (let no = is in cc)
  first_stored entry (e ∷ es) f is stored = record { value = e.1; stored = subst (λ (k : ℕ × Gen). entry k.0 ≡ Some (k.1, entries.Item e.1)) (one_some is) stored.0 }

  pub ring_three : (h : ℕ × Gen) (before range after : List (Item Gen T)) → ring_of h (before ++ range ++ after) ≡ ring_of h before ++ map as_item range ++ map as_item after
  ring_three h before range after = ring_parts h (before ++ range) after ∙ ap (λ (l : List (Item Gen (Entry T))). l ++ map as_item after) (ring_parts h before range)

  not_empty : (xs : List (Item Gen (Entry T))) (e : Item Gen (Entry T)) (ys : List (Item Gen (Entry T))) → indexes (xs ++ e ∷ ys) ≢ []
  not_empty [] e ys none = cc
  not_empty (x ∷ xs) e ys none = cc

-- In the ring of a list, the range comes after `q`.
pub record RangeComesAfter {Gen T : Type 0} (q k : ℕ × Gen) (range others items : List (Item Gen T)) : Type 0 where
  pub value : Entry T
  pub before : List (Item Gen (Entry T))
  pub after : List (Item Gen (Entry T))
  pub was : ring_of k others ≡ before ++ (q, value) ∷ after
  pub is : ring_of k items ≡ before ++ (q, value) ∷ (map as_item range ++ after)

range_has_place : {Gen T : Type 0} (q k : ℕ × Gen) (range others items : List (Item Gen T)) → RangeComesAfter q k range others items → IsMember (indexes (ring_of k others)) q.0
range_has_place {Gen} {T} q k range others items at = subst (λ (l : List (Item Gen (Entry T))). IsMember (indexes l) q.0) (sym at.was) (among-right at.before ((q, at.value) ∷ at.after) q.0 (inl refl))

module _ {A Gen V : Type 0} {view : A → ArenaView Gen V} {entry : A → ℕ → Option (Gen × V)} (state : (a : A) → ArenaState (view a) (entry a)) (interlinks : A → LinkMap)
    (old new : A) (l f z : ℕ × Gen) (splices : Splices (interlinks old) (interlinks new) l.0 f.0 z.0) (same : entry new ≡ entry old) (run : List (Item Gen V)) (ends : IsRun (indexes run) f.0 z.0) (s : V) where
  run_around : (u v : List (Item Gen V)) → IsRing state interlinks old (run ++ (u ++ (l, s) ∷ v)) → IsRing state interlinks new (u ++ (l, s) ∷ (run ++ v))
  run_around u v is =
      let rest = are_stored-right (entry old) run (u ++ (l, s) ∷ v) is.are_stored in
      let right = are_stored-right (entry old) u ((l, s) ∷ v) rest in
      let listed = parts state interlinks cyclic old (run ++ u) ((l, s) ∷ v) (subst (λ (es : List (Item Gen V)). IsChain (interlinks old) (cyclic (indexes es))) (sym (append_assoc run u ((l, s) ∷ v))) is.chain) in
      let chain = splices.around (indexes run) (indexes u) (indexes v) ends (subst (λ (i : List ℕ). IsChain (interlinks old) (cyclic (i ++ l.0 ∷ indexes v))) (map-append index_of run u) listed) in
      stays state interlinks cyclic old new same (u ++ (l, s) ∷ (run ++ v))
      (are_stored-append (entry old) u ((l, s) ∷ (run ++ v)) (are_stored-left (entry old) u ((l, s) ∷ v) rest)
      (right.0, are_stored-append (entry old) run v (are_stored-left (entry old) run (u ++ (l, s) ∷ v) is.are_stored) right.1))
      (whole state interlinks cyclic new u ((l, s) ∷ (run ++ v)) (subst (λ (i : List ℕ). IsChain (interlinks new) (cyclic i)) (append_assoc (indexes u) (l.0 ∷ indexes run) (indexes v) ∙ ap (λ (i : List ℕ). indexes u ++ l.0 ∷ i) (sym (map-append index_of run v))) chain))

  pub run_within : (xs ys u w : List (Item Gen V)) → IsRing state interlinks old (xs ++ run ++ ys) → xs ++ ys ≡ u ++ (l, s) ∷ w → IsRing state interlinks new (u ++ (l, s) ∷ (run ++ w))
  run_within xs ys u w is split = ⊎_elim before after (in_one_part xs ys u w (l, s) split)
    where
      from_run : IsRing state interlinks old (run ++ (ys ++ xs))
      from_run = subst (IsRing state interlinks old) (append_assoc run ys xs) (ring_rotated state interlinks old xs (run ++ ys) (subst (IsRing state interlinks old) (append_assoc xs run ys) is))

      before : (m : List (Item Gen V)) × (xs ≡ u ++ (l, s) ∷ m) × (w ≡ m ++ ys) → IsRing state interlinks new (u ++ (l, s) ∷ (run ++ w))
      before (m, left, right) =
          let from = subst (λ (es : List (Item Gen V)). IsRing state interlinks old (run ++ es)) (ap (λ (es : List (Item Gen V)). ys ++ es) left ∙ sym (append_assoc ys u ((l, s) ∷ m))) from_run in
          let moved = subst (IsRing state interlinks new) (append_assoc ys u ((l, s) ∷ (run ++ m))) (run_around (ys ++ u) m from) in
          let back = ring_rotated state interlinks new ys (u ++ (l, s) ∷ (run ++ m)) moved in
          subst (IsRing state interlinks new) (append_assoc u ((l, s) ∷ (run ++ m)) ys ∙ ap (λ (es : List (Item Gen V)). u ++ (l, s) ∷ es) (append_assoc run m ys ∙ ap (λ (es : List (Item Gen V)). run ++ es) (sym right))) back

      after : (m : List (Item Gen V)) × (u ≡ xs ++ m) × (ys ≡ m ++ (l, s) ∷ w) → IsRing state interlinks new (u ++ (l, s) ∷ (run ++ w))
      after (m, left, right) =
          let from = subst (λ (es : List (Item Gen V)). IsRing state interlinks old (run ++ es)) (ap (λ (es : List (Item Gen V)). es ++ xs) right ∙ append_assoc m ((l, s) ∷ w) xs) from_run in
          let moved = subst (λ (es : List (Item Gen V)). IsRing state interlinks new (m ++ (l, s) ∷ es)) (sym (append_assoc run w xs)) (run_around m (w ++ xs) from) in
          let back = ring_rotated state interlinks new (m ++ (l, s) ∷ (run ++ w)) xs (subst (IsRing state interlinks new) (sym (append_assoc m ((l, s) ∷ (run ++ w)) xs)) moved) in
          subst (IsRing state interlinks new) (sym (append_assoc xs m ((l, s) ∷ (run ++ w))) ∙ ap (λ (es : List (Item Gen V)). es ++ (l, s) ∷ (run ++ w)) (sym left)) back

module _ {A Gen T : Type 0} {view : A → ArenaView Gen (Entry T)} {entry : A → ℕ → Option (Gen × Entry T)} (state : (a : A) → ArenaState (view a) (entry a)) (interlinks : A → LinkMap)
    (old new : A) (first last : ℕ × Gen) (place : ℕ × Gen → List (Item Gen T) → List (Item Gen T) → List (Item Gen T) → Type 0) where
  module _ (q : ℕ × Gen) (splices : Splices (interlinks old) (interlinks new) q.0 first.0 last.0) (kept : KeepsEntries state interlinks old new) where
    module _ (h : ℕ × Gen) (before range after : List (Item Gen T)) (ends : HasEnds range first last) (was : IsList state interlinks old h (before ++ range ++ after)) where
      run_ends : IsRun (indexes (map as_item range)) first.0 last.0
      run_ends = is_run (map as_item range) first last (first_of_entries range first ends.0) (last_of_entries range last ends.1)

      ring_was : IsRing state interlinks old (ring_of h before ++ map as_item range ++ map as_item after)
      ring_was = subst (IsRing state interlinks old) (ring_three h before range after) was

      turned : IsRing state interlinks old (map as_item range ++ (map as_item after ++ ring_of h before))
      turned = subst (IsRing state interlinks old) (append_assoc (map as_item range) (map as_item after) (ring_of h before))
          (ring_rotated state interlinks old (ring_of h before) (map as_item range ++ map as_item after) (subst (IsRing state interlinks old) (append_assoc (ring_of h before) (map as_item range) (map as_item after)) ring_was))

      in_range : (i : ℕ) → IsMember (indexes range) i → IsMember (indexes (ring_of h (before ++ range ++ after))) i
      in_range i has = ring_has h (before ++ range ++ after) i (inr (among-left (before ++ range) after i (among-right before range i has)))

      has_first : IsMember (indexes (ring_of h (before ++ range ++ after))) first.0
      has_first = in_range first.0 (first_among range first ends.0)

      has_last : IsMember (indexes (ring_of h (before ++ range ++ after))) last.0
      has_last = in_range last.0 (last_among range last ends.1)

      more_links : (i : ℕ) → IsMember (indexes (ring_of h (before ++ after))) i → IsMember (indexes (ring_of h (before ++ range ++ after))) i
      more_links i has = subst (λ (l : List (Item Gen T)). IsMember (indexes (ring_of h l)) i) (sym (append_assoc before range after)) (ring_more h before after (range ++ after) (λ j later. among-right range after j later) i has)

      not_in : (k : ℕ × Gen) (others : List (Item Gen T)) (i : ℕ) → h ≢ k → IsList state interlinks old k others → IsMember (indexes (ring_of h (before ++ range ++ after))) i → IsMember (indexes (ring_of k others)) i → ⊥
      not_in k others i other is in_h in_k = other (same_handle state interlinks old h k (before ++ range ++ after) others i was is in_h in_k)

      moved_in_list : (items : List (Item Gen T)) → RangeComesAfter q h range (before ++ after) items → Becomes state interlinks old new h items
      moved_in_list items at = record {
        list = subst (IsRing state interlinks new) (sym at.is) (run_within state interlinks old new q first last splices kept.0 (map as_item range) run_ends at.value (ring_of h before) (map as_item after) at.before at.after ring_was (sym (ring_parts h before after) ∙ at.was));
        others = λ k ys none other. run_elsewhere state interlinks old new q first last splices kept.0 (ring_of k ys)
            (λ has. not_in k ys q.0 (λ same. none.0 (sym same)) other (more_links q.0 (range_has_place q h range (before ++ after) items at)) has)
            (λ has. not_in k ys first.0 (λ same. none.0 (sym same)) other has_first has)
            (λ has. not_in k ys last.0 (λ same. none.0 (sym same)) other has_last has) other;
      }

      moved_between : (k : ℕ × Gen) (others items : List (Item Gen T)) → h ≢ k → IsList state interlinks old k others → RangeComesAfter q k range others items
          → IsList state interlinks new h (before ++ after) × IsList state interlinks new k items × KeepsOthers state interlinks old new (h ∷ k ∷ [])
      moved_between k others items other is at =
          let in_k = range_has_place q k range others items at in
          let run = map as_item range in
          let rest = map as_item after ++ ring_of h before in
          let apart : IsMember (indexes (run ++ rest)) q.0 → ⊥ = λ has. not_in k others q.0 other is (in_ring q.0 has) in_k in (
            subst (IsRing state interlinks new) (sym (ring_parts h before after)) (ring_rotated state interlinks new (map as_item after) (ring_of h before)
                (run_leaves state interlinks old new q first last splices kept.0 run rest run_ends turned apart (not_empty (map as_item after) (h, entries.Head) (map as_item before)))),
            subst (IsRing state interlinks new) (sym at.is) (run_comes state interlinks old new q first last splices kept.0 run rest run_ends turned apart at.value at.before at.after (subst (IsRing state interlinks old) at.was is)),
            λ j ys none there. run_elsewhere state interlinks old new q first last splices kept.0 (ring_of j ys)
                (λ has. none.1.0 (same_handle state interlinks old j k ys others q.0 there is has in_k))
                (λ has. not_in j ys first.0 (λ same. none.0 (sym same)) there has_first has)
                (λ has. not_in j ys last.0 (λ same. none.0 (sym same)) there has_last has) there,
          )
        where
          in_ring : (i : ℕ) → IsMember (indexes (map as_item range ++ (map as_item after ++ ring_of h before))) i → IsMember (indexes (ring_of h (before ++ range ++ after))) i
          in_ring i has = subst (λ (l : List (Item Gen (Entry T))). IsMember (indexes l) i) (sym (ring_three h before range after)) (⊎_elim
              (λ ranged. among-left (ring_of h before ++ map as_item range) (map as_item after) i (among-right (ring_of h before) (map as_item range) i ranged))
              (λ more. ⊎_elim
              (λ later. among-right (ring_of h before ++ map as_item range) (map as_item after) i later)
              (λ earlier. among-left (ring_of h before ++ map as_item range) (map as_item after) i (among-left (ring_of h before) (map as_item range) i earlier))
              (among-parts (map as_item after) (ring_of h before) i more))
              (among-parts (map as_item range) (map as_item after ++ ring_of h before) i has))

    pub range_moved : ((h : ℕ × Gen) (before range after items : List (Item Gen T)) → HasEnds range first last → IsList state interlinks old h (before ++ range ++ after) → place h range (before ++ after) items → RangeComesAfter q h range (before ++ after) items)
        → ((k : ℕ × Gen) (range others items : List (Item Gen T)) → IsList state interlinks old k others → place k range others items → RangeComesAfter q k range others items)
        → IsRangeMoved state interlinks old new first last place
    range_moved within between = record {
      within = λ h before range after items ends was at. moved_in_list h before range after ends was items (within h before range after items ends was at);
      between = λ h k before range after others items other ends was is at. moved_between h before range after ends was k others items other is (between k range others items is at);
      entries = kept;
    }

  -- Where a range goes: within its list, or to another one.
  abbrev pub RangeGoes : ℕ × Gen → (before range after : List (Item Gen T)) → Type 0
  RangeGoes h before range after = ((items : List (Item Gen T)) × place h range (before ++ after) items)
      ⊎ ((k : ℕ × Gen) × (others : List (Item Gen T)) × (items : List (Item Gen T)) × (h ≢ k) × IsList state interlinks old k others × place k range others items)

  abbrev pub KeepsLinks : Type 0
  KeepsLinks = (k : ℕ × Gen) (range others items : List (Item Gen T)) → place k range others items → (i : ℕ) → (IsMember (indexes range) i ⊎ IsMember (indexes (ring_of k others)) i) → IsMember (indexes (ring_of k items)) i

  pub each_range_moved : {q : ℕ × Gen} → EachInList state interlinks old → (at : IsRangeWithout state interlinks old first last q) → IsRangeMoved state interlinks old new first last place → KeepsLinks → RangeGoes at.handle at.before at.range at.after → EachInList state interlinks new
  each_range_moved {q} each at moved keeps goes = ⊎_elim within between goes
    where
      was_some : (i : ℕ) → is_some (entry new i) ≡ true → is_some (entry old i) ≡ true
      was_some i some = ap (λ (f : ℕ → Option (Gen × Entry T)). is_some (f i)) (sym moved.entries.0) ∙ some

      without_range : (i : ℕ) → IsMember (indexes (ring_of at.handle (at.before ++ at.range ++ at.after))) i → IsMember (indexes at.range) i ⊎ IsMember (indexes (ring_of at.handle (at.before ++ at.after))) i
      without_range i has = ⊎_elim
          (λ head. inr (ring_has at.handle (at.before ++ at.after) i (inl head)))
          (λ among. ⊎_elim
          (λ left. ⊎_elim (λ earlier. inr (ring_has at.handle (at.before ++ at.after) i (inr (among-left at.before at.after i earlier)))) (λ ranged. inl ranged) (among-parts at.before at.range i left))
          (λ later. inr (ring_has at.handle (at.before ++ at.after) i (inr (among-right at.before at.after i later))))
          (among-parts (at.before ++ at.range) at.after i among))
          (ring_member at.handle (at.before ++ at.range ++ at.after) i has)

      within : (items : List (Item Gen T)) × place at.handle at.range (at.before ++ at.after) items → EachInList state interlinks new
      within (items, is) = each_kept state interlinks old new each at.handle (at.before ++ at.range ++ at.after) items at.list (moved.within at.handle at.before at.range at.after items at.ends at.list is)
          (λ i some apart. (was_some i some, λ has. apart (keeps at.handle at.range (at.before ++ at.after) items is i (without_range i has))))

      between : (k : ℕ × Gen) × (others : List (Item Gen T)) × (items : List (Item Gen T)) × (at.handle ≢ k) × IsList state interlinks old k others × place k at.range others items → EachInList state interlinks new
      between (k, others, items, other, there, is) =
          let now = moved.between at.handle k at.before at.range at.after others items other at.ends at.list there is in
          each_kept_two state interlinks old new each at.handle k (at.before ++ at.range ++ at.after) others (at.before ++ at.after) items at.list there now.0 now.1 now.2
          (λ i some no_h no_k. (
            was_some i some,
            (λ has. ⊎_elim (λ ranged. no_k (keeps k at.range others items is i (inl ranged))) (λ among. no_h among) (without_range i has)),
            (λ has. no_k (keeps k at.range others items is i (inr has))),
          ))
