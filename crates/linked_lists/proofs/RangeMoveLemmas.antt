-- Calls that move a range; each entry stays in a list.
use Rattle.std.proofs.Common.{◌≡◌, ◌≢◌, ℕ, inl, inr, ⊎_elim, List, [], ◌∷◌, ◌++◌, map, Option, None, Some, refl, sym, ap, ◌∙◌, subst, append_assoc}
use Rattle.std.specs.Prelude.{◌⊎◌, IfNone}
use Rattle.std.proofs.lemmas.List.{map-append, append-nil}
use Rattle.chain_laws.specs.Chains.{LinkMap, IsMember, AreDistinct}
use Rattle.chain_laws.specs.Splices.{Splices}
use Rattle.chain_laws.proofs.ListLemmas.Members.{AreDistinct-apart}
use Rattle.chain_laws.proofs.InterlinkLemmas.Inverses.{one_some}
use Rattle.arena_traits.specs.Arena.{IsValid}
use Rattle.arena_traits.specs.Entries.{ArenaView, ArenaState, index_of, last_key}
use Rattle.chain_links.specs.CallEffects.{SplicesAfter}
use Rattle.chain_links.specs.ChainArena.{CanSplice}
use Rattle.chain_lists.specs.Lists.{Item, AreEntries, indexes}
use Rattle.chain_lists.proofs.ItemListLemmas.{are_stored-left, are_stored-right, same_pointer, among-left, among-right, among-parts, last_apart, last_is}
use Rattle.linked_lists.specs.declared.entry.Entry.{Entry}
use Rattle.linked_lists.specs.declared.entry.Entry.TheVariants as entries
use Rattle.linked_lists.specs.LinkedLists.{as_item, ring_of, pointers_of, IsHandle, IsItem, IsList, IsNoneOf, EachInList, IsRangeWithout, RangeAtStart, RangeAtEnd, RangeAfter, MovesRangeToFront, MovesRangeToBack, MovesRangeAfter}
use Rattle.linked_lists.proofs.ListLemmas.{indexes-items, ring_parts, ring_has, ring_member, same_handle, same_list, list_of, place_of, item_valid, head_valid}
use Rattle.linked_lists.proofs.MoveLemmas.{in_one_part, handle_or_other, entries_kept, ring_last}
use Rattle.linked_lists.proofs.RunLemmas.{last_among}
use Rattle.linked_lists.proofs.RangeLemmas.{RangeComesAfter, ring_three, not_last, last_stored, first_stored, range_moved, each_range_moved}

module _ {Gen T : Type 0} where
  start_place : (h k : ℕ × Gen) (range others items : List (Item Gen T)) → RangeAtStart h k range others items → RangeComesAfter h k range others items
  start_place h k range others items (same, is) = record {
    value = entries.Head;
    before = [];
    after = map as_item others;
    was = ap (λ (j : ℕ × Gen). (j, entries.Head) ∷ map as_item others) same;
    is = ap (ring_of k) is ∙ (ap (λ (l : List (Item Gen (Entry T))). (k, entries.Head) ∷ l) (map-append as_item range others) ∙ ap (λ (j : ℕ × Gen). (j, entries.Head) ∷ (map as_item range ++ map as_item others)) same);
  }

  end_place : (l k : ℕ × Gen) (range others items : List (Item Gen T)) → Some l ≡ last_key (ring_of k others) → items ≡ others ++ range → RangeComesAfter l k range others items
  end_place l k range others items last is =
      let apart = last_apart (k, entries.Head) (map as_item others) in
      let same : apart.1.0 ≡ l = one_some (sym (ap last_key apart.2 ∙ last_is apart.0 apart.1) ∙ sym last) in
      let was : ring_of k others ≡ apart.0 ++ (l, apart.1.1) ∷ [] = apart.2 ∙ ap (λ (j : ℕ × Gen). apart.0 ++ (j, apart.1.1) ∷ []) same in
      record {
        value = apart.1.1;
        before = apart.0;
        after = [];
        was = was;
        is = ap (ring_of k) is ∙ (ring_parts k others range ∙ (ap (λ (x : List (Item Gen (Entry T))). x ++ map as_item range) was ∙ (append_assoc apart.0 ((l, apart.1.1) ∷ []) (map as_item range)
            ∙ ap (λ (x : List (Item Gen (Entry T))). apart.0 ++ (l, apart.1.1) ∷ x) (sym (append-nil (map as_item range))))));
      }

  after_place : (q k : ℕ × Gen) (range others items : List (Item Gen T)) → RangeAfter q k range others items → RangeComesAfter q k range others items
  after_place q k range others items (s, x, y, was, is) = record {
    value = entries.Item s;
    before = ring_of k x;
    after = map as_item y;
    was = ap (ring_of k) was ∙ ring_parts k x ((q, s) ∷ y);
    is = ap (ring_of k) is ∙ (ring_three k x ((q, s) ∷ range) y ∙ append_assoc (ring_of k x) ((q, entries.Item s) ∷ map as_item range) (map as_item y));
  }

  keeps_after : (q k : ℕ × Gen) (range others items : List (Item Gen T)) → RangeComesAfter q k range others items → (i : ℕ) → (IsMember (indexes range) i ⊎ IsMember (indexes (ring_of k others)) i) → IsMember (indexes (ring_of k items)) i
  keeps_after q k range others items at i has = subst (λ (l : List (Item Gen (Entry T))). IsMember (indexes l) i) (sym at.is) (⊎_elim
      (λ ranged. among-right at.before ((q, at.value) ∷ (map as_item range ++ at.after)) i (inr (among-left (map as_item range) at.after i (subst (λ (l : List ℕ). IsMember l i) (sym (indexes-items range)) ranged))))
      (λ other. ⊎_elim
      (λ left. among-left at.before ((q, at.value) ∷ (map as_item range ++ at.after)) i left)
      (λ right. among-right at.before ((q, at.value) ∷ (map as_item range ++ at.after)) i (⊎_elim (λ is. inl is) (λ later. inr (among-right (map as_item range) at.after i later)) right))
      (among-parts at.before ((q, at.value) ∷ at.after) i (subst (λ (l : List (Item Gen (Entry T))). IsMember (indexes l) i) at.was other)))
      has)

  keeps_end : (h k : ℕ × Gen) (range others items : List (Item Gen T)) → RangeAtEnd h k range others items → (i : ℕ) → (IsMember (indexes range) i ⊎ IsMember (indexes (ring_of k others)) i) → IsMember (indexes (ring_of k items)) i
  keeps_end h k range others items (same, is) i has = subst (λ (l : List (Item Gen T)). IsMember (indexes (ring_of k l)) i) (sym is) (⊎_elim
      (λ ranged. ring_has k (others ++ range) i (inr (among-right others range i ranged)))
      (λ old. ⊎_elim (λ head. ring_has k (others ++ range) i (inl head)) (λ among. ring_has k (others ++ range) i (inr (among-left others range i among))) (ring_member k others i old))
      has)

  none_of_parts : (xs ys : List (Item Gen T)) (q : ℕ × Gen) (s : T) → IsNoneOf (pointers_of (xs ++ (q, s) ∷ ys)) q → ⊥
  none_of_parts [] ys q s none = none.0 refl
  none_of_parts (x ∷ xs) ys q s none = none_of_parts xs ys q s none.1

  outside : (before range after x y : List (Item Gen T)) (q : ℕ × Gen) (s : T) → IsNoneOf (pointers_of range) q → before ++ range ++ after ≡ x ++ (q, s) ∷ y
      → (u : List (Item Gen T)) × (v : List (Item Gen T)) × (before ++ after ≡ u ++ (q, s) ∷ v)
  outside before range after x y q s none same = ⊎_elim
      (λ left. ⊎_elim
      (λ earlier. (x, earlier.0 ++ after, ap (λ (l : List (Item Gen T)). l ++ after) earlier.1 ∙ append_assoc x ((q, s) ∷ earlier.0) after))
      (λ ranged. absurd (none_of_parts ranged.0 left.0 q s (subst (λ (l : List (Item Gen T)). IsNoneOf (pointers_of l) q) ranged.2 none)))
      (in_one_part before range x left.0 (q, s) left.1))
      (λ right. (before ++ right.0, y, ap (λ (l : List (Item Gen T)). before ++ l) right.2 ∙ sym (append_assoc before right.0 ((q, s) ∷ y))))
      (in_one_part (before ++ range) after x y (q, s) same)

module _ {A Gen T : Type 0} {view : A → ArenaView Gen (Entry T)} {entry : A → ℕ → Option (Gen × Entry T)} (state : (a : A) → ArenaState (view a) (entry a)) (interlinks : A → LinkMap) where
  pub range_starts : (a : A) (first last q : ℕ × Gen) → IsRangeWithout state interlinks a first last q → IsItem (entry a) first
  range_starts a first last q at = first_stored (entry a) at.range first at.ends.0 (range_stored at.before at.after (subst (AreEntries (entry a)) (ring_three at.handle at.before at.range at.after) at.list.are_stored))
    where
      range_stored : (before after : List (Item Gen T)) → AreEntries (entry a) (ring_of at.handle before ++ map as_item at.range ++ map as_item after) → AreEntries (entry a) (map as_item at.range)
      range_stored before after stored = are_stored-right (entry a) (ring_of at.handle before) (map as_item at.range) (are_stored-left (entry a) (ring_of at.handle before ++ map as_item at.range) (map as_item after) stored)

  range_ends : (a : A) (first last q : ℕ × Gen) → IsRangeWithout state interlinks a first last q → IsValid (entry a) last
  range_ends a first last q at = last_stored (entry a) at.range last at.ends.1 (are_stored-right (entry a) (ring_of at.handle at.before) (map as_item at.range)
      (are_stored-left (entry a) (ring_of at.handle at.before ++ map as_item at.range) (map as_item at.after) (subst (AreEntries (entry a)) (ring_three at.handle at.before at.range at.after) at.list.are_stored)))

  module _ (old new : A) (first last : ℕ × Gen) where
    can_splice : (q l : ℕ × Gen) → IsRangeWithout state interlinks old first last q → IsValid (entry old) l → l ≢ last → CanSplice (entry old) l first last
    can_splice q l at valid other =
        let item = range_starts old first last q at in
        let end = range_ends old first last q at in
        record { p_valid = valid; first_valid = item_valid (entry old) first item.value item.stored; last_valid = end; apart = λ same. other (same_pointer (entry old) l last valid end same) }

    pub moves_range_to_front : {P : Type 0} (key : P → ℕ × Gen) (f z h : P) → key f ≡ first → key z ≡ last → IsRangeWithout state interlinks old first last (key h) → IsHandle (entry old) (key h)
        → (r : Option Unit) → SplicesAfter state interlinks key old h f z r new → IfNone r (new ≡ old) → MovesRangeToFront state interlinks old first last (key h) r new
    moves_range_to_front key f z h is_f is_z at head None is same =
        absurd (is (subst (λ (k : ℕ × Gen). CanSplice (entry old) (key h) k (key z)) (sym is_f) (subst (CanSplice (entry old) (key h) first) (sym is_z) (can_splice (key h) (key h) at (head_valid (entry old) (key h) head) (not_last at.range last (key h) at.ends.1 at.apart)))))
    moves_range_to_front key f z h is_f is_z at head (Some done) is same = (
      head,
      range_moved state interlinks old new first last (RangeAtStart (key h)) (key h) (subst (λ (k : ℕ × Gen). Splices (interlinks old) (interlinks new) (key h).0 k.0 last.0) is_f (subst (λ (k : ℕ × Gen). Splices (interlinks old) (interlinks new) (key h).0 (key f).0 k.0) is_z is.1.chains)) (entries_kept state interlinks old new first is.1.view_after)
          (λ k before range after items ends was place. start_place (key h) k range (before ++ after) items place) (λ k range others items was place. start_place (key h) k range others items place),
    )

    pub each_range_to_front : (h q : ℕ × Gen) → EachInList state interlinks old → IsRangeWithout state interlinks old first last q → (r : Option Unit) → MovesRangeToFront state interlinks old first last h r new → EachInList state interlinks new
    each_range_to_front h q each at None is = subst (EachInList state interlinks) (sym is.1) each
    each_range_to_front h q each at (Some done) (head, moved) = each_range_moved state interlinks old new first last (RangeAtStart h) each at moved
        (λ k range others items place i has. keeps_after h k range others items (start_place h k range others items place) i has)
        (⊎_elim
        (λ same. inl (at.range ++ (at.before ++ at.after), (same, refl)))
        (λ other. let list = list_of state interlinks old each h head in inr (h, list.0, at.range ++ list.0, other, list.1, (refl, refl)))
        (handle_or_other (entry old) at.handle h at.list.are_stored.0 head))

    module _ (h q : ℕ × Gen) (at : IsRangeWithout state interlinks old first last q) (head : IsHandle (entry old) h) where
      pub moves_range_to_back : {P : Type 0} (key : P → ℕ × Gen) (f z l : P) → key f ≡ first → key z ≡ last → key l ≢ last → ((items : List (Item Gen T)) → IsList state interlinks old h items → Some (key l) ≡ last_key (ring_of h items)) → IsValid (entry old) (key l)
          → (r : Option Unit) → SplicesAfter state interlinks key old l f z r new → IfNone r (new ≡ old) → MovesRangeToBack state interlinks old first last h r new
      moves_range_to_back key f z l is_f is_z other ends valid None is same =
          absurd (is (subst (λ (k : ℕ × Gen). CanSplice (entry old) (key l) k (key z)) (sym is_f) (subst (CanSplice (entry old) (key l) first) (sym is_z) (can_splice q (key l) at valid other))))
      moves_range_to_back key f z l is_f is_z other ends valid (Some done) is same = (
        head,
        range_moved state interlinks old new first last (RangeAtEnd h) (key l) (subst (λ (k : ℕ × Gen). Splices (interlinks old) (interlinks new) (key l).0 k.0 last.0) is_f (subst (λ (k : ℕ × Gen). Splices (interlinks old) (interlinks new) (key l).0 (key f).0 k.0) is_z is.1.chains)) (entries_kept state interlinks old new first is.1.view_after)
            (λ k before range after items span was place. end_place (key l) k range (before ++ after) items (last_without k before range after span.1 (last_of k (before ++ range ++ after) place.0 was)) place.1)
            (λ k range others items was place. end_place (key l) k range others items (last_of k others place.0 was) place.1),
      )
        where
          last_of : (k : ℕ × Gen) (items : List (Item Gen T)) → k ≡ h → IsList state interlinks old k items → Some (key l) ≡ last_key (ring_of k items)
          last_of k items same is =
              subst (λ (j : ℕ × Gen). Some (key l) ≡ last_key (ring_of j items)) (sym same) (ends items (subst (λ (j : ℕ × Gen). IsList state interlinks old j items) same is))

          last_without : (k : ℕ × Gen) (before range after : List (Item Gen T)) → last_key range ≡ Some last → Some (key l) ≡ last_key (ring_of k (before ++ range ++ after)) → Some (key l) ≡ last_key (ring_of k (before ++ after))
          last_without k before [] [] ends_range is = absurd (let none = ends_range in cc)
          last_without k before (e ∷ es) [] ends_range is =
              let end = last_apart e es in
              let same : end.1.0 ≡ last = one_some (sym (ap last_key end.2 ∙ last_is end.0 end.1) ∙ ends_range) in
              absurd (other (one_some (is ∙ (ap (λ (r : List (Item Gen T)). last_key (ring_of k r)) (append-nil (before ++ e ∷ es)) ∙ (ap (λ (r : List (Item Gen T)). last_key (ring_of k (before ++ r))) end.2 ∙ ring_last k before end.0 end.1))) ∙ same))
          last_without k before range (x ∷ xs) ends_range is =
              let end = last_apart x xs in
              is ∙ (ap (λ (r : List (Item Gen T)). last_key (ring_of k (before ++ range ++ r))) end.2 ∙ (ring_last k (before ++ range) end.0 end.1 ∙ sym (ap (λ (r : List (Item Gen T)). last_key (ring_of k (before ++ r))) end.2 ∙ ring_last k before end.0 end.1)))

      pub range_at_end : new ≡ old → ((items : List (Item Gen T)) → IsList state interlinks old h items → Some last ≡ last_key (ring_of h items)) → MovesRangeToBack state interlinks old first last h (Some tt) new
      range_at_end same ends = subst (MovesRangeToBack state interlinks old first last h (Some tt)) (sym same) (
        head,
        record {
          within = λ k before range after items span was place.
              let here = subst (λ (j : ℕ × Gen). IsList state interlinks old j (before ++ range ++ after)) place.0 was in
              let none = none_after before range after span.1 here (ends (before ++ range ++ after) here) in
              let all : items ≡ before ++ range ++ after = place.1 ∙ (ap (λ (r : List (Item Gen T)). (before ++ r) ++ range) none ∙ (ap (λ (r : List (Item Gen T)). r ++ range) (append-nil before) ∙ (sym (append-nil (before ++ range)) ∙ ap (λ (r : List (Item Gen T)). before ++ range ++ r) (sym none)))) in
              record { list = subst (IsList state interlinks old k) (sym all) was; others = λ j ys no there. there };
          between = λ j k before range after others items other span was is place.
              let there = subst (λ (i : ℕ × Gen). IsList state interlinks old i others) place.0 is in
              absurd (other (same_handle state interlinks old j h (before ++ range ++ after) others last.0 was there
              (ring_has j (before ++ range ++ after) last.0 (inr (among-left (before ++ range) after last.0 (among-right before range last.0 (last_among range last span.1)))))
              (last_among (ring_of h others) last (sym (ends others there))) ∙ sym place.0));
          entries = (refl, refl);
        },
      )
        where
          none_after : (before range after : List (Item Gen T)) → last_key range ≡ Some last → IsList state interlinks old h (before ++ range ++ after) → Some last ≡ last_key (ring_of h (before ++ range ++ after)) → after ≡ []
          none_after before range [] ends_range is end = refl
          none_after before range (x ∷ xs) ends_range is end =
              let z = last_apart x xs in
              let same : last ≡ z.1.0 = one_some (end ∙ (ap (λ (r : List (Item Gen T)). last_key (ring_of h (before ++ range ++ r))) z.2 ∙ ring_last h (before ++ range) z.0 z.1)) in
              let later : IsMember (indexes (x ∷ xs)) last.0 = subst (λ (r : List (Item Gen T)). IsMember (indexes r) last.0) (sym z.2) (among-right z.0 (z.1 ∷ []) last.0 (inl (sym (ap (λ (k : ℕ × Gen). k.0) same)))) in
              let distinct = subst (λ (l : List (Item Gen (Entry T))). AreDistinct (indexes l)) (ring_parts h (before ++ range) (x ∷ xs)) is.chain.1 in
              absurd (AreDistinct-apart (indexes (ring_of h (before ++ range))) (indexes (map as_item (x ∷ xs))) last.0 (subst AreDistinct (map-append index_of (ring_of h (before ++ range)) (map as_item (x ∷ xs))) distinct)
              (ring_has h (before ++ range) last.0 (inr (among-right before range last.0 (last_among range last ends_range)))) (subst (λ (l : List ℕ). IsMember l last.0) (sym (indexes-items (x ∷ xs))) later))

    pub each_range_to_back : (h q : ℕ × Gen) → EachInList state interlinks old → IsRangeWithout state interlinks old first last q → (r : Option Unit) → MovesRangeToBack state interlinks old first last h r new → EachInList state interlinks new
    each_range_to_back h q each at None is = subst (EachInList state interlinks) (sym is.1) each
    each_range_to_back h q each at (Some done) (head, moved) = each_range_moved state interlinks old new first last (RangeAtEnd h) each at moved
        (λ k range others items place i has. keeps_end h k range others items place i has)
        (⊎_elim
        (λ same. inl ((at.before ++ at.after) ++ at.range, (same, refl)))
        (λ other. let list = list_of state interlinks old each h head in inr (h, list.0, list.0 ++ at.range, other, list.1, (refl, refl)))
        (handle_or_other (entry old) at.handle h at.list.are_stored.0 head))

    pub moves_range_after : {P : Type 0} (key : P → ℕ × Gen) (f z q : P) → key f ≡ first → key z ≡ last → IsRangeWithout state interlinks old first last (key q) → IsItem (entry old) (key q)
        → (r : Option Unit) → SplicesAfter state interlinks key old q f z r new → IfNone r (new ≡ old) → MovesRangeAfter state interlinks old first last (key q) r new
    moves_range_after key f z q is_f is_z at item None is same =
        absurd (is (subst (λ (k : ℕ × Gen). CanSplice (entry old) (key q) k (key z)) (sym is_f) (subst (CanSplice (entry old) (key q) first) (sym is_z) (can_splice (key q) (key q) at (item_valid (entry old) (key q) item.value item.stored) (not_last at.range last (key q) at.ends.1 at.apart)))))
    moves_range_after key f z q is_f is_z at item (Some done) is same = (
      item,
      range_moved state interlinks old new first last (RangeAfter (key q)) (key q) (subst (λ (k : ℕ × Gen). Splices (interlinks old) (interlinks new) (key q).0 k.0 last.0) is_f (subst (λ (k : ℕ × Gen). Splices (interlinks old) (interlinks new) (key q).0 (key f).0 k.0) is_z is.1.chains)) (entries_kept state interlinks old new first is.1.view_after)
          (λ k before range after items ends was place. after_place (key q) k range (before ++ after) items place) (λ k range others items was place. after_place (key q) k range others items place),
    )

    pub each_range_after : (q : ℕ × Gen) → EachInList state interlinks old → IsRangeWithout state interlinks old first last q → (r : Option Unit) → MovesRangeAfter state interlinks old first last q r new → EachInList state interlinks new
    each_range_after q each at None is = subst (EachInList state interlinks) (sym is.1) each
    each_range_after q each at (Some done) (item, moved) =
        let there = place_of state interlinks old each q item.value item.stored in
        each_range_moved state interlinks old new first last (RangeAfter q) each at moved
        (λ k range others items place i has. keeps_after q k range others items (after_place q k range others items place) i has)
        (⊎_elim
        (λ same.
        let both = same_list state interlinks old there.handle (at.before ++ at.range ++ at.after) (there.before ++ (q, item.value) ∷ there.after) (subst (λ (h : ℕ × Gen). IsList state interlinks old h (at.before ++ at.range ++ at.after)) same at.list) there.list in
        let still = outside at.before at.range at.after there.before there.after q item.value at.apart both in
        inl (still.0 ++ (q, item.value) ∷ at.range ++ still.1, (item.value, still.0, still.1, still.2, refl)))
        (λ other. inr (there.handle, there.before ++ (q, item.value) ∷ there.after, there.before ++ (q, item.value) ∷ at.range ++ there.after, other, there.list, (item.value, there.before, there.after, refl, refl)))
        (handle_or_other (entry old) at.handle there.handle at.list.are_stored.0 there.list.are_stored.0))
