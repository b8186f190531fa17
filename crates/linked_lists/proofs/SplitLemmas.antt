-- Moves of the items from one on to a new list.
use Rattle.std.proofs.Common.{◌≡◌, ◌≢◌, ℕ, inl, inr, ⊎_elim, List, [], ◌∷◌, ◌++◌, map, Option, None, Some, refl, sym, ap, ◌∙◌, subst, append_assoc}
use Rattle.std.specs.Prelude.{is_some, Ok}
use Rattle.std.proofs.lemmas.List.{append-nil}
use Rattle.chain_laws.specs.Chains.{LinkMap, IsMember}
use Rattle.chain_laws.specs.Splices.{Splices, IsRun}
use Rattle.chain_laws.proofs.ListLemmas.Members.{IsMember-or_not}
use Rattle.arena_traits.specs.Arena.{IsValid, IsInserted}
use Rattle.arena_traits.specs.Entries.{ArenaView, ArenaState, count, last_key}
use Rattle.arena_traits.specs.CallOutcomes.{IsEntryInserted}
use Rattle.arena_traits.specs.Growth.{GrowsForOneMore}
use Rattle.chain_links.specs.CallEffects.{SplicesAfter}
use Rattle.chain_lists.specs.Lists.{Item, indexes, IsRing}
use Rattle.chain_lists.proofs.ItemListLemmas.{are_stored-some, among-left, among-right, among-parts, last_apart, last_is}
use Rattle.linked_lists.specs.declared.entry.Entry.{Entry}
use Rattle.linked_lists.specs.declared.entry.Entry.TheVariants as entries
use Rattle.linked_lists.specs.LinkedLists.{as_item, ring_of, IsItem, IsList, EachInList, KeepsOthers, KeepsEntries, IsListStarted, IsSplit, SplitsList}
use Rattle.linked_lists.specs.RingCalls.{EndsListOf}
use Rattle.linked_lists.proofs.RingLemmas.{ring_rotated}
use Rattle.linked_lists.proofs.ListLemmas.{ring_parts, same_handle, place_of, item_valid, links_of_handle}
use Rattle.linked_lists.proofs.InsertionLemmas.{has_item}
use Rattle.linked_lists.proofs.MoveLemmas.{entries_kept}
use Rattle.linked_lists.proofs.RunLemmas.{is_run, last_among, run_leaves, run_comes, run_elsewhere}

last_of_more : {Gen V : Type 0} (xs : List (Item Gen V)) (e : Item Gen V) (es : List (Item Gen V)) → last_key (xs ++ e ∷ es) ≡ last_key (e ∷ es)
last_of_more {Gen} {V} xs e es =
    let end = last_apart e es in
    ap (λ (l : List (Item Gen V)). last_key (xs ++ l)) end.2 ∙ (ap last_key (sym (append_assoc xs end.0 (end.1 ∷ []))) ∙ (last_is (xs ++ end.0) end.1 ∙ sym (ap last_key end.2 ∙ last_is end.0 end.1)))

module _ {A Gen T : Type 0} {view : A → ArenaView Gen (Entry T)} {entry : A → ℕ → Option (Gen × Entry T)} (state : (a : A) → ArenaState (view a) (entry a)) (interlinks : A → LinkMap) (old mid new : A) where
  then_kept : (q : ℕ × Gen) → IsEntryInserted state old entries.Head q mid → KeepsEntries state interlinks mid new → IsEntryInserted state old entries.Head q new
  then_kept q is kept = record {
    entries = subst (λ (f : ℕ → Option (Gen × Entry T)). IsInserted (entry old) f q entries.Head) (sym kept.0) is.entries;
    more = ap (λ (s : ArenaView Gen (Entry T)). count s) kept.1 ∙ is.more;
    generation = is.generation;
    index = is.index;
    slots = ap (λ (s : ArenaView Gen (Entry T)). s.slots) kept.1 ∙ is.slots;
    counter = ap (λ (s : ArenaView Gen (Entry T)). s.counter) kept.1 ∙ is.counter;
    maximum = ap (λ (s : ArenaView Gen (Entry T)). s.maximum) kept.1 ∙ is.maximum;
  }

  module _ (p q l : ℕ × Gen) (started : IsListStarted state interlinks old mid q) (ends : EndsListOf state interlinks old p l)
      (splices : Splices (interlinks mid) (interlinks new) q.0 p.0 l.0) (kept : KeepsEntries state interlinks mid new) where
    not_new : (k : ℕ × Gen) (items : List (Item Gen T)) → IsList state interlinks old k items → IsMember (indexes (ring_of k items)) q.0 → ⊥
    not_new k items is has = let some = are_stored-some (entry old) (ring_of k items) q.0 is.are_stored has in let none = ap is_some started.head.entries.free in let both = sym some ∙ none in cc

    module _ (h : ℕ × Gen) (t : T) (before after : List (Item Gen T)) (was : IsList state interlinks old h (before ++ (p, t) ∷ after)) where
      abbrev run : List (Item Gen (Entry T))
      run = as_item (p, t) ∷ map as_item after

      last_is_l : last_key run ≡ Some l
      last_is_l = sym (ends h t before after was ∙ (ap last_key (ring_parts h before ((p, t) ∷ after)) ∙ last_of_more (ring_of h before) (as_item (p, t)) (map as_item after)))

      in_mid : IsList state interlinks mid h (before ++ (p, t) ∷ after)
      in_mid = started.others h (before ++ (p, t) ∷ after) tt was

      turned : IsRing state interlinks mid (run ++ ring_of h before)
      turned = ring_rotated state interlinks mid (ring_of h before) run (subst (IsRing state interlinks mid) (ring_parts h before ((p, t) ∷ after)) in_mid)

      apart_q : IsMember (indexes (run ++ ring_of h before)) q.0 → ⊥
      apart_q has = not_new h (before ++ (p, t) ∷ after) was (subst (λ (l : List (Item Gen (Entry T))). IsMember (indexes l) q.0) (sym (ring_parts h before ((p, t) ∷ after)))
          (⊎_elim (λ right. among-right (ring_of h before) run q.0 right) (λ left. among-left (ring_of h before) run q.0 left) (among-parts run (ring_of h before) q.0 has)))

      run_ends : IsRun (indexes run) p.0 l.0
      run_ends = is_run run p l refl last_is_l

      has_last : IsMember (indexes (ring_of h (before ++ (p, t) ∷ after))) l.0
      has_last = last_among (ring_of h (before ++ (p, t) ∷ after)) l (sym (ends h t before after was))

      left_behind : IsList state interlinks new h before
      left_behind = run_leaves state interlinks mid new q p l splices kept.0 run (ring_of h before) run_ends turned apart_q (λ none. cc)

      split_at : IsList state interlinks new q ((p, t) ∷ after)
      split_at = subst (λ (r : List (Item Gen (Entry T))). IsRing state interlinks new ((q, entries.Head) ∷ r)) (append-nil run)
          (run_comes state interlinks mid new q p l splices kept.0 run (ring_of h before) run_ends turned apart_q entries.Head [] [] started.list)

      others_stay : KeepsOthers state interlinks old new (h ∷ [])
      others_stay k items none is = run_elsewhere state interlinks mid new q p l splices kept.0 (ring_of k items)
          (not_new k items is)
          (λ has. none.0 (same_handle state interlinks old k h items (before ++ (p, t) ∷ after) p.0 is was has (has_item state interlinks old new p (p, t) h t before after)))
          (λ has. none.0 (same_handle state interlinks old k h items (before ++ (p, t) ∷ after) l.0 is was has has_last))
          (started.others k items tt is)

    is_split_off : IsSplit state interlinks old new p q
    is_split_off = record {
      lists = λ h t before after was. (record { list = left_behind h t before after was; others = others_stay h t before after was }, split_at h t before after was);
      head = then_kept q started.head kept;
    }

  pub splits_list : {P H : Type 0} (key : P → ℕ × Gen) (handle_key : H → ℕ × Gen) (greatest : ℕ) (p : P) (h : H) (q l : P) → handle_key h ≡ key q → IsItem (entry old) (key p) → IsListStarted state interlinks old mid (key q) → GrowsForOneMore greatest (view old) (view mid)
      → IsValid (entry old) (key l) → EndsListOf state interlinks old (key p) (key l) → (r : Option Unit) → SplicesAfter state interlinks key mid q p l r new → SplitsList state interlinks key handle_key greatest old p (Ok (Some h)) new
  splits_list key handle_key greatest p h q l same item started grows valid ends None is = absurd (is (record {
    p_valid = record { value = entries.Head; stored = started.head.entries.stored };
    first_valid = still_valid (key p) (item_valid (entry old) (key p) item.value item.stored);
    last_valid = still_valid (key l) valid;
    apart = λ same. is_new (key l) valid (sym same);
  }))
    where
      is_new : (k : ℕ × Gen) → IsValid (entry old) k → k.0 ≢ (key q).0
      is_new k there same = let some = ap is_some there.stored in let none = ap is_some (ap (entry old) same ∙ started.head.entries.free) in let both = sym some ∙ none in cc

      still_valid : (k : ℕ × Gen) → IsValid (entry old) k → IsValid (entry mid) k
      still_valid k there = record { value = there.value; stored = started.head.entries.rest k.0 (is_new k there) ∙ there.stored }
  splits_list key handle_key greatest p h q l same item started grows valid ends (Some done) is =
      let kept = entries_kept state interlinks mid new (key p) is.1.view_after in
      (item, subst (IsSplit state interlinks old new (key p)) (sym same) (is_split_off (key p) (key q) (key l) started ends is.1.chains kept), subst (λ (s : ArenaView Gen (Entry T)). GrowsForOneMore greatest (view old) s) (sym kept.1) grows)

module _ {A Gen T : Type 0} {view : A → ArenaView Gen (Entry T)} {entry : A → ℕ → Option (Gen × Entry T)} (state : (a : A) → ArenaState (view a) (entry a)) (interlinks : A → LinkMap) (old new : A) (p q : ℕ × Gen) where
  pub each_split : EachInList state interlinks old → IsItem (entry old) p → IsSplit state interlinks old new p q → EachInList state interlinks new
  each_split each item is i some =
      let at = place_of state interlinks old each p item.value item.stored in
      let now = is.lists at.handle item.value at.before at.after at.list in
      ⊎_elim
      (λ has. record { handle = at.handle; items = at.before; list = now.0.list; among = has })
      (λ no_h. ⊎_elim
      (λ has. record { handle = q; items = (p, item.value) ∷ at.after; list = now.1; among = has })
      (λ no_q.
      let there = each i (ap is_some (sym (is.head.entries.rest i (λ same. no_q (inl (sym same))))) ∙ some) in
      record {
        handle = there.handle;
        items = there.items;
        list = now.0.others there.handle there.items ((λ same. elsewhere at.handle at.before at.after i no_h no_q (links_of_handle state interlinks old there.handle at.handle there.items (at.before ++ (p, item.value) ∷ at.after) i there.list at.list same there.among)), tt) there.list;
        among = there.among;
      })
      (IsMember-or_not (indexes (ring_of q ((p, item.value) ∷ at.after))) i))
      (IsMember-or_not (indexes (ring_of at.handle at.before)) i)
    where
      elsewhere : (h : ℕ × Gen) (before after : List (Item Gen T)) (j : ℕ) → (IsMember (indexes (ring_of h before)) j → ⊥) → (IsMember (indexes (ring_of q ((p, item.value) ∷ after))) j → ⊥) → IsMember (indexes (ring_of h (before ++ (p, item.value) ∷ after))) j → ⊥
      elsewhere h before after j no_h no_q has = ⊎_elim
          (λ left. no_h left)
          (λ right. no_q (inr right))
          (among-parts (ring_of h before) (as_item (p, item.value) ∷ map as_item after) j (subst (λ (l : List (Item Gen (Entry T))). IsMember (indexes l) j) (ring_parts h before ((p, item.value) ∷ after)) has))
