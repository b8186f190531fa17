-- The effect of insertions on lists.
use Rattle.std.proofs.Common.{◌≡◌, ℕ, inl, inr, ⊎_elim, List, [], ◌∷◌, ◌++◌, map, Option, refl, sym, ap, ◌∙◌, subst}
use Rattle.std.specs.Prelude.{◌↔◌, Bool, IsTrue, is_some, true, false, OnErr, Result, Ok, Err}
use Rattle.std.proofs.lemmas.List.{append-nil}
use Rattle.arena_core.specs.declared.errors.ChainInsertionError.{ChainInsertionError}
use Rattle.arena_core.specs.declared.errors.ChainInsertionError.TheVariants as failed
use Rattle.arena_core.specs.declared.errors.ReallocationError.{ReallocationError}
use Rattle.chain_laws.specs.Chains.{LinkMap, cyclic, IsMember}
use Rattle.arena_traits.specs.Arena.{IsInserted}
use Rattle.arena_traits.specs.Entries.{ArenaView, ArenaState}
use Rattle.arena_traits.specs.Growth.{RefusesOneMore, GrowsForOneMore}
use Rattle.chain_links.specs.Insertions.{IsInsertionResult}
use Rattle.chain_lists.specs.Lists.{Item, indexes, IsRing, IsItemAfter, IsItemBefore, InsertsItemAfter, InsertsItemBefore}
use Rattle.chain_lists.proofs.ItemListLemmas.{among-right}
use Rattle.linked_lists.specs.declared.entry.Entry.{Entry}
use Rattle.linked_lists.specs.declared.entry.Entry.TheVariants as entries
use Rattle.linked_lists.specs.LinkedLists.{as_item, ring_of, IsHandle, IsItem, IsList, EachInList, Becomes, GrowsAtStart, GrowsAtEnd, GrowsAfter, GrowsBefore, IsItemAdded, AddsItem}
use Rattle.linked_lists.specs.RingCalls.{InsertsIf}
use Rattle.linked_lists.proofs.RingLemmas.{ring_rotated}
use Rattle.linked_lists.proofs.ListLemmas.{ring_parts, ring_has, ring_more, keeps_others, each_kept, list_of, place_of, item_valid, head_valid, not_both}

pub inserted_to : {P : Type 0} (weak strong : Type 0) (refuses : ReallocationError → Type 0) (done more : P → Type 0) (o : Result P ChainInsertionError) → strong → weak → IsInsertionResult weak refuses done o
    → ((p : P) → done p → more p) → IsInsertionResult strong refuses more o
inserted_to weak strong refuses done more (Ok p) may valid is so = (may, so p is.1)
inserted_to weak strong refuses done more (Err failed.FailedLinkRequirement) may valid is so = absurd (is valid)
inserted_to weak strong refuses done more (Err failed.BeyondMaxCapacity) may valid is so = (may, is.1)
inserted_to weak strong refuses done more (Err failed.AllocError) may valid is so = (may, is.1)
inserted_to weak strong refuses done more (Err failed.NotWithinCapacity) may valid is so = is

module _ {A Gen T : Type 0} {view : A → ArenaView Gen (Entry T)} {entry : A → ℕ → Option (Gen × Entry T)} (state : (a : A) → ArenaState (view a) (entry a)) (interlinks : A → LinkMap) where
  module _ (old new : A) (p : ℕ × Gen) (e : Item Gen T) where
    pub has_item : (h : ℕ × Gen) (t : T) (before after : List (Item Gen T)) → IsMember (indexes (ring_of h (before ++ (p, t) ∷ after))) p.0
    has_item h t before after = ring_has h (before ++ (p, t) ∷ after) p.0 (inr (among-right before ((p, t) ∷ after) p.0 (inl refl)))

    module _ (is : IsItemAfter state interlinks cyclic old new p (as_item e)) where
      at_start : GrowsAtStart state interlinks old new p e
      at_start items was = record { list = is.list entries.Head [] (map as_item items) was; others = keeps_others state interlinks old new p p items is.others was (inl refl) }

      behind : GrowsAfter state interlinks old new p e
      behind h t before after was = record {
        list = subst (IsRing state interlinks new) (sym (ring_parts h before ((p, t) ∷ e ∷ after)))
            (is.list (entries.Item t) (ring_of h before) (map as_item after) (subst (IsRing state interlinks old) (ring_parts h before ((p, t) ∷ after)) was));
        others = keeps_others state interlinks old new h p (before ++ (p, t) ∷ after) is.others was (has_item h t before after);
      }

      pub added_at_start : IsItemAdded state interlinks old new (GrowsAtStart state interlinks old new p) e
      added_at_start = record { list = at_start; item = is.item }

      pub added_behind : IsItemAdded state interlinks old new (GrowsAfter state interlinks old new p) e
      added_behind = record { list = behind; item = is.item }

    module _ (is : IsItemBefore state interlinks cyclic old new p (as_item e)) where
      at_end : GrowsAtEnd state interlinks old new p e
      at_end items was = record {
        list = subst (IsRing state interlinks new) (sym (ring_parts p items (e ∷ [])))
            (ring_rotated state interlinks new (as_item e ∷ []) (ring_of p items) (is.list entries.Head [] (map as_item items) was));
        others = keeps_others state interlinks old new p p items is.others was (inl refl);
      }

      ahead : GrowsBefore state interlinks old new p e
      ahead h t before after was = record {
        list = subst (IsRing state interlinks new) (sym (ring_parts h before (e ∷ (p, t) ∷ after)))
            (is.list (entries.Item t) (ring_of h before) (map as_item after) (subst (IsRing state interlinks old) (ring_parts h before ((p, t) ∷ after)) was));
        others = keeps_others state interlinks old new h p (before ++ (p, t) ∷ after) is.others was (has_item h t before after);
      }

      pub added_at_end : IsItemAdded state interlinks old new (GrowsAtEnd state interlinks old new p) e
      added_at_end = record { list = at_end; item = is.item }

      pub added_ahead : IsItemAdded state interlinks old new (GrowsBefore state interlinks old new p) e
      added_ahead = record { list = ahead; item = is.item }

    each_grown : EachInList state interlinks old → IsInserted (entry old) (entry new) e.0 (entries.Item e.1) → (h : ℕ × Gen) (before rest more : List (Item Gen T)) → IsList state interlinks old h (before ++ rest)
        → Becomes state interlinks old new h (before ++ more) → IsMember (indexes more) e.0.0 → ((i : ℕ) → IsMember (indexes rest) i → IsMember (indexes more) i) → EachInList state interlinks new
    each_grown each gained h before rest more was is has sub = each_kept state interlinks old new each h (before ++ rest) (before ++ more) was is
        (λ i some apart. (
          sym (ap is_some (gained.rest i (λ same. apart (ring_has h (before ++ more) i (inr (among-right before more i (subst (IsMember (indexes more)) (sym same) has))))))) ∙ some,
          λ among. apart (ring_more h before rest more sub i among),
        ))

    pub each_at_start : EachInList state interlinks old → IsHandle (entry old) p → IsItemAdded state interlinks old new (GrowsAtStart state interlinks old new p) e → EachInList state interlinks new
    each_at_start each head added =
        let list = list_of state interlinks old each p head in
        each_grown each added.item.entries p [] list.0 (e ∷ list.0) list.1 (added.list list.0 list.1) (inl refl) (λ i has. inr has)

    pub each_at_end : EachInList state interlinks old → IsHandle (entry old) p → IsItemAdded state interlinks old new (GrowsAtEnd state interlinks old new p) e → EachInList state interlinks new
    each_at_end each head added =
        let list = list_of state interlinks old each p head in
        each_grown each added.item.entries p list.0 [] (e ∷ []) (subst (IsList state interlinks old p) (sym (append-nil list.0)) list.1) (added.list list.0 list.1) (inl refl) (λ i has. absurd has)

    pub each_behind : EachInList state interlinks old → IsItem (entry old) p → IsItemAdded state interlinks old new (GrowsAfter state interlinks old new p) e → EachInList state interlinks new
    each_behind each item added =
        let at = place_of state interlinks old each p item.value item.stored in
        each_grown each added.item.entries at.handle at.before ((p, item.value) ∷ at.after) ((p, item.value) ∷ e ∷ at.after) at.list (added.list at.handle item.value at.before at.after at.list) (inr (inl refl))
        (λ i has. ⊎_elim (λ is. inl is) (λ later. inr (inr later)) has)

    pub each_ahead : EachInList state interlinks old → IsItem (entry old) p → IsItemAdded state interlinks old new (GrowsBefore state interlinks old new p) e → EachInList state interlinks new
    each_ahead each item added =
        let at = place_of state interlinks old each p item.value item.stored in
        each_grown each added.item.entries at.handle at.before ((p, item.value) ∷ at.after) (e ∷ (p, item.value) ∷ at.after) at.list (added.list at.handle item.value at.before at.after at.list) (inl refl) (λ i has. inr has)

  module _ {P : Type 0} (key : P → ℕ × Gen) (greatest : ℕ) (old new : A) (p : ℕ × Gen) (t : T) (o : Result P ChainInsertionError) where
    -- A refusal, or the item is added as its link is.
    added_if : (b : Bool) (outcome may : Type 0) (grows : A → A → Item Gen T → Type 0) → IsTrue b ↔ may → (may → outcome → AddsItem state interlinks key greatest may grows old t o new) → InsertsIf b outcome old o new
        → AddsItem state interlinks key greatest may grows old t o new
    added_if true outcome may grows test so is = so (test.0 refl) is
    added_if false outcome may grows test so (refused, same) = subst (λ (r : Result P ChainInsertionError). AddsItem state interlinks key greatest may grows old t r new) (sym refused)
        (record { outcome = λ holds. not_both (test.1 holds) refl; err = same })

    after_head : IsHandle (entry old) p → InsertsItemAfter state interlinks cyclic key greatest old p (entries.Item t) o new
        → AddsItem state interlinks key greatest (IsHandle (entry old) p) (λ a b. GrowsAtStart state interlinks a b p) old t o new
    after_head head is = record { outcome = inserted_to _ _ (RefusesOneMore (view old)) _ _ o head (head_valid (entry old) p head) is.outcome (λ q done. (added_at_start old new p (key q, t) done.0, done.1)); err = is.err }

    before_head : IsHandle (entry old) p → InsertsItemBefore state interlinks cyclic key greatest old p (entries.Item t) o new
        → AddsItem state interlinks key greatest (IsHandle (entry old) p) (λ a b. GrowsAtEnd state interlinks a b p) old t o new
    before_head head is = record { outcome = inserted_to _ _ (RefusesOneMore (view old)) _ _ o head (head_valid (entry old) p head) is.outcome (λ q done. (added_at_end old new p (key q, t) done.0, done.1)); err = is.err }

    after_item : IsItem (entry old) p → InsertsItemAfter state interlinks cyclic key greatest old p (entries.Item t) o new
        → AddsItem state interlinks key greatest (IsItem (entry old) p) (λ a b. GrowsAfter state interlinks a b p) old t o new
    after_item item is = record { outcome = inserted_to _ _ (RefusesOneMore (view old)) _ _ o item (item_valid (entry old) p item.value item.stored) is.outcome (λ q done. (added_behind old new p (key q, t) done.0, done.1)); err = is.err }

    before_item : IsItem (entry old) p → InsertsItemBefore state interlinks cyclic key greatest old p (entries.Item t) o new
        → AddsItem state interlinks key greatest (IsItem (entry old) p) (λ a b. GrowsBefore state interlinks a b p) old t o new
    before_item item is = record { outcome = inserted_to _ _ (RefusesOneMore (view old)) _ _ o item (item_valid (entry old) p item.value item.stored) is.outcome (λ q done. (added_ahead old new p (key q, t) done.0, done.1)); err = is.err }

    pub pushes_front : (b : Bool) → IsTrue b ↔ IsHandle (entry old) p → InsertsIf b (InsertsItemAfter state interlinks cyclic key greatest old p (entries.Item t) o new) old o new
        → AddsItem state interlinks key greatest (IsHandle (entry old) p) (λ a b. GrowsAtStart state interlinks a b p) old t o new
    pushes_front b test is = added_if b _ (IsHandle (entry old) p) (λ a b. GrowsAtStart state interlinks a b p) test after_head is

    pub pushes_back : (b : Bool) → IsTrue b ↔ IsHandle (entry old) p → InsertsIf b (InsertsItemBefore state interlinks cyclic key greatest old p (entries.Item t) o new) old o new
        → AddsItem state interlinks key greatest (IsHandle (entry old) p) (λ a b. GrowsAtEnd state interlinks a b p) old t o new
    pushes_back b test is = added_if b _ (IsHandle (entry old) p) (λ a b. GrowsAtEnd state interlinks a b p) test before_head is

    pub inserts_after : (b : Bool) → IsTrue b ↔ IsItem (entry old) p → InsertsIf b (InsertsItemAfter state interlinks cyclic key greatest old p (entries.Item t) o new) old o new
        → AddsItem state interlinks key greatest (IsItem (entry old) p) (λ a b. GrowsAfter state interlinks a b p) old t o new
    inserts_after b test is = added_if b _ (IsItem (entry old) p) (λ a b. GrowsAfter state interlinks a b p) test after_item is

    pub inserts_before : (b : Bool) → IsTrue b ↔ IsItem (entry old) p → InsertsIf b (InsertsItemBefore state interlinks cyclic key greatest old p (entries.Item t) o new) old o new
        → AddsItem state interlinks key greatest (IsItem (entry old) p) (λ a b. GrowsBefore state interlinks a b p) old t o new
    inserts_before b test is = added_if b _ (IsItem (entry old) p) (λ a b. GrowsBefore state interlinks a b p) test before_item is

    pub each_added : (may : Type 0) (grows : A → A → Item Gen T → Type 0) → EachInList state interlinks old → AddsItem state interlinks key greatest may grows old t o new
        → ((q : P) → may → IsItemAdded state interlinks old new (grows old new) (key q, t) → EachInList state interlinks new) → EachInList state interlinks new
    each_added may grows each is so = by o is.outcome is.err
      where
        by : (r : Result P ChainInsertionError) → IsInsertionResult may (RefusesOneMore (view old)) (λ q. IsItemAdded state interlinks old new (grows old new) (key q, t) × GrowsForOneMore greatest (view old) (view new)) r
            → OnErr r (new ≡ old) → EachInList state interlinks new
        by (Ok q) done same = so q done.0 done.1.0
        by (Err why) done same = subst (EachInList state interlinks) (sym same) each
