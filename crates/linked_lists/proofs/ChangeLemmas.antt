-- New lists, new values and removals.
use Rattle.std.proofs.Common.{◌≡◌, ◌≢◌, ℕ, inl, inr, ⊎_elim, List, [], ◌∷◌, ◌++◌, map, Option, None, Some, refl, sym, ap, ◌∙◌, subst}
use Rattle.std.specs.Prelude.{Bool, is_some, true, IfNone, OnErr, OnSome, Result, Ok, Err, IfSome}
use Rattle.std.specs.Borrow.{MutBor}
use Rattle.std.specs.Option.{option_copied_mut}
use Rattle.std.proofs.lemmas.Bool.{cases_eq}
use Rattle.arena_core.specs.Invalidation.{invalidation_result, is_overflow_result, value_within}
use Rattle.arena_core.specs.PointerKinds.{PointerKind}
use Rattle.arena_core.specs.declared.invalidation.InvalidationResult.{InvalidationResult}
use Rattle.arena_core.specs.declared.invalidation.InvalidationResult.TheVariants as outcome
use Rattle.arena_core.specs.declared.errors.ReallocationError.{ReallocationError}
use Rattle.chain_laws.specs.Chains.{LinkMap, cyclic, IsChain, IsMember}
use Rattle.chain_laws.proofs.InterlinkLemmas.Inverses.{one_some}
use Rattle.arena_traits.specs.Entries.{ArenaView, ArenaState, view_with_value}
use Rattle.arena_traits.specs.CallOutcomes.{ReplacesValue, ReportsOverflow}
use Rattle.arena_traits.specs.Growth.{IsGrowthResult, RefusesOneMore, GrowsForOneMore}
use Rattle.arena_traits.proofs.EntryChangeLemmas.{values_elsewhere}
use Rattle.chain_traits.proofs.OutcomeLemmas.{growth_to}
use Rattle.chain_lists.specs.Lists as rings
use Rattle.chain_lists.specs.Lists.{Item, indexes, IsRing, IsItemStarted, KeepsWithout}
use Rattle.chain_lists.proofs.ItemListLemmas.{among-left, among-right, among-parts}
use Rattle.chain_lists.proofs.ListChangeLemmas.{stays}
use Rattle.chain_lists.proofs.ValueWriteLemmas.{has_new_value}
use Rattle.linked_lists.specs.declared.entry.Entry.{Entry}
use Rattle.linked_lists.specs.declared.entry.Entry.TheVariants as entries
use Rattle.linked_lists.specs.LinkedLists.{as_item, ring_of, HasItem, IsItem, EachInList, IsListStarted, CreatesList, ValueBecomes, ReplacesItem, LeavesList, RemovesListItem}
use Rattle.linked_lists.specs.RingCalls.{value_in}
use Rattle.linked_lists.proofs.ListLemmas.{ring_parts, ring_has, ring_member, ring_more, keeps_others, each_kept, place_of, item_valid, head_or_item}
use Rattle.linked_lists.proofs.InsertionLemmas.{has_item}

module _ {A Gen T : Type 0} {view : A → ArenaView Gen (Entry T)} {entry : A → ℕ → Option (Gen × Entry T)} (state : (a : A) → ArenaState (view a) (entry a)) (interlinks : A → LinkMap) where
  pub each_viewed : (old new : A) → entry new ≡ entry old → interlinks new ≡ interlinks old → EachInList state interlinks old → EachInList state interlinks new
  each_viewed old new same linked each i some =
      let at = each i (ap (λ (f : ℕ → Option (Gen × Entry T)). is_some (f i)) (sym same) ∙ some) in
      record {
        handle = at.handle;
        items = at.items;
        list = stays state interlinks cyclic old new same (ring_of at.handle at.items) at.list.are_stored (subst (λ (l : LinkMap). IsChain l (cyclic (indexes (ring_of at.handle at.items)))) (sym linked) at.list.chain);
        among = at.among;
      }

  pub list_started : (old new : A) (h : ℕ × Gen) → IsItemStarted state interlinks cyclic old new (h, entries.Head) → IsListStarted state interlinks old new h
  list_started old new h is = record { list = is.list; head = is.item; others = λ k items none was. is.others (ring_of k items) tt was }

  pub each_started : (old new : A) (h : ℕ × Gen) → EachInList state interlinks old → IsListStarted state interlinks old new h → EachInList state interlinks new
  each_started old new h each is i some = ⊎_elim
      (λ same. record { handle = h; items = []; list = is.list; among = inl (sym same) })
      (λ other.
      let at = each i (ap is_some (sym (is.head.entries.rest i other)) ∙ some) in
      record { handle = at.handle; items = at.items; list = is.others at.handle at.items tt at.list; among = at.among })
      (cases_eq i h.0)

  module _ {P : Type 0} (key : P → ℕ × Gen) (greatest : ℕ) (old new : A) (o : Result P ReallocationError) where
    pub starts_list : rings.StartsList state interlinks cyclic key greatest old entries.Head o new → CreatesList state interlinks key greatest old o new
    starts_list is = record { outcome = growth_to (RefusesOneMore (view old)) _ _ o is.outcome (λ q done. (list_started old new (key q) done.0, done.1)); err = is.err }

    pub each_list_started : EachInList state interlinks old → CreatesList state interlinks key greatest old o new → EachInList state interlinks new
    each_list_started each is = by o is.outcome is.err
      where
        by : (r : Result P ReallocationError) → IsGrowthResult (RefusesOneMore (view old)) (λ q. IsListStarted state interlinks old new (key q) × GrowsForOneMore greatest (view old) (view new)) r → OnErr r (new ≡ old) → EachInList state interlinks new
        by (Ok q) done same = each_started old new (key q) each done.0
        by (Err why) done same = subst (EachInList state interlinks) (sym same) each

  module _ (old new : A) where
    new_value : (p : ℕ × Gen) (t : T) → rings.HasNewValue state interlinks cyclic old new p (entries.Item t) → ValueBecomes state interlinks old new p t
    new_value p t is = record {
      list = λ h s before after was. record {
        list = subst (IsRing state interlinks new) (sym (ring_parts h before ((p, t) ∷ after)))
            (is.list (entries.Item s) (ring_of h before) (map as_item after) (subst (IsRing state interlinks old) (ring_parts h before ((p, s) ∷ after)) was));
        others = keeps_others state interlinks old new h p (before ++ (p, s) ∷ after) is.others was (has_item state interlinks old new p (p, s) h s before after);
      };
      view_after = is.view_after;
      links = is.links;
    }

    pub replaces_item : {P W : Type 0} (key : P → ℕ × Gen) (q : P) (t : T) (r : Option (Entry T)) → IsItem (entry old) (key q) → ReplacesValue state key old q (entries.Item t) r new → IfNone r (new ≡ old)
        → (W → interlinks new ≡ interlinks old) → OnSome r W → ReplacesItem state interlinks old (key q) t (value_in r) new
    replaces_item key q t None item is same keeps written = absurd (is (item_valid (entry old) (key q) item.value item.stored))
    replaces_item key q t (Some entries.Head) item is same keeps written = absurd (head_or_item (entry old) (key q) (key q) item.value is.0 item.stored refl)
    replaces_item key q t (Some (entries.Item former)) item is same keeps written = (is.0, new_value (key q) t (has_new_value state interlinks cyclic (λ l. refl) old new (key q).0 (entries.Item t) is.1 (key q).1 (keeps written)))

    pub each_replaced : (p : ℕ × Gen) → EachInList state interlinks old → (t : T) (r : Option T) → IsItem (entry old) p → ReplacesItem state interlinks old p t r new → EachInList state interlinks new
    each_replaced p each t None item is = subst (EachInList state interlinks) (sym is.1) each
    each_replaced p each t (Some former) item is =
        let at = place_of state interlinks old each p former is.0 in
        each_kept state interlinks old new each at.handle (at.before ++ (p, former) ∷ at.after) (at.before ++ (p, t) ∷ at.after) at.list (is.1.list at.handle former at.before at.after at.list)
        (λ i some apart. (
          sym (ap is_some (values_elsewhere state old new p.0 (entries.Item t) is.1.view_after i (λ same. apart (subst (IsMember (indexes (ring_of at.handle (at.before ++ (p, t) ∷ at.after)))) (sym same) (has_item state interlinks old new p (p, t) at.handle t at.before at.after))))) ∙ some,
          λ among. apart (ring_more at.handle at.before ((p, former) ∷ at.after) ((p, t) ∷ at.after) (λ j has. has) i among),
        ))

  module _ {P I W : Type 0} (pointers : PointerKind P I Gen W) (old new : A) (p : P) where
    item_removed : (t : T) → rings.IsItemRemoved state interlinks cyclic old new pointers (pointers.key p, entries.Item t) → LeavesList state interlinks old new pointers (pointers.key p) t
    item_removed t is = record {
      removed = is.removed;
      list = λ h before after was. record {
        list = subst (IsRing state interlinks new) (sym (ring_parts h before after))
            (is.list (ring_of h before) (map as_item after) (subst (IsRing state interlinks old) (ring_parts h before ((pointers.key p, t) ∷ after)) was) (λ none. cc));
        others = keeps_others state interlinks old new h (pointers.key p) (before ++ (pointers.key p, t) ∷ after) is.others was (has_item state interlinks old new (pointers.key p) (pointers.key p, t) h t before after);
      };
      gone = is.gone;
      entries = is.entries;
      size = is.size;
    }

    pub removes_item : (r : InvalidationResult (Entry T)) → IsItem (entry old) (pointers.key p) → rings.RemovesItem state interlinks cyclic pointers old p (value_within r) new
        → OnSome (value_within r) (IfSome (view old).counter (λ g. pointers.wraps g ≡ is_overflow_result r))
        → RemovesListItem state interlinks pointers old p (invalidation_result (is_overflow_result r) (value_in (value_within r))) new
    removes_item outcome.InvalidPtr item is overflow = absurd (is.0 (item_valid (entry old) (pointers.key p) item.value item.stored))
    removes_item (outcome.Success entries.Head) item is overflow = absurd (head_or_item (entry old) (pointers.key p) (pointers.key p) item.value is.removed.0 item.stored refl)
    removes_item (outcome.Success (entries.Item t)) item is overflow = (overflow, item_removed t is)
    removes_item (outcome.GenerationOverflow entries.Head) item is overflow = absurd (head_or_item (entry old) (pointers.key p) (pointers.key p) item.value is.removed.0 item.stored refl)
    removes_item (outcome.GenerationOverflow (entries.Item t)) item is overflow = (overflow, item_removed t is)

    pub each_removed : EachInList state interlinks old → (r : Option (Entry T)) → IsItem (entry old) (pointers.key p) → rings.RemovesItem state interlinks cyclic pointers old p r new → EachInList state interlinks new
    each_removed each None item is = subst (EachInList state interlinks) (sym is.1) each
    each_removed each (Some entries.Head) item is = absurd (head_or_item (entry old) (pointers.key p) (pointers.key p) item.value is.removed.0 item.stored refl)
    each_removed each (Some (entries.Item t)) item is =
        let at = place_of state interlinks old each (pointers.key p) t is.removed.0 in
        let after = (item_removed t is).list at.handle at.before at.after at.list in
        each_kept state interlinks old new each at.handle (at.before ++ (pointers.key p, t) ∷ at.after) (at.before ++ at.after) at.list after (elsewhere at.handle at.before at.after)
      where
        stays_there : (i : ℕ) → is_some (entry new i) ≡ true → i ≢ (pointers.key p).0
        stays_there i some same = let none = ap is_some (ap (entry new) same ∙ is.gone) in let both = sym some ∙ none in cc

        elsewhere : (h : ℕ × Gen) (before after : List (Item Gen T)) (i : ℕ) → is_some (entry new i) ≡ true → (IsMember (indexes (ring_of h (before ++ after))) i → ⊥)
            → (is_some (entry old i) ≡ true) × (IsMember (indexes (ring_of h (before ++ (pointers.key p, t) ∷ after))) i → ⊥)
        elsewhere h before after i some apart = (
          sym (ap is_some (is.entries i (stays_there i some))) ∙ some,
          λ among. ⊎_elim
              (λ head. apart (ring_has h (before ++ after) i (inl head)))
              (λ has. ⊎_elim
              (λ left. apart (ring_has h (before ++ after) i (inr (among-left before after i left))))
              (λ right. ⊎_elim (λ same. stays_there i some (sym same)) (λ later. apart (ring_has h (before ++ after) i (inr (among-right before after i later)))) right)
              (among-parts before ((pointers.key p, t) ∷ after) i has))
              (ring_member h (before ++ (pointers.key p, t) ∷ after) i among),
        )

module _ {A Gen T : Type 0} {view : A → ArenaView Gen (Entry T)} {entry : A → ℕ → Option (Gen × Entry T)} (state : (a : A) → ArenaState (view a) (entry a)) (interlinks : A → LinkMap) (old new : A) (p : ℕ × Gen) (item : IsItem (entry old) p) where
  pub written : (t : T) → view new ≡ view_with_value (view old) p.0 (entries.Item t) → interlinks new ≡ interlinks old → ValueBecomes state interlinks old new p t
  written t is same = new_value state interlinks old new p t (has_new_value state interlinks cyclic (λ l. refl) old new p.0 (entries.Item t) is p.1 same)

  pub each_written : EachInList state interlinks old → (v : Entry T) (t : T) → v ≡ entries.Item t → view new ≡ view_with_value (view old) p.0 v → interlinks new ≡ interlinks old → EachInList state interlinks new
  each_written each v t is_item is same = each_replaced state interlinks old new p each t (Some item.value) item (
    item.stored,
    written t (subst (λ (u : Entry T). view new ≡ view_with_value (view old) p.0 u) is_item is) same,
  )

pub overflow_reported : {X Gen : Type 0} (wraps : Gen → Bool) (counter : Option Gen) (invalid : Type 0) (done : X → Type 0) (r : InvalidationResult X) → ReportsOverflow wraps counter invalid done r
    → OnSome (value_within r) (IfSome counter (λ g. wraps g ≡ is_overflow_result r))
overflow_reported wraps counter invalid done outcome.InvalidPtr is = tt
overflow_reported wraps counter invalid done (outcome.Success x) is = is.0
overflow_reported wraps counter invalid done (outcome.GenerationOverflow x) is = is.0

pub read_through : {T : Type 0} (X : T → Type 0) (o : Option (MutBor T)) (t : T) → option_copied_mut o ≡ Some t → X t → (is_some o ≡ true) × IfSome o (λ b. X b.now)
read_through X None t is x = absurd (let none = is in cc)
read_through X (Some b) t is x = (refl, subst X (sym (one_some is)) x)

pub on_any : {R X : Type 0} (o : Option R) → X → OnSome o X
on_any None x = tt
on_any (Some r) x = x

pub same_value : {Gen T : Type 0} (entry : ℕ → Option (Gen × Entry T)) (p : ℕ × Gen) (v : Entry T) (t : T) → entry p.0 ≡ Some (p.1, v) → HasItem entry p t → v ≡ entries.Item t
same_value {Gen} {T} entry p v t at item = ap (λ (e : Gen × Entry T). e.1) (one_some (sym at ∙ item))
