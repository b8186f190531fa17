-- Removal of the items of a list, then its head.
use Rattle.std.proofs.Common.{◌≡◌, ◌≢◌, ℕ, zero, suc, ◌+◌, ◌<◌, inl, ⊎_elim, List, [], ◌∷◌, ◌++◌, Option, None, Some, refl, sym, ap, ◌∙◌, subst, append_assoc, arith}
use Rattle.std.specs.Prelude.{Bool, true, false, ◌||◌, IfSome, OnSome, length, is_some}
use Rattle.std.specs.Option.{option_map}
use Rattle.std.proofs.lemmas.Bool.{cases_eq}
use Rattle.std.proofs.lemmas.List.{map-append, append-nil, length-append, length-map}
use Rattle.arena_core.specs.Invalidation.{invalidation_result, is_overflow_result, value_within}
use Rattle.arena_core.specs.PointerKinds.{PointerKind}
use Rattle.arena_core.specs.declared.invalidation.InvalidationResult.{InvalidationResult}
use Rattle.arena_core.specs.declared.invalidation.InvalidationResult.TheVariants as outcome
use Rattle.arena_traits.specs.CallOutcomes.{ReportsOverflow, counter_after, wraps_within}
use Rattle.chain_laws.specs.Chains.{LinkMap, cyclic, IsMember}
use Rattle.chain_laws.proofs.InterlinkLemmas.Inverses.{one_some}
use Rattle.chain_laws.proofs.ListLemmas.Members.{IsMember-left, IsMember-right, IsMember-parts}
use Rattle.arena_traits.specs.Entries.{ArenaView, ArenaState, count, index_of, view_after_removal}
use Rattle.chain_lists.specs.Lists as rings
use Rattle.chain_lists.specs.Lists.{Item, indexes}
use Rattle.linked_lists.specs.declared.entry.Entry.{Entry}
use Rattle.linked_lists.specs.LinkedLists.{ring_of, view_after_removals, IsHandle, HasItem, IsItem, IsList, EachInList, AllInLists, KeepsOthers, AreEntriesRemoved, IsListRemoved, LeavesList, RemovesListItem, ReadsFirst, RemovesList}
use Rattle.linked_lists.specs.RingCalls.{EmptiesList}
use Rattle.linked_lists.proofs.ListLemmas.{same_handle, links_of_handle, head_valid}

removed_last : {Gen V : Type 0} (following : Gen → Gen) (s : ArenaView Gen V) (is : List ℕ) (i : ℕ) → view_after_removals following s (is ++ i ∷ []) ≡ view_after_removal following (view_after_removals following s is) i
removed_last following s [] i = refl
removed_last following s (j ∷ is) i = removed_last following (view_after_removal following s j) is i

counter_left : {Gen V : Type 0} (following : Gen → Gen) (s : ArenaView Gen V) (is : List ℕ) (n : ℕ) → length is ≡ n → (view_after_removals following s is).counter ≡ option_map (counter_after following n) s.counter
counter_left {Gen} {V} following s is n same = by is s ∙ ap (λ (k : ℕ). option_map (counter_after following k) s.counter) same
  where
    one : (k : ℕ) (g : Gen) → counter_after following k (following g) ≡ following (counter_after following k g)
    one zero g = refl
    one (suc k) g = ap following (one k g)

    mapped : (k : ℕ) (o : Option Gen) → option_map (counter_after following k) (option_map following o) ≡ option_map (counter_after following (suc k)) o
    mapped k None = refl
    mapped k (Some g) = ap (λ (x : Gen). let some : Option Gen = Some x in some) (one k g)

    same_counter : (o : Option Gen) → o ≡ option_map (counter_after following 0) o
    same_counter None = refl
    same_counter (Some g) = refl

    by : (is : List ℕ) (s : ArenaView Gen V) → (view_after_removals following s is).counter ≡ option_map (counter_after following (length is)) s.counter
    by [] s = same_counter s.counter
    by (i ∷ is) s = by is (view_after_removal following s i) ∙ mapped (length is) s.counter

none_wraps : {Gen : Type 0} (wraps : Gen → Bool) (following : Gen → Gen) (c : Option Gen) → IfSome c (λ g. wraps_within wraps following 0 g ≡ false)
none_wraps wraps following None = tt
none_wraps wraps following (Some g) = refl

one_more_wraps : {Gen : Type 0} (wraps : Gen → Bool) (following : Gen → Gen) (c : Option Gen) (n : ℕ) (wrapped overflow : Bool) → IfSome c (λ g. wraps_within wraps following n g ≡ wrapped)
    → IfSome (option_map (counter_after following n) c) (λ g. wraps g ≡ overflow) → IfSome c (λ g. wraps_within wraps following (suc n) g ≡ (wrapped || overflow))
one_more_wraps wraps following None n wrapped overflow before now = tt
one_more_wraps wraps following (Some g) n wrapped overflow before now = ap (λ b. b || wraps (counter_after following n g)) before ∙ ap (λ b. wrapped || b) now

reports : {X Gen : Type 0} (wraps : Gen → Bool) (counter : Option Gen) (invalid : Type 0) (done : X → Type 0) (overflow : Bool) (x : X) → IfSome counter (λ g. wraps g ≡ overflow) → done x
    → ReportsOverflow wraps counter invalid done (invalidation_result overflow (Some x))
reports wraps counter invalid done false x is holds = (is, holds)
reports wraps counter invalid done true x is holds = (is, holds)

module _ {A Gen T : Type 0} {view : A → ArenaView Gen (Entry T)} {entry : A → ℕ → Option (Gen × Entry T)} (state : (a : A) → ArenaState (view a) (entry a)) (interlinks : A → LinkMap) where
  then_removed : (following : Gen → Gen) (old mid new : A) (is : List ℕ) (i : ℕ) → AreEntriesRemoved state interlinks old mid following is → view new ≡ view_after_removal following (view mid) i
      → entry new i ≡ None → ((k : ℕ) → k ≢ i → entry new k ≡ entry mid k) → AreEntriesRemoved state interlinks old new following (is ++ i ∷ [])
  then_removed following old mid new is i part view_after gone kept = record {
    view_after = view_after ∙ (ap (λ s. view_after_removal following s i) part.view_after ∙ sym (removed_last following (view old) is i));
    gone = λ k has. ⊎_elim
        (λ same. ap (entry new) same ∙ gone)
        (λ other. kept k other ∙ ⊎_elim (λ before. part.gone k before) (λ last. ⊎_elim (λ same. absurd (other (sym same))) (λ none. absurd none) last) (IsMember-parts is (i ∷ []) k has))
        (cases_eq k i);
    entries = λ k apart. kept k (λ same. apart (IsMember-right is (i ∷ []) k (inl (sym same)))) ∙ part.entries k (λ before. apart (IsMember-left is (i ∷ []) k before));
  }

  -- The first items of `h` are removed, and the others are left.
  pub record IsPartlyEmptied (wraps : Gen → Bool) (following : Gen → Gen) (old now : A) (h : ℕ × Gen) (wrapped : Bool) : Type 0 where
    pub gone : List (Item Gen T)
    pub rest : List (Item Gen T)
    pub was : IsList state interlinks old h (gone ++ rest)
    pub list : IsList state interlinks now h rest
    pub removed : AreEntriesRemoved state interlinks old now following (indexes gone)
    pub others : KeepsOthers state interlinks old now (h ∷ [])
    pub size : count (view old) ≡ count (view now) + length gone
    pub overflow : IfSome (view old).counter (λ g. wraps_within wraps following (length gone) g ≡ wrapped)

  pub all_left : (wraps : Gen → Bool) (following : Gen → Gen) (old : A) (h : ℕ × Gen) → AllInLists state interlinks old → IsHandle (entry old) h → IsPartlyEmptied wraps following old old h false
  all_left wraps following old h all head =
      let list = all.lists h head in
      record {
        gone = [];
        rest = list.0;
        was = list.1;
        list = list.1;
        removed = record { view_after = refl; gone = λ i none. absurd none; entries = λ i apart. refl };
        others = λ k items none is. is;
        size = omega arith;
        overflow = none_wraps wraps following (view old).counter;
      }

  module _ {P I W : Type 0} (pointers : PointerKind P I Gen W) (old now new : A) (h p : P) (wrapped : Bool) (part : IsPartlyEmptied pointers.wraps pointers.following old now (pointers.key h) wrapped) (reads : ReadsFirst state interlinks pointers.key now h (Some p)) where
    first_left : (es : List (Item Gen T)) → IsList state interlinks now (pointers.key h) es → (e : Item Gen T) × (rest : List (Item Gen T)) × (es ≡ e ∷ rest) × (pointers.key p ≡ e.0) × HasItem (entry now) e.0 e.1
    first_left [] is = absurd (let some = reads.first [] is in cc)
    first_left (e ∷ es) is = (e, es, refl, one_some (reads.first (e ∷ es) is), is.are_stored.1.0)

    goes_on : (t : T) (overflow : Bool) → IfSome (view now).counter (λ g. pointers.wraps g ≡ overflow) → LeavesList state interlinks now new pointers (pointers.key p) t
        → IsPartlyEmptied pointers.wraps pointers.following old new (pointers.key h) (wrapped || overflow)
    goes_on t overflow reported is = by (first_left part.rest part.list)
      where
        by : (e : Item Gen T) × (rest : List (Item Gen T)) × (part.rest ≡ e ∷ rest) × (pointers.key p ≡ e.0) × HasItem (entry now) e.0 e.1 → IsPartlyEmptied pointers.wraps pointers.following old new (pointers.key h) (wrapped || overflow)
        by (e, rest, rest_is, same, stored) =
            let there = sym (subst (λ (k : ℕ × Gen). HasItem (entry now) k e.1) (sym same) stored) ∙ is.removed.0 in
            let value : e.1 ≡ t = let wrapped = ap (λ (x : Gen × Entry T). x.1) (one_some there) in cc in
            let item : e ≡ (pointers.key p, t) = ap (λ (k : ℕ × Gen). (k, e.1)) (sym same) ∙ ap (λ (u : T). (pointers.key p, u)) value in
            let left : part.rest ≡ (pointers.key p, t) ∷ rest = rest_is ∙ ap (λ (d : Item Gen T). d ∷ rest) item in
            let after = is.list (pointers.key h) [] rest (subst (IsList state interlinks now (pointers.key h)) left part.list) in
            let listed = map-append index_of part.gone ((pointers.key p, t) ∷ []) in
            let one_more : suc (length part.gone) ≡ length (part.gone ++ (pointers.key p, t) ∷ []) = omega (arith, length-append part.gone ((pointers.key p, t) ∷ [])) in
            record {
              gone = part.gone ++ (pointers.key p, t) ∷ [];
              rest = rest;
              was = subst (IsList state interlinks old (pointers.key h)) (ap (λ (l : List (Item Gen T)). part.gone ++ l) left ∙ sym (append_assoc part.gone ((pointers.key p, t) ∷ []) rest)) part.was;
              list = after.list;
              removed = subst (AreEntriesRemoved state interlinks old new pointers.following) (sym listed) (then_removed pointers.following old now new (indexes part.gone) (pointers.key p).0 part.removed is.removed.1 is.gone is.entries);
              others = λ k items none there. after.others k items none (part.others k items none there);
              size = omega (arith, part.size, is.size, length-append part.gone ((pointers.key p, t) ∷ []));
              overflow = subst (λ (n : ℕ). IfSome (view old).counter (λ g. wraps_within pointers.wraps pointers.following n g ≡ (wrapped || overflow))) one_more
                  (one_more_wraps pointers.wraps pointers.following (view old).counter (length part.gone) wrapped overflow part.overflow
                  (subst (λ (o : Option Gen). IfSome o (λ g. pointers.wraps g ≡ overflow)) (ap (λ (s : ArenaView Gen (Entry T)). s.counter) part.removed.view_after ∙ counter_left pointers.following (view old) (indexes part.gone) (length part.gone) (length-map part.gone index_of)) reported));
            }

    first_is_item : IsItem (entry now) (pointers.key p)
    first_is_item = by (first_left part.rest part.list)
      where
        by : (e : Item Gen T) × (rest : List (Item Gen T)) × (part.rest ≡ e ∷ rest) × (pointers.key p ≡ e.0) × HasItem (entry now) e.0 e.1 → IsItem (entry now) (pointers.key p)
        by (e, rest, rest_is, same, stored) = record { value = e.1; stored = subst (λ (k : ℕ × Gen). HasItem (entry now) k e.1) (sym same) stored }

    pub removal_goes_on : (r : InvalidationResult T) → RemovesListItem state interlinks pointers now p r new → IsPartlyEmptied pointers.wraps pointers.following old new (pointers.key h) (wrapped || is_overflow_result r)
    removal_goes_on outcome.InvalidPtr removes = absurd (removes.0 first_is_item)
    removal_goes_on (outcome.Success t) removes = goes_on t false removes.0 removes.1
    removal_goes_on (outcome.GenerationOverflow t) removes = goes_on t true removes.0 removes.1

    pub fewer_left : (r : InvalidationResult T) → RemovesListItem state interlinks pointers now p r new → count (view new) < count (view now)
    fewer_left outcome.InvalidPtr removes = absurd (removes.0 first_is_item)
    fewer_left (outcome.Success t) removes = omega (arith, removes.1.size)
    fewer_left (outcome.GenerationOverflow t) removes = omega (arith, removes.1.size)

  pub all_removed : {P : Type 0} (key : P → ℕ × Gen) (wraps : Gen → Bool) (following : Gen → Gen) (old now : A) (h : P) (n : ℕ) (wrapped : Bool) → IsPartlyEmptied wraps following old now (key h) wrapped → ReadsFirst state interlinks key now h None
      → n + count (view now) ≡ count (view old) → EmptiesList state interlinks wraps following old (key h) (n, wrapped) now
  all_removed key wraps following old now h n wrapped part reads total = by part.rest part.was part.list
    where
      by : (rest : List (Item Gen T)) → IsList state interlinks old (key h) (part.gone ++ rest) → IsList state interlinks now (key h) rest → EmptiesList state interlinks wraps following old (key h) (n, wrapped) now
      by [] was list = record { items = part.gone; was = subst (IsList state interlinks old (key h)) (append-nil part.gone) was; list = list; removed = part.removed; others = part.others; number = omega (arith, part.size, total); overflow = part.overflow }
      by (e ∷ es) was list = absurd (let none = reads.first (e ∷ es) list in cc)

  module _ {P I W : Type 0} (pointers : PointerKind P I Gen W) (old now new : A) (h : P) (n : ℕ × Bool) (emptied : EmptiesList state interlinks pointers.wraps pointers.following old (pointers.key h) n now) where
    empty : IsList state interlinks now (pointers.key h) []
    empty = emptied.list

    head_goes : (v : Entry T) → rings.IsItemRemoved state interlinks cyclic now new pointers (pointers.key h, v) → (k : ℕ × Gen) (items : List (Item Gen T)) → k ≢ pointers.key h → IsList state interlinks now k items → IsList state interlinks new k items
    head_goes v gone k items other is = gone.others (ring_of k items) ((λ has. other (same_handle state interlinks now k (pointers.key h) items [] (pointers.key h).0 is empty has (inl refl))), tt) is

    list_gone : (v : Entry T) → rings.IsItemRemoved state interlinks cyclic now new pointers (pointers.key h, v) → IsListRemoved state interlinks old new pointers.following (pointers.key h) emptied.items
    list_gone v gone = record {
      list = emptied.was;
      removed = then_removed pointers.following old now new (indexes emptied.items) (pointers.key h).0 emptied.removed gone.removed.1 gone.gone gone.entries;
      others = λ k items none is. head_goes v gone k items none.0 (emptied.others k items none is);
    }

    wraps_once : (overflow : Bool) → IfSome (view now).counter (λ g. pointers.wraps g ≡ overflow) → IfSome (view old).counter (λ g. wraps_within pointers.wraps pointers.following (suc (length emptied.items)) g ≡ (n.1 || overflow))
    wraps_once overflow reported = one_more_wraps pointers.wraps pointers.following (view old).counter (length emptied.items) n.1 overflow emptied.overflow
        (subst (λ (o : Option Gen). IfSome o (λ g. pointers.wraps g ≡ overflow)) (ap (λ (s : ArenaView Gen (Entry T)). s.counter) emptied.removed.view_after ∙ counter_left pointers.following (view old) (indexes emptied.items) (length emptied.items) (length-map emptied.items index_of)) reported)

    pub removes_list : (r : InvalidationResult (Entry T)) → rings.RemovesItem state interlinks cyclic pointers now h (value_within r) new → OnSome (value_within r) (IfSome (view now).counter (λ g. pointers.wraps g ≡ is_overflow_result r))
        → RemovesList state interlinks pointers.wraps pointers.following old (pointers.key h) (invalidation_result (n.1 || is_overflow_result r) (Some n.0)) new
    removes_list outcome.InvalidPtr removes reported = absurd (removes.0 (head_valid (entry now) (pointers.key h) empty.are_stored.0))
    removes_list (outcome.Success v) gone reported = (emptied.items, reports _ _ _ _ (n.1 || false) n.0 (wraps_once false reported) (list_gone v gone, emptied.number))
    removes_list (outcome.GenerationOverflow v) gone reported = (emptied.items, reports _ _ _ _ (n.1 || true) n.0 (wraps_once true reported) (list_gone v gone, emptied.number))

    pub each_list_removed : EachInList state interlinks now → (r : Option (Entry T)) → rings.RemovesItem state interlinks cyclic pointers now h r new → EachInList state interlinks new
    each_list_removed each None removes i some = absurd (removes.0 (head_valid (entry now) (pointers.key h) empty.are_stored.0))
    each_list_removed each (Some v) gone i some =
        let other : i ≢ (pointers.key h).0 = λ same. absurd (let none = ap is_some (ap (entry new) same ∙ gone.gone) in let both = sym some ∙ none in cc) in
        let at = each i (ap is_some (sym (gone.entries i other)) ∙ some) in
        record {
          handle = at.handle;
          items = at.items;
          list = head_goes v gone at.handle at.items (λ same. only_head_left at.handle at.items at.list same i at.among other) at.list;
          among = at.among;
        }
      where
        only_head_left : (k : ℕ × Gen) (items : List (Item Gen T)) → IsList state interlinks now k items → k ≡ pointers.key h → (j : ℕ) → IsMember (indexes (ring_of k items)) j → j ≢ (pointers.key h).0 → ⊥
        only_head_left k items is same j has not_h = ⊎_elim (λ head. not_h (sym head)) (λ none. absurd none) (links_of_handle state interlinks now k (pointers.key h) items [] j is empty same has)
