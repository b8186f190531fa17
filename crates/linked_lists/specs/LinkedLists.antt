-- Lists, and what their calls read and change.
use Rattle.std.specs.Prelude.{◌≡◌, ◌≢◌, ◌↔◌, ℕ, suc, ◌+◌, Bool, List, [], ◌∷◌, ◌++◌, map, length, IsSome, IfSome, OnErr, Option, None, Some, Result, Ok, Err}
use Rattle.std.specs.Option.{option_map}
use Rattle.std.specs.Borrow.{Bor}
use Rattle.arena_core.specs.PointerKinds.{PointerKind}
use Rattle.arena_core.specs.declared.errors.ChainInsertionError.{ChainInsertionError}
use Rattle.arena_core.specs.declared.errors.ReallocationError.{ReallocationError}
use Rattle.arena_core.specs.declared.invalidation.InvalidationResult.{InvalidationResult}
use Rattle.chain_laws.specs.Chains.{LinkMap, IsMember}
use Rattle.arena_traits.specs.Entries.{ArenaView, ArenaState, count, first_key, last_key, view_with_value, view_after_removal}
use Rattle.arena_traits.specs.CallOutcomes.{IsEntryInserted, IsEntryRemoved, ReportsOverflow, wraps_within}
use Rattle.arena_traits.specs.Growth.{IsGrowthResult, RefusesOneMore, GrowsForOneMore}
use Rattle.chain_links.specs.Insertions.{IsInsertionResult}
use Rattle.chain_lists.specs.Lists.{Item, indexes, IsRing}
use Rattle.linked_lists.specs.declared.entry.Entry.{Entry}
use Rattle.linked_lists.specs.declared.entry.Entry.TheVariants as entries

-- `k` is none of these.
abbrev pub IsNoneOf : {Gen : Type 0} → List (ℕ × Gen) → ℕ × Gen → Type 0
IsNoneOf [] k = Unit {0}
IsNoneOf (h ∷ hs) k = (k ≢ h) × IsNoneOf hs k

-- The view after removals at these indexes, in order.
abbrev pub view_after_removals : {Gen V : Type 0} → (Gen → Gen) → ArenaView Gen V → List ℕ → ArenaView Gen V
view_after_removals following s [] = s
view_after_removals following s (i ∷ rest) = view_after_removals following (view_after_removal following s i) rest

module _ {Gen T : Type 0} where
  -- The entry of an item; the ring of a list, head first.
  abbrev pub as_item : Item Gen T → Item Gen (Entry T)
  as_item e = (e.0, entries.Item e.1)

  abbrev pub ring_of : ℕ × Gen → List (Item Gen T) → List (Item Gen (Entry T))
  ring_of h items = (h, entries.Head) ∷ map as_item items

  abbrev pub pointers_of : List (Item Gen T) → List (ℕ × Gen)
  pointers_of items = map (λ e. e.0) items

  -- The range is from `first` to `last`.
  abbrev pub HasEnds : List (Item Gen T) → (first last : ℕ × Gen) → Type 0
  HasEnds range first last = (first_key range ≡ Some first) × (last_key range ≡ Some last)

  -- `h` is a handle.
  abbrev pub IsHandle : (ℕ → Option (Gen × Entry T)) → ℕ × Gen → Type 0
  IsHandle entry h = entry h.0 ≡ Some (h.1, entries.Head)

  -- `p` is an item with the value `t`.
  abbrev pub HasItem : (ℕ → Option (Gen × Entry T)) → ℕ × Gen → T → Type 0
  HasItem entry p t = entry p.0 ≡ Some (p.1, entries.Item t)

  -- `p` is an item.
  pub record IsItem (entry : ℕ → Option (Gen × Entry T)) (p : ℕ × Gen) : Type 0 where
    pub value : T
    pub stored : HasItem entry p value

  -- `get`: the value of `p`.
  pub record ReadsValue (entry : ℕ → Option (Gen × Entry T)) (p : ℕ × Gen) (result : Option (Bor T)) : Type 0 where
    pub some : IsSome result ↔ IsItem entry p
    pub value : IfSome result (λ t. HasItem entry p t.now)

module _ {A Gen T : Type 0} {view : A → ArenaView Gen (Entry T)} {entry : A → ℕ → Option (Gen × Entry T)} (state : (a : A) → ArenaState (view a) (entry a)) (interlinks : A → LinkMap) where
  module _ (arena : A) where
    -- The list of `h` is these items, in order.
    abbrev pub IsList : ℕ × Gen → List (Item Gen T) → Type 0
    IsList h items = IsRing state interlinks arena (ring_of h items)

    -- The index is that of a handle or item of a list.
    pub record IsInList (i : ℕ) : Type 0 where
      pub handle : ℕ × Gen
      pub items : List (Item Gen T)
      pub list : IsList handle items
      pub among : IsMember (indexes (ring_of handle items)) i

    -- Each entry is in a list.
    abbrev pub EachInList : Type 0
    EachInList = (i : ℕ) → IsSome (entry arena i) → IsInList i

    -- `p` is in a list.
    pub record HasPlace (p : ℕ × Gen) (t : T) : Type 0 where
      pub handle : ℕ × Gen
      pub before : List (Item Gen T)
      pub after : List (Item Gen T)
      pub list : IsList handle (before ++ (p, t) ∷ after)

    -- Each handle has a list, each item is in one, and lists share no index.
    pub record AllInLists : Type 0 where
      pub lists : (h : ℕ × Gen) → IsHandle (entry arena) h → (items : List (Item Gen T)) × IsList h items
      pub items : (p : ℕ × Gen) (t : T) → HasItem (entry arena) p t → HasPlace p t
      pub once : (h k : ℕ × Gen) (xs ys : List (Item Gen T)) (i : ℕ) → IsList h xs → IsList k ys
          → IsMember (indexes (ring_of h xs)) i → IsMember (indexes (ring_of k ys)) i → (h ≡ k) × (xs ≡ ys)

    -- `first` to `last` are successive items of one list, none of them `q`.
    pub record IsRangeWithout (first last q : ℕ × Gen) : Type 0 where
      pub handle : ℕ × Gen
      pub before : List (Item Gen T)
      pub range : List (Item Gen T)
      pub after : List (Item Gen T)
      pub list : IsList handle (before ++ range ++ after)
      pub ends : HasEnds range first last
      pub apart : IsNoneOf (pointers_of range) q

    -- `p` is an item of the list of `h`.
    pub record IsInListOf (h p : ℕ × Gen) : Type 0 where
      pub value : T
      pub before : List (Item Gen T)
      pub after : List (Item Gen T)
      pub list : IsList h (before ++ (p, value) ∷ after)

  module _ (old new : A) where
    -- Lists with other handles keep their items.
    abbrev pub KeepsOthers : List (ℕ × Gen) → Type 0
    KeepsOthers hs = (k : ℕ × Gen) (items : List (Item Gen T)) → IsNoneOf hs k → IsList old k items → IsList new k items

    -- The list of `h` gets these items, others keep theirs.
    pub record Becomes (h : ℕ × Gen) (items : List (Item Gen T)) : Type 0 where
      pub list : IsList new h items
      pub others : KeepsOthers (h ∷ [])

    -- `e` is inserted at the start or end of `h`, or beside `p`.
    abbrev pub GrowsAtStart : ℕ × Gen → Item Gen T → Type 0
    GrowsAtStart h e = (items : List (Item Gen T)) → IsList old h items → Becomes h (e ∷ items)

    abbrev pub GrowsAtEnd : ℕ × Gen → Item Gen T → Type 0
    GrowsAtEnd h e = (items : List (Item Gen T)) → IsList old h items → Becomes h (items ++ e ∷ [])

    abbrev pub GrowsAfter : ℕ × Gen → Item Gen T → Type 0
    GrowsAfter p e = (h : ℕ × Gen) (t : T) (before after : List (Item Gen T)) → IsList old h (before ++ (p, t) ∷ after) → Becomes h (before ++ (p, t) ∷ e ∷ after)

    abbrev pub GrowsBefore : ℕ × Gen → Item Gen T → Type 0
    GrowsBefore p e = (h : ℕ × Gen) (t : T) (before after : List (Item Gen T)) → IsList old h (before ++ (p, t) ∷ after) → Becomes h (before ++ e ∷ (p, t) ∷ after)

    -- `h` is the handle of a new, empty list.
    pub record IsListStarted (h : ℕ × Gen) : Type 0 where
      pub list : IsList new h []
      pub head : IsEntryInserted state old entries.Head h new
      pub others : KeepsOthers []

    -- `e` is inserted as `grows` states.
    pub record IsItemAdded (grows : Item Gen T → Type 0) (e : Item Gen T) : Type 0 where
      pub list : grows e
      pub item : IsEntryInserted state old (entries.Item e.1) e.0 new

    -- The value of `p` becomes `t`; pointers and orders are unchanged.
    pub record ValueBecomes (p : ℕ × Gen) (t : T) : Type 0 where
      pub list : (h : ℕ × Gen) (s : T) (before after : List (Item Gen T)) → IsList old h (before ++ (p, s) ∷ after) → Becomes h (before ++ (p, t) ∷ after)
      pub view_after : view new ≡ view_with_value (view old) p.0 (entries.Item t)
      pub links : interlinks new ≡ interlinks old

    -- The item `p` is removed.
    pub record LeavesList {P I W : Type 0} (pointers : PointerKind P I Gen W) (p : ℕ × Gen) (t : T) : Type 0 where
      pub removed : IsEntryRemoved state pointers old p.0 p.1 (entries.Item t) new
      pub list : (h : ℕ × Gen) (before after : List (Item Gen T)) → IsList old h (before ++ (p, t) ∷ after) → Becomes h (before ++ after)
      pub gone : entry new p.0 ≡ None
      pub entries : (i : ℕ) → i ≢ p.0 → entry new i ≡ entry old i
      pub size : count (view old) ≡ count (view new) + 1

    -- Exactly the entries at these indexes are removed.
    pub record AreEntriesRemoved (following : Gen → Gen) (removed : List ℕ) : Type 0 where
      pub view_after : view new ≡ view_after_removals following (view old) removed
      pub gone : (i : ℕ) → IsMember removed i → entry new i ≡ None
      pub entries : (i : ℕ) → (IsMember removed i → ⊥) → entry new i ≡ entry old i

    -- The items of `h` are removed in order, then its head.
    pub record IsListRemoved (following : Gen → Gen) (h : ℕ × Gen) (items : List (Item Gen T)) : Type 0 where
      pub list : IsList old h items
      pub removed : AreEntriesRemoved following (indexes items ++ h.0 ∷ [])
      pub others : KeepsOthers (h ∷ [])

    -- The entries, the counter and the capacity are unchanged.
    abbrev pub KeepsEntries : Type 0
    KeepsEntries = (entry new ≡ entry old) × (view new ≡ view old)

    -- `p` is moved; `place` relates handle, item, and list without and with it.
    pub record IsItemMoved (p : ℕ × Gen) (place : ℕ × Gen → Item Gen T → List (Item Gen T) → List (Item Gen T) → Type 0) : Type 0 where
      pub within : (h : ℕ × Gen) (t : T) (before after items : List (Item Gen T)) → IsList old h (before ++ (p, t) ∷ after)
          → place h (p, t) (before ++ after) items → Becomes h items
      pub between : (h k : ℕ × Gen) (t : T) (before after others items : List (Item Gen T)) → h ≢ k → IsList old h (before ++ (p, t) ∷ after) → IsList old k others
          → place k (p, t) others items → IsList new h (before ++ after) × IsList new k items × KeepsOthers (h ∷ k ∷ [])
      pub entries : KeepsEntries

    -- A range is moved; `place` relates handle, range, and list without and with it.
    pub record IsRangeMoved (first last : ℕ × Gen) (place : ℕ × Gen → List (Item Gen T) → List (Item Gen T) → List (Item Gen T) → Type 0) : Type 0 where
      pub within : (h : ℕ × Gen) (before range after items : List (Item Gen T)) → HasEnds range first last → IsList old h (before ++ range ++ after)
          → place h range (before ++ after) items → Becomes h items
      pub between : (h k : ℕ × Gen) (before range after others items : List (Item Gen T)) → h ≢ k → HasEnds range first last → IsList old h (before ++ range ++ after)
          → IsList old k others → place k range others items → IsList new h (before ++ after) × IsList new k items × KeepsOthers (h ∷ k ∷ [])
      pub entries : KeepsEntries

    -- The items of `k` are moved behind those of `h`.
    pub record AreJoined (h k : ℕ × Gen) : Type 0 where
      pub lists : (xs ys : List (Item Gen T)) → IsList old h xs → IsList old k ys → IsList new h (xs ++ ys) × IsList new k []
      pub others : KeepsOthers (h ∷ k ∷ [])
      pub entries : KeepsEntries

    -- The items from `p` on are moved to the new list of `q`.
    pub record IsSplit (p q : ℕ × Gen) : Type 0 where
      pub lists : (h : ℕ × Gen) (t : T) (before after : List (Item Gen T)) → IsList old h (before ++ (p, t) ∷ after)
          → Becomes h before × IsList new q ((p, t) ∷ after)
      pub head : IsEntryInserted state old entries.Head q new

module _ {Gen T : Type 0} where
  -- An item is at the start or end of `h`, or directly after `q`.
  abbrev pub AtStart : ℕ × Gen → ℕ × Gen → Item Gen T → List (Item Gen T) → List (Item Gen T) → Type 0
  AtStart h k e others items = (k ≡ h) × (items ≡ e ∷ others)

  abbrev pub AtEnd : ℕ × Gen → ℕ × Gen → Item Gen T → List (Item Gen T) → List (Item Gen T) → Type 0
  AtEnd h k e others items = (k ≡ h) × (items ≡ others ++ e ∷ [])

  abbrev pub DirectlyAfter : ℕ × Gen → ℕ × Gen → Item Gen T → List (Item Gen T) → List (Item Gen T) → Type 0
  DirectlyAfter q k e others items = (s : T) × (x : List (Item Gen T)) × (y : List (Item Gen T)) × (others ≡ x ++ (q, s) ∷ y) × (items ≡ x ++ (q, s) ∷ e ∷ y)

  -- A range is at the start or end of `h`, or directly after `q`.
  abbrev pub RangeAtStart : ℕ × Gen → ℕ × Gen → List (Item Gen T) → List (Item Gen T) → List (Item Gen T) → Type 0
  RangeAtStart h k range others items = (k ≡ h) × (items ≡ range ++ others)

  abbrev pub RangeAtEnd : ℕ × Gen → ℕ × Gen → List (Item Gen T) → List (Item Gen T) → List (Item Gen T) → Type 0
  RangeAtEnd h k range others items = (k ≡ h) × (items ≡ others ++ range)

  abbrev pub RangeAfter : ℕ × Gen → ℕ × Gen → List (Item Gen T) → List (Item Gen T) → List (Item Gen T) → Type 0
  RangeAfter q k range others items = (s : T) × (x : List (Item Gen T)) × (y : List (Item Gen T)) × (others ≡ x ++ (q, s) ∷ y) × (items ≡ x ++ (q, s) ∷ range ++ y)

module _ {A Gen T : Type 0} {view : A → ArenaView Gen (Entry T)} {entry : A → ℕ → Option (Gen × Entry T)} (state : (a : A) → ArenaState (view a) (entry a)) (interlinks : A → LinkMap) where
  module _ {P : Type 0} (key : P → ℕ × Gen) where
    -- `first`, `last`: the first or last item of `h`.
    pub record ReadsFirst (arena : A) (h : P) (result : Option P) : Type 0 where
      pub none : ¬ IsHandle (entry arena) (key h) → result ≡ None
      pub first : (items : List (Item Gen T)) → IsList state interlinks arena (key h) items → option_map key result ≡ first_key items

    pub record ReadsLast (arena : A) (h : P) (result : Option P) : Type 0 where
      pub none : ¬ IsHandle (entry arena) (key h) → result ≡ None
      pub last : (items : List (Item Gen T)) → IsList state interlinks arena (key h) items → option_map key result ≡ last_key items

    -- `next`, `prev`: the item after or before `p`.
    pub record ReadsNext (arena : A) (p : P) (result : Option P) : Type 0 where
      pub none : ¬ IsItem (entry arena) (key p) → result ≡ None
      pub next : (h : ℕ × Gen) (t : T) (before after : List (Item Gen T)) → IsList state interlinks arena h (before ++ (key p, t) ∷ after) → option_map key result ≡ first_key after

    pub record ReadsPrev (arena : A) (p : P) (result : Option P) : Type 0 where
      pub none : ¬ IsItem (entry arena) (key p) → result ≡ None
      pub prev : (h : ℕ × Gen) (t : T) (before after : List (Item Gen T)) → IsList state interlinks arena h (before ++ (key p, t) ∷ after) → option_map key result ≡ last_key before

    -- `list_of`: the handle of the list of `p`.
    pub record ReadsHandle {H : Type 0} (handle_key : H → ℕ × Gen) (arena : A) (p : P) (result : Option H) : Type 0 where
      pub none : ¬ IsItem (entry arena) (key p) → result ≡ None
      pub handle : (h : ℕ × Gen) (t : T) (before after : List (Item Gen T)) → IsList state interlinks arena h (before ++ (key p, t) ∷ after) → option_map handle_key result ≡ Some h

    -- `walk`: the pointers of the items of `h`.
    abbrev pub ListsItems : A → P → List P → Type 0
    ListsItems arena h pointers = (items : List (Item Gen T)) × IsList state interlinks arena (key h) items × (map key pointers ≡ pointers_of items)

    -- `new_list`: an empty list is created, after growth if needed.
    pub record CreatesList (greatest : ℕ) (old : A) (result : Result P ReallocationError) (new : A) : Type 0 where
      pub outcome : IsGrowthResult (RefusesOneMore (view old)) (λ q. IsListStarted state interlinks old new (key q) × GrowsForOneMore greatest (view old) (view new)) result
      pub err : OnErr result (new ≡ old)

    -- `t` is inserted, after growth if needed, provided `may`.
    pub record AddsItem (greatest : ℕ) (may : Type 0) (grows : A → A → Item Gen T → Type 0) (old : A) (t : T) (result : Result P ChainInsertionError) (new : A) : Type 0 where
      pub outcome : IsInsertionResult may (RefusesOneMore (view old)) (λ q. IsItemAdded state interlinks old new (grows old new) (key q, t) × GrowsForOneMore greatest (view old) (view new)) result
      pub err : OnErr result (new ≡ old)

    abbrev pub PushesFront : ℕ → A → P → T → Result P ChainInsertionError → A → Type 0
    PushesFront greatest old h t result new = AddsItem greatest (IsHandle (entry old) (key h)) (λ a b. GrowsAtStart state interlinks a b (key h)) old t result new

    abbrev pub PushesBack : ℕ → A → P → T → Result P ChainInsertionError → A → Type 0
    PushesBack greatest old h t result new = AddsItem greatest (IsHandle (entry old) (key h)) (λ a b. GrowsAtEnd state interlinks a b (key h)) old t result new

    abbrev pub InsertsAfterItem : ℕ → A → P → T → Result P ChainInsertionError → A → Type 0
    InsertsAfterItem greatest old p t result new = AddsItem greatest (IsItem (entry old) (key p)) (λ a b. GrowsAfter state interlinks a b (key p)) old t result new

    abbrev pub InsertsBeforeItem : ℕ → A → P → T → Result P ChainInsertionError → A → Type 0
    InsertsBeforeItem greatest old p t result new = AddsItem greatest (IsItem (entry old) (key p)) (λ a b. GrowsBefore state interlinks a b (key p)) old t result new

    -- `split_at`: the items from `p` on are moved to a new list.
    abbrev pub SplitsList : {H : Type 0} → (H → ℕ × Gen) → ℕ → A → P → Result (Option H) ReallocationError → A → Type 0
    SplitsList handle_key greatest old p (Ok None) new = (IsItem (entry old) (key p) → ⊥) × (new ≡ old)
    SplitsList handle_key greatest old p (Ok (Some h)) new =
        IsItem (entry old) (key p) × IsSplit state interlinks old new (key p) (handle_key h) × GrowsForOneMore greatest (view old) (view new)
    SplitsList handle_key greatest old p (Err why) new = IsItem (entry old) (key p) × RefusesOneMore (view old) why × (new ≡ old)

  -- `replace`: the value of `p` becomes `t`.
  abbrev pub ReplacesItem : A → ℕ × Gen → T → Option T → A → Type 0
  ReplacesItem old p t None new = (IsItem (entry old) p → ⊥) × (new ≡ old)
  ReplacesItem old p t (Some former) new = HasItem (entry old) p former × ValueBecomes state interlinks old new p t

  -- `remove`: `p` is removed, and an overflow is reported.
  abbrev pub RemovesListItem : {P I W : Type 0} → PointerKind P I Gen W → A → P → InvalidationResult T → A → Type 0
  RemovesListItem pointers old p result new =
      ReportsOverflow pointers.wraps (view old).counter ((IsItem (entry old) (pointers.key p) → ⊥) × (new ≡ old)) (λ t. LeavesList state interlinks old new pointers (pointers.key p) t) result

  -- `move_to_front`, `move_to_back`: `p` is moved to the start or the end of `h`.
  abbrev pub MovesToFront : A → (p h : ℕ × Gen) → Option Unit → A → Type 0
  MovesToFront old p h None new = (IsItem (entry old) p × IsHandle (entry old) h → ⊥) × (new ≡ old)
  MovesToFront old p h (Some done) new = IsItem (entry old) p × IsHandle (entry old) h × IsItemMoved state interlinks old new p (AtStart h)

  abbrev pub MovesToBack : A → (p h : ℕ × Gen) → Option Unit → A → Type 0
  MovesToBack old p h None new = (IsItem (entry old) p × IsHandle (entry old) h → ⊥) × (new ≡ old)
  MovesToBack old p h (Some done) new = IsItem (entry old) p × IsHandle (entry old) h × IsItemMoved state interlinks old new p (AtEnd h)

  -- `move_after`: `p` is moved directly behind `q`, another item.
  abbrev pub MovesAfterItem : A → (p q : ℕ × Gen) → Option Unit → A → Type 0
  MovesAfterItem old p q None new = (IsItem (entry old) p × IsItem (entry old) q × (p ≢ q) → ⊥) × (new ≡ old)
  MovesAfterItem old p q (Some done) new = IsItem (entry old) p × IsItem (entry old) q × (p ≢ q) × IsItemMoved state interlinks old new p (DirectlyAfter q)

  abbrev pub MovesRangeToFront : A → (first last h : ℕ × Gen) → Option Unit → A → Type 0
  MovesRangeToFront old first last h None new = (IsHandle (entry old) h → ⊥) × (new ≡ old)
  MovesRangeToFront old first last h (Some done) new = IsHandle (entry old) h × IsRangeMoved state interlinks old new first last (RangeAtStart h)

  abbrev pub MovesRangeToBack : A → (first last h : ℕ × Gen) → Option Unit → A → Type 0
  MovesRangeToBack old first last h None new = (IsHandle (entry old) h → ⊥) × (new ≡ old)
  MovesRangeToBack old first last h (Some done) new = IsHandle (entry old) h × IsRangeMoved state interlinks old new first last (RangeAtEnd h)

  abbrev pub MovesRangeAfter : A → (first last q : ℕ × Gen) → Option Unit → A → Type 0
  MovesRangeAfter old first last q None new = (IsItem (entry old) q → ⊥) × (new ≡ old)
  MovesRangeAfter old first last q (Some done) new = IsItem (entry old) q × IsRangeMoved state interlinks old new first last (RangeAfter q)

  -- `join`: the items of `k` are moved behind those of `h`, another list.
  abbrev pub JoinsLists : A → (h k : ℕ × Gen) → Option Unit → A → Type 0
  JoinsLists old h k None new = (IsHandle (entry old) h × IsHandle (entry old) k × (h ≢ k) → ⊥) × (new ≡ old)
  JoinsLists old h k (Some done) new = IsHandle (entry old) h × IsHandle (entry old) k × (h ≢ k) × AreJoined state interlinks old new h k

  -- `remove_list`: `h` is removed, and an overflow is reported.
  abbrev pub RemovesList : (Gen → Bool) → (Gen → Gen) → A → ℕ × Gen → InvalidationResult ℕ → A → Type 0
  RemovesList wraps following old h result new = (items : List (Item Gen T)) × ReportsOverflow (wraps_within wraps following (suc (length items))) (view old).counter ((IsHandle (entry old) h → ⊥) × (new ≡ old))
      (λ n. IsListRemoved state interlinks old new following h items × (n ≡ length items)) result
