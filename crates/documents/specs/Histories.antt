-- Calls on documents keep the paragraphs.
use Rattle.std.specs.Prelude.{◌≡◌, ◌⊎◌, ℕ, List, [], ◌∷◌, Option, Some, IsSome, Result, Ok}
use Rattle.arena_core.specs.Invalidation.{value_within}
use Rattle.arena_core.specs.PointerKinds.{PointerKind}
use Rattle.arena_core.specs.declared.errors.ReallocationError.{ReallocationError}
use Rattle.arena_core.specs.declared.invalidation.InvalidationResult.{InvalidationResult}
use Rattle.chain_laws.specs.Chains.{LinkMap}
use Rattle.arena_traits.specs.Entries.{ArenaView, ArenaState}
use Rattle.arena_traits.specs.CallOutcomes.{IsEntryInserted}
use Rattle.chain_lists.specs.Lists.{Item}
use Rattle.chain_lists.specs.Sizes.{ReservesMore}
use Rattle.linked_lists.specs.declared.entry.Entry.{Entry}
use Rattle.linked_lists.specs.declared.entry.Entry.TheVariants as entries
use Rattle.linked_lists.specs.LinkedLists.{IsItem, IsInListOf, HasPlace, AllInLists, KeepsEntries, ValueBecomes, LeavesList, IsListRemoved, CreatesList, PushesFront, PushesBack, InsertsAfterItem, InsertsBeforeItem, ReplacesItem, MovesToFront, MovesToBack, MovesAfterItem, MovesRangeToFront, MovesRangeToBack, MovesRangeAfter, JoinsLists, SplitsList, RemovesListItem, RemovesList}

-- A call that succeeded; others change nothing.
pub data Change (Gen : Type 0) : Type 0 where
  creates : (d : ℕ × Gen) → Change Gen
  inserts : (p : ℕ × Gen) → Change Gen
  replaces : (p : ℕ × Gen) → Change Gen
  moves : Change Gen
  removes : (p : ℕ × Gen) → Change Gen
  removes_document : (d : ℕ × Gen) → Change Gen
  grows : Change Gen

module _ {A Gen T : Type 0} {view : A → ArenaView Gen (Entry T)} {entry : A → ℕ → Option (Gen × Entry T)} (state : (a : A) → ArenaState (view a) (entry a)) (interlinks : A → LinkMap)
    {P I W : Type 0} (pointers : PointerKind P I Gen W) where
  -- What each change states of the paragraphs, whatever document they are in.
  abbrev pub Makes : A → Change Gen → A → Type 0
  Makes old (creates d) new = IsEntryInserted state old entries.Head d new
  Makes old (inserts p) new = (t : T) × IsEntryInserted state old (entries.Item t) p new
  Makes old (replaces p) new = (t : T) × ValueBecomes state interlinks old new p t
  Makes old moves new = KeepsEntries state interlinks old new
  Makes old (removes p) new = (t : T) × LeavesList state interlinks old new pointers p t
  Makes old (removes_document d) new = (paragraphs : List (Item Gen T)) × IsListRemoved state interlinks old new pointers.following d paragraphs
  Makes old grows new = (entry new ≡ entry old) × (interlinks new ≡ interlinks old)

  -- The contract of each call that succeeds states its change.
  pub record CallsMakeChanges {H : Type 0} (key : H → ℕ × Gen) : Type 0 where
    pub new_list : (greatest : ℕ) (old new : A) (d : H) → CreatesList state interlinks key greatest old (Ok d) new → Makes old (creates (key d)) new
    pub push_front : (greatest : ℕ) (old new : A) (d p : P) (t : T) → PushesFront state interlinks pointers.key greatest old d t (Ok p) new → Makes old (inserts (pointers.key p)) new
    pub push_back : (greatest : ℕ) (old new : A) (d p : P) (t : T) → PushesBack state interlinks pointers.key greatest old d t (Ok p) new → Makes old (inserts (pointers.key p)) new
    pub insert_after : (greatest : ℕ) (old new : A) (q p : P) (t : T) → InsertsAfterItem state interlinks pointers.key greatest old q t (Ok p) new → Makes old (inserts (pointers.key p)) new
    pub insert_before : (greatest : ℕ) (old new : A) (q p : P) (t : T) → InsertsBeforeItem state interlinks pointers.key greatest old q t (Ok p) new → Makes old (inserts (pointers.key p)) new
    pub replace : (old new : A) (p : ℕ × Gen) (t former : T) → ReplacesItem state interlinks old p t (Some former) new → Makes old (replaces p) new
    pub move_to_front : (old new : A) (p d : ℕ × Gen) → MovesToFront state interlinks old p d (Some tt) new → Makes old moves new
    pub move_to_back : (old new : A) (p d : ℕ × Gen) → MovesToBack state interlinks old p d (Some tt) new → Makes old moves new
    pub move_after : (old new : A) (p q : ℕ × Gen) → MovesAfterItem state interlinks old p q (Some tt) new → Makes old moves new
    pub move_range_to_front : (old new : A) (first last d : ℕ × Gen) → MovesRangeToFront state interlinks old first last d (Some tt) new → Makes old moves new
    pub move_range_to_back : (old new : A) (first last d : ℕ × Gen) → MovesRangeToBack state interlinks old first last d (Some tt) new → Makes old moves new
    pub move_range_after : (old new : A) (first last q : ℕ × Gen) → MovesRangeAfter state interlinks old first last q (Some tt) new → Makes old moves new
    pub join : (old new : A) (d e : ℕ × Gen) → JoinsLists state interlinks old d e (Some tt) new → Makes old moves new
    pub split_at : (greatest : ℕ) (old new : A) (p : P) (d : H) → SplitsList state interlinks pointers.key key greatest old p (Ok (Some d)) new → Makes old (creates (key d)) new
    pub remove : (old new : A) (p : P) (result : InvalidationResult T) → IsSome (value_within result) → RemovesListItem state interlinks pointers old p result new → Makes old (removes (pointers.key p)) new
    pub remove_list : (old new : A) (d : ℕ × Gen) (result : InvalidationResult ℕ) → IsSome (value_within result) → RemovesList state interlinks pointers.wraps pointers.following old d result new → Makes old (removes_document d) new
    pub reserve : (greatest additional : ℕ) (old new : A) (done : Result Unit ReallocationError) → ReservesMore state interlinks greatest additional old done new → Makes old grows new

  -- Changes in order; in each state, each paragraph is in exactly one document.
  abbrev pub History : A → List (Change Gen) → A → Type 0
  History old [] new = AllInLists state interlinks old × (new ≡ old)
  History old (change ∷ changes) new = AllInLists state interlinks old × (mid : A) × Makes old change mid × History mid changes new

  -- The change removes `p`, alone or with its document.
  abbrev pub Removes : A → Change Gen → ℕ × Gen → Type 0
  Removes old (creates d) p = ⊥
  Removes old (inserts q) p = ⊥
  Removes old (replaces q) p = ⊥
  Removes old moves p = ⊥
  Removes old (removes q) p = q ≡ p
  Removes old (removes_document d) p = IsInListOf state interlinks old d p
  Removes old grows p = ⊥

  -- One of the changes removes `p`.
  abbrev pub OneRemoves : (old : A) (changes : List (Change Gen)) (new : A) → History old changes new → ℕ × Gen → Type 0
  OneRemoves old [] new history p = ⊥
  OneRemoves old (change ∷ changes) new history p = Removes old change p ⊎ OneRemoves history.1 changes new history.3 p

  -- After any calls, each earlier paragraph is in exactly one document, at one place, unless a call
  -- removed it.
  abbrev pub CallsKeepParagraphs : Type 0
  CallsKeepParagraphs = (old new : A) (changes : List (Change Gen)) (p : ℕ × Gen) (history : History old changes new) → IsItem (entry old) p
      → OneRemoves old changes new history p ⊎ ((t : T) × HasPlace state interlinks new p t × AllInLists state interlinks new)
