-- Lists of items in an arena.
use Rattle.std.specs.Prelude.{◌≡◌, ◌≢◌, ◌↔◌, ℕ, ◌+◌, List, [], ◌∷◌, ◌++◌, map, IsSome, IfSome, OnErr, Option, None, Some, Result}
use Rattle.std.specs.Borrow.{Bor}
use Rattle.arena_core.specs.PointerKinds.{PointerKind}
use Rattle.arena_core.specs.declared.errors.ChainInsertionError.{ChainInsertionError}
use Rattle.arena_core.specs.declared.errors.ReallocationError.{ReallocationError}
use Rattle.chain_laws.specs.Chains.{LinkMap, Chain, linear, cyclic, IsChain}
use Rattle.chain_laws.specs.Frame.{IsDisjointFrom}
use Rattle.arena_traits.specs.Arena.{IsValid}
use Rattle.arena_traits.specs.Entries.{ArenaView, ArenaState, count, index_of, view_with_value}
use Rattle.arena_traits.specs.CallOutcomes.{IsEntryInserted, IsEntryRemoved}
use Rattle.arena_traits.specs.Growth.{IsGrowthResult, RefusesOneMore, GrowsForOneMore}
use Rattle.chain_links.specs.Insertions.{IsInsertionResult}

-- An index, a generation and a value.
abbrev pub Item : Type 0 → Type 0 → Type 0
Item Gen T = (ℕ × Gen) × T

module _ {Gen T : Type 0} where
  abbrev pub indexes : List (Item Gen T) → List ℕ
  indexes items = map index_of items

  -- Each item is stored at its index, with its generation.
  abbrev pub AreEntries : (ℕ → Option (Gen × T)) → List (Item Gen T) → Type 0
  AreEntries entry [] = Unit {0}
  AreEntries entry (e ∷ items) = (entry e.0.0 ≡ Some (e.0.1, e.1)) × AreEntries entry items

  -- The value of the item of `p`, if `p` is valid.
  abbrev pub ReadsItem : (ℕ → Option (Gen × T)) → ℕ × Gen → Option (Bor T) → Type 0
  ReadsItem entry p result = record {
    some : IsSome result ↔ IsValid entry p;
    value : IfSome result (λ t. entry p.0 ≡ Some (p.1, t.now));
  }

module _ {A Gen T : Type 0} {view : A → ArenaView Gen T} {entry : A → ℕ → Option (Gen × T)} (state : (a : A) → ArenaState (view a) (entry a)) (interlinks : A → LinkMap) where
  -- The items are exactly one chain of the arena, by `shape`.
  pub record IsListOf (shape : List ℕ → Chain) (arena : A) (items : List (Item Gen T)) : Type 0 where
    pub chain : IsChain (interlinks arena) (shape (indexes items))
    pub are_stored : AreEntries (entry arena) items

  -- A text is a linear list; a ring is a cyclic one, from any item.
  abbrev pub IsText : A → List (Item Gen T) → Type 0
  IsText = IsListOf linear

  abbrev pub IsRing : A → List (Item Gen T) → Type 0
  IsRing = IsListOf cyclic

  module _ (shape : List ℕ → Chain) (old new : A) where
    abbrev pub KeepsWithout : List (ℕ × Gen) → Type 0
    KeepsWithout pointers = (items : List (Item Gen T)) → IsDisjointFrom (shape (indexes items)) (map (λ (p : ℕ × Gen). p.0) pointers) → IsListOf shape old items → IsListOf shape new items

    -- `e` is inserted directly after `p` in its list.
    abbrev pub InsertsAfter : ℕ × Gen → Item Gen T → Type 0
    InsertsAfter p e = (t : T) (before after : List (Item Gen T)) → IsListOf shape old (before ++ (p, t) ∷ after) → IsListOf shape new (before ++ (p, t) ∷ e ∷ after)

    abbrev pub InsertsBefore : ℕ × Gen → Item Gen T → Type 0
    InsertsBefore p e = (t : T) (before after : List (Item Gen T)) → IsListOf shape old (before ++ (p, t) ∷ after) → IsListOf shape new (before ++ e ∷ (p, t) ∷ after)

    -- `e` is removed from its list; nothing is stated if it was the only item.
    abbrev pub IsRemovedFromList : Item Gen T → Type 0
    IsRemovedFromList e = (before after : List (Item Gen T)) → IsListOf shape old (before ++ e ∷ after) → before ++ after ≢ [] → IsListOf shape new (before ++ after)

module _ {A Gen T : Type 0} {view : A → ArenaView Gen T} {entry : A → ℕ → Option (Gen × T)} (state : (a : A) → ArenaState (view a) (entry a)) (interlinks : A → LinkMap) (shape : List ℕ → Chain) where
  module _ (old new : A) where
    -- Only lists with these pointers change; entries and view stay.
    pub record ChangesOnlyListsOf (pointers : List (ℕ × Gen)) : Type 0 where
      pub others : KeepsWithout state interlinks shape old new pointers
      pub entries : entry new ≡ entry old
      pub view_after : view new ≡ view old

    -- The item of `p` has the value `t`; pointers and lists stay.
    pub record HasNewValue (p : ℕ × Gen) (t : T) : Type 0 where
      pub list : (s : T) (before after : List (Item Gen T)) → IsListOf state interlinks shape old (before ++ (p, s) ∷ after)
          → IsListOf state interlinks shape new (before ++ (p, t) ∷ after)
      pub others : KeepsWithout state interlinks shape old new (p ∷ [])
      pub view_after : view new ≡ view_with_value (view old) p.0 t
      pub links : interlinks new ≡ interlinks old

    -- `e` is stored in a list, next to the items `beside`.
    pub record IsItemInserted (list_after : Type 0) (beside : List (ℕ × Gen)) (e : Item Gen T) : Type 0 where
      pub list : list_after
      pub item : IsEntryInserted state old e.1 e.0 new
      pub others : KeepsWithout state interlinks shape old new beside

    abbrev pub IsItemStarted : Item Gen T → Type 0
    IsItemStarted e = IsItemInserted (IsListOf state interlinks shape new (e ∷ [])) [] e

    abbrev pub IsItemAfter : ℕ × Gen → Item Gen T → Type 0
    IsItemAfter p e = IsItemInserted (InsertsAfter state interlinks shape old new p e) (p ∷ []) e

    abbrev pub IsItemBefore : ℕ × Gen → Item Gen T → Type 0
    IsItemBefore p e = IsItemInserted (InsertsBefore state interlinks shape old new p e) (p ∷ []) e

    pub record IsItemRemoved {P I W : Type 0} (pointers : PointerKind P I Gen W) (e : Item Gen T) : Type 0 where
      pub removed : IsEntryRemoved state pointers old e.0.0 e.0.1 e.1 new
      pub list : IsRemovedFromList state interlinks shape old new e
      pub gone : entry new e.0.0 ≡ None
      pub entries : (i : ℕ) → i ≢ e.0.0 → entry new i ≡ entry old i
      pub others : KeepsWithout state interlinks shape old new (e.0 ∷ [])
      pub size : count (view old) ≡ count (view new) + 1

  module _ {P : Type 0} (key : P → ℕ × Gen) (greatest : ℕ) where
    -- A new list of `t` begins, or the arena could not grow.
    abbrev pub StartsList : A → T → Result P ReallocationError → A → Type 0
    StartsList old t result new = record {
      outcome : IsGrowthResult (RefusesOneMore (view old)) (λ q. IsItemStarted old new (key q, t) × GrowsForOneMore greatest (view old) (view new)) result;
      err : OnErr result (new ≡ old);
    }

    -- `t` is inserted directly after `p`, or refused.
    abbrev pub InsertsItemAfter : A → ℕ × Gen → T → Result P ChainInsertionError → A → Type 0
    InsertsItemAfter old p t result new = record {
      outcome : IsInsertionResult (IsValid (entry old) p) (RefusesOneMore (view old)) (λ q. IsItemAfter old new p (key q, t) × GrowsForOneMore greatest (view old) (view new)) result;
      err : OnErr result (new ≡ old);
    }

    abbrev pub InsertsItemBefore : A → ℕ × Gen → T → Result P ChainInsertionError → A → Type 0
    InsertsItemBefore old p t result new = record {
      outcome : IsInsertionResult (IsValid (entry old) p) (RefusesOneMore (view old)) (λ q. IsItemBefore old new p (key q, t) × GrowsForOneMore greatest (view old) (view new)) result;
      err : OnErr result (new ≡ old);
    }

  -- The item of `p` is removed and its value returned, if `p` is valid.
  abbrev pub RemovesItem : {P I W : Type 0} → PointerKind P I Gen W → A → P → Option T → A → Type 0
  RemovesItem pointers old p None new = (IsValid (entry old) (pointers.key p) → ⊥) × (new ≡ old)
  RemovesItem pointers old p (Some t) new = IsItemRemoved old new pointers (pointers.key p, t)
