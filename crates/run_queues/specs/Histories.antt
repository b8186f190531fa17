-- Calls on queues, and their steps.
use Rattle.std.specs.Prelude.{◌≡◌, ◌≢◌, ◌⊎◌, ℕ, List, [], ◌∷◌, ◌++◌, Option, Some, IsSome, Result, Ok}
use Rattle.arena_core.specs.declared.errors.ReallocationError.{ReallocationError}
use Rattle.arena_core.specs.Invalidation.{value_within}
use Rattle.arena_core.specs.declared.invalidation.InvalidationResult.{InvalidationResult}
use Rattle.arena_core.specs.PointerKinds.{PointerKind}
use Rattle.chain_laws.specs.Chains.{LinkMap}
use Rattle.arena_traits.specs.Entries.{ArenaView, ArenaState}
use Rattle.chain_lists.specs.Lists.{Item}
use Rattle.chain_lists.specs.Sizes.{ReservesMore}
use Rattle.linked_lists.specs.declared.entry.Entry.{Entry}
use Rattle.linked_lists.specs.LinkedLists.{pointers_of, IsHandle, HasItem, IsItem, IsList, IsInListOf, HasPlace, AllInLists, IsListStarted, GrowsAtEnd, IsItemAdded, ValueBecomes, LeavesList, IsListRemoved, IsItemMoved, AreJoined, AtEnd, CreatesList, PushesBack, MovesToBack, JoinsLists, ReplacesItem, RemovesListItem, RemovesList}
use Rattle.run_queues.specs.Turns.{Step, IsAmong, HasTurn, Leaves}
use Rattle.run_queues.specs.RunQueues.{IsTurnTaken, IsOneWoken, TakesSteps, TakesTurn, WakesOne}

-- A call that succeeded.
pub data Change (Gen : Type 0) : Type 0 where
  creates : (q : ℕ × Gen) → Change Gen
  spawns : (q p : ℕ × Gen) → Change Gen
  gives_turn : (q p : ℕ × Gen) → Change Gen
  moves : (p q : ℕ × Gen) → Change Gen
  wakes_one : (l q p : ℕ × Gen) → Change Gen
  wakes_all : (l q : ℕ × Gen) → Change Gen
  replaces : (p : ℕ × Gen) → Change Gen
  cancels : (p : ℕ × Gen) → Change Gen
  removes : (q : ℕ × Gen) → Change Gen
  grows : Change Gen

module _ {Gen : Type 0} where
  -- The change can take `p` out of `q`.
  abbrev pub TakesAway : Change Gen → (q p : ℕ × Gen) → Type 0
  TakesAway (creates h) q p = ⊥
  TakesAway (spawns h r) q p = ⊥
  TakesAway (gives_turn h r) q p = ⊥
  TakesAway (moves r h) q p = r ≡ p
  TakesAway (wakes_one l h r) q p = r ≡ p
  TakesAway (wakes_all l h) q p = l ≡ q
  TakesAway (replaces r) q p = ⊥
  TakesAway (cancels r) q p = r ≡ p
  TakesAway (removes l) q p = l ≡ q
  TakesAway grows q p = ⊥

  -- One change can take `p` out of `q`.
  abbrev pub OneTakesAway : List (Change Gen) → (q p : ℕ × Gen) → Type 0
  OneTakesAway [] q p = ⊥
  OneTakesAway (change ∷ changes) q p = TakesAway change q p ⊎ OneTakesAway changes q p

module _ {A Gen T : Type 0} {view : A → ArenaView Gen (Entry T)} {entry : A → ℕ → Option (Gen × Entry T)} (state : (a : A) → ArenaState (view a) (entry a)) (interlinks : A → LinkMap)
    {P I W : Type 0} (pointers : PointerKind P I Gen W) where
  -- What each change states.
  abbrev pub Makes : A → Change Gen → A → Type 0
  Makes old (creates q) new = IsListStarted state interlinks old new q
  Makes old (spawns q p) new = IsHandle (entry old) q × (t : T) × IsItemAdded state interlinks old new (GrowsAtEnd state interlinks old new q) (p, t)
  Makes old (gives_turn q p) new = IsTurnTaken state interlinks old new q p
  Makes old (moves p q) new = IsItem (entry old) p × IsHandle (entry old) q × IsItemMoved state interlinks old new p (AtEnd q)
  Makes old (wakes_one l q p) new = IsOneWoken state interlinks old new l q p
  Makes old (wakes_all l q) new = IsHandle (entry old) q × IsHandle (entry old) l × (q ≢ l) × AreJoined state interlinks old new q l
  Makes old (replaces p) new = (t : T) × (former : T) × HasItem (entry old) p former × ValueBecomes state interlinks old new p t
  Makes old (cancels p) new = (t : T) × LeavesList state interlinks old new pointers p t
  Makes old (removes q) new = (tasks : List (Item Gen T)) × IsListRemoved state interlinks old new pointers.following q tasks
  Makes old grows new = (entry new ≡ entry old) × (interlinks new ≡ interlinks old)

  -- Each call that succeeds makes a change.
  pub record CallsMakeChanges {H : Type 0} (key : H → ℕ × Gen) : Type 0 where
    pub new_queue : (greatest : ℕ) (old new : A) (q : H) → CreatesList state interlinks key greatest old (Ok q) new → Makes old (creates (key q)) new
    pub spawn : (greatest : ℕ) (old new : A) (q p : P) (t : T) → PushesBack state interlinks pointers.key greatest old q t (Ok p) new → Makes old (spawns (pointers.key q) (pointers.key p)) new
    pub next : (old new : A) (q p : P) → TakesTurn state interlinks pointers.key old q (Some p) new → Makes old (gives_turn (pointers.key q) (pointers.key p)) new
    pub move_to : (old new : A) (p q : ℕ × Gen) → MovesToBack state interlinks old p q (Some tt) new → Makes old (moves p q) new
    pub wake_one : (old new : A) (l q p : P) → WakesOne state interlinks pointers.key old l q (Some p) new → Makes old (wakes_one (pointers.key l) (pointers.key q) (pointers.key p)) new
    pub wake_all : (old new : A) (l q : ℕ × Gen) → JoinsLists state interlinks old q l (Some tt) new → Makes old (wakes_all l q) new
    pub replace : (old new : A) (p : ℕ × Gen) (t former : T) → ReplacesItem state interlinks old p t (Some former) new → Makes old (replaces p) new
    pub cancel : (old new : A) (p : P) (result : InvalidationResult T) → IsSome (value_within result) → RemovesListItem state interlinks pointers old p result new → Makes old (cancels (pointers.key p)) new
    pub remove_queue : (old new : A) (q : ℕ × Gen) (result : InvalidationResult ℕ) → IsSome (value_within result) → RemovesList state interlinks pointers.wraps pointers.following old q result new → Makes old (removes q) new
    pub reserve : (greatest additional : ℕ) (old new : A) (done : Result Unit ReallocationError) → ReservesMore state interlinks greatest additional old done new → Makes old grows new

  -- Changes in order; before each, each task is in exactly one queue.
  abbrev pub History : A → List (Change Gen) → A → Type 0
  History old [] new = new ≡ old
  History old (change ∷ changes) new = AllInLists state interlinks old × (mid : A) × Makes old change mid × History mid changes new

  -- The steps in `q`: only `next` gives turns, and tasks leave only if taken away.
  pub record AreStepsOf (old : A) (change : Change Gen) (new : A) (q : ℕ × Gen) (steps : List (Step (ℕ × Gen))) : Type 0 where
    pub taken : TakesSteps state interlinks old new q steps
    pub turns : (p : ℕ × Gen) → HasTurn steps p → change ≡ gives_turn q p
    pub leaves : (p : ℕ × Gen) → Leaves steps p → TakesAway change q p

  -- Each change takes steps in each queue that it does not remove.
  abbrev pub CallsTakeSteps : Type 0
  CallsTakeSteps = (old new : A) (change : Change Gen) (q : ℕ × Gen) → AllInLists state interlinks old → Makes old change new → change ≢ removes q
      → (steps : List (Step (ℕ × Gen))) × AreStepsOf old change new q steps

  -- Between two turns of `x` in `q`, each other task there has one or is taken away.
  abbrev pub CallsAreFair : Type 0
  CallsAreFair = (old new : A) (q x y : ℕ × Gen) (tasks : List (Item Gen T)) (changes : List (Change Gen))
      → History old (gives_turn q x ∷ changes ++ gives_turn q x ∷ []) new
      → IsList state interlinks old q tasks → IsAmong (pointers_of tasks) y → x ≢ y
      → IsAmong changes (gives_turn q y) ⊎ OneTakesAway changes q y

  -- The change ends `p`, alone or with its queue.
  abbrev pub Ends : A → Change Gen → ℕ × Gen → Type 0
  Ends old (creates q) p = ⊥
  Ends old (spawns q r) p = ⊥
  Ends old (gives_turn q r) p = ⊥
  Ends old (moves r q) p = ⊥
  Ends old (wakes_one l q r) p = ⊥
  Ends old (wakes_all l q) p = ⊥
  Ends old (replaces r) p = ⊥
  Ends old (cancels r) p = r ≡ p
  Ends old (removes q) p = IsInListOf state interlinks old q p
  Ends old grows p = ⊥

  -- One change ends `p`.
  abbrev pub OneEnds : (old : A) (changes : List (Change Gen)) (new : A) → History old changes new → ℕ × Gen → Type 0
  OneEnds old [] new history p = ⊥
  OneEnds old (change ∷ changes) new history p = Ends old change p ⊎ OneEnds history.1 changes new history.3 p

  -- After any calls, each earlier task is in exactly one queue, at one place, unless a call ended
  -- it.
  abbrev pub CallsKeepTasks : Type 0
  CallsKeepTasks = (old new : A) (changes : List (Change Gen)) (p : ℕ × Gen) (history : History old changes new) → AllInLists state interlinks new → IsItem (entry old) p
      → OneEnds old changes new history p ⊎ ((t : T) × HasPlace state interlinks new p t)
