-- What the calls of `RunQueues` change.
use Rattle.std.specs.Prelude.{◌≡◌, ℕ, List, [], ◌∷◌, ◌++◌, Option, None, Some}
use Rattle.chain_laws.specs.Chains.{LinkMap}
use Rattle.arena_traits.specs.Entries.{ArenaView, ArenaState}
use Rattle.chain_lists.specs.Lists.{Item}
use Rattle.linked_lists.specs.declared.entry.Entry.{Entry}
use Rattle.linked_lists.specs.LinkedLists.{pointers_of, IsHandle, IsList, Becomes, KeepsEntries, IsItemMoved, AtEnd}
use Rattle.run_queues.specs.Turns.{Step, IsRun}

module _ {A Gen T : Type 0} {view : A → ArenaView Gen (Entry T)} {entry : A → ℕ → Option (Gen × Entry T)} (state : (a : A) → ArenaState (view a) (entry a)) (interlinks : A → LinkMap) where
  module _ (arena : A) where
    -- `p` is the first task of `q`.
    pub record IsFirst (q p : ℕ × Gen) : Type 0 where
      pub value : T
      pub rest : List (Item Gen T)
      pub list : IsList state interlinks arena q ((p, value) ∷ rest)

    -- `q` is empty, if it is a queue.
    abbrev pub HasNoTask : ℕ × Gen → Type 0
    HasNoTask q = IsHandle (entry arena) q → IsList state interlinks arena q []

  module _ (old new : A) where
    -- The first task `p` of `q` becomes its last one; others stay.
    pub record IsTurnTaken (q p : ℕ × Gen) : Type 0 where
      pub value : T
      pub rest : List (Item Gen T)
      pub first : IsList state interlinks old q ((p, value) ∷ rest)
      pub last : Becomes state interlinks old new q (rest ++ (p, value) ∷ [])
      pub entries : KeepsEntries state interlinks old new

    -- The first task `p` of `l` becomes the last one of `q`.
    pub record IsOneWoken (l q p : ℕ × Gen) : Type 0 where
      pub first : IsFirst old l p
      pub queue : IsHandle (entry old) q
      pub moved : IsItemMoved state interlinks old new p (AtEnd q)

    -- These steps happen in `q`.
    abbrev pub TakesSteps : ℕ × Gen → List (Step (ℕ × Gen)) → Type 0
    TakesSteps q steps = (tasks : List (Item Gen T)) → IsList state interlinks old q tasks
        → (after : List (Item Gen T)) × IsList state interlinks new q after × IsRun steps (pointers_of tasks) (pointers_of after)

  module _ {P : Type 0} (key : P → ℕ × Gen) where
    -- `next`: the first task of `q`, if any, has its turn.
    abbrev pub TakesTurn : A → P → Option P → A → Type 0
    TakesTurn old q None new = HasNoTask old (key q) × (new ≡ old)
    TakesTurn old q (Some p) new = IsTurnTaken old new (key q) (key p)

    -- `wake_one`: the first task of `l`, if any, is moved to `q`.
    abbrev pub WakesOne : A → (l q : P) → Option P → A → Type 0
    WakesOne old l q None new = (IsHandle (entry old) (key q) → HasNoTask old (key l)) × (new ≡ old)
    WakesOne old l q (Some p) new = IsOneWoken old new (key l) (key q) (key p)
