-- Turns among queues by priority.
use Rattle.std.specs.Prelude.{◌≡◌, ℕ, ◌<◌, List, length, slice_get, Option, None, Some}
use Rattle.chain_laws.specs.Chains.{LinkMap}
use Rattle.arena_traits.specs.Entries.{ArenaView, ArenaState}
use Rattle.linked_lists.specs.declared.entry.Entry.{Entry}
use Rattle.run_queues.specs.RunQueues.{HasNoTask, IsTurnTaken}

module _ {A Gen T : Type 0} {view : A → ArenaView Gen (Entry T)} {entry : A → ℕ → Option (Gen × Entry T)} (state : (a : A) → ArenaState (view a) (entry a)) (interlinks : A → LinkMap) {Q : Type 0} (key : Q → ℕ × Gen) where
  -- The queues below `n` have no task.
  abbrev pub AreEmptyBelow : A → List Q → ℕ → Type 0
  AreEmptyBelow arena queues n = (k : ℕ) (q : Q) → k < n → slice_get queues k ≡ Some q → HasNoTask state interlinks arena (key q)

  -- `p`, first of the least priority number, has its turn.
  pub record IsLeastTurn (old new : A) (queues : List Q) (p : ℕ × Gen) : Type 0 where
    pub priority : ℕ
    pub queue : Q
    pub here : slice_get queues priority ≡ Some queue
    pub below : AreEmptyBelow old queues priority
    pub turn : IsTurnTaken state interlinks old new (key queue) p

  -- The first task by priority has its turn, if any.
  abbrev pub TakesLeastTurn : {P : Type 0} → (P → ℕ × Gen) → A → List Q → Option P → A → Type 0
  TakesLeastTurn task_key old queues None new = AreEmptyBelow old queues (length queues) × (new ≡ old)
  TakesLeastTurn task_key old queues (Some p) new = IsLeastTurn old new queues (task_key p)
