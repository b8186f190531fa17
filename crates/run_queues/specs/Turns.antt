-- Turns and fairness.
use Rattle.std.specs.Prelude.{◌≡◌, ◌⊎◌, List, [], ◌∷◌, ◌++◌}

-- The first task has a turn, tasks come, or a task leaves.
pub data Step (K : Type 0) : Type 0 where
  turn : K → Step K
  come : List K → Step K
  leave : K → Step K

module _ {X : Type 0} where
  -- `x` is one of these.
  abbrev pub IsAmong : List X → X → Type 0
  IsAmong [] x = ⊥
  IsAmong (y ∷ ys) x = (y ≡ x) ⊎ IsAmong ys x

module _ {K : Type 0} where
  -- Turns move the first task to the end, where tasks come.
  abbrev pub IsStep : Step K → List K → List K → Type 0
  IsStep (turn x) old new = (rest : List K) × (old ≡ x ∷ rest) × (new ≡ rest ++ x ∷ [])
  IsStep (come xs) old new = new ≡ old ++ xs
  IsStep (leave x) old new = (before : List K) × (after : List K) × (old ≡ before ++ x ∷ after) × (new ≡ before ++ after)

  -- Steps in order.
  abbrev pub IsRun : List (Step K) → List K → List K → Type 0
  IsRun [] old new = new ≡ old
  IsRun (step ∷ steps) old new = (mid : List K) × IsStep step old mid × IsRun steps mid new

  -- `x` has a turn.
  abbrev pub HasTurn : List (Step K) → K → Type 0
  HasTurn steps x = IsAmong steps (turn x)

  abbrev pub Leaves : List (Step K) → K → Type 0
  Leaves steps x = IsAmong steps (leave x)

  -- `y` is in the queue, and before `x`, if there.
  pub record IsAhead (y x : K) (queue : List K) : Type 0 where
    pub here : IsAmong queue y
    pub before : (front back : List K) → queue ≡ front ++ x ∷ back → IsAmong front y

-- A task ahead of another one stays ahead until it has a turn or leaves.
abbrev pub TasksStayAhead : (K : Type 0) → Type 0
TasksStayAhead K = (x y : K) (steps : List (Step K)) (old new : List K) → IsAhead y x old → IsRun steps old new → HasTurn steps y ⊎ (Leaves steps y ⊎ IsAhead y x new)

-- Between two turns of `x`, each other task that was in the queue has a turn or leaves.
abbrev pub TurnsAreFair : (K : Type 0) → Type 0
TurnsAreFair K = (x y : K) (others new : List K) (steps : List (Step K)) → IsRun (turn x ∷ steps ++ turn x ∷ []) (x ∷ others) new
    → (IsAmong others x → ⊥) → IsAmong others y → HasTurn steps y ⊎ Leaves steps y
