-- Fairness over changes.
use Rattle.std.proofs.Common.{◌≡◌, ◌⊎◌, inl, inr, ⊎_elim, ℕ, List, [], ◌∷◌, ◌++◌, sym, subst, append_assoc, Option}
use Rattle.arena_core.specs.PointerKinds.{PointerKind}
use Rattle.chain_laws.specs.Chains.{LinkMap}
use Rattle.arena_traits.specs.Entries.{ArenaView, ArenaState}
use Rattle.linked_lists.specs.declared.entry.Entry.{Entry}
use Rattle.linked_lists.specs.LinkedLists.{pointers_of}
use Rattle.run_queues.specs.Turns.{Step, turn, leave, IsAmong, IsRun, HasTurn, Leaves}
use Rattle.run_queues.specs.RunQueues.{TakesSteps}
use Rattle.run_queues.specs.Histories.{Change, creates, spawns, gives_turn, moves, wakes_one, wakes_all, replaces, cancels, removes, grows, TakesAway, OneTakesAway, History, CallsAreFair}
use Rattle.run_queues.proofs.TurnLemmas.{among-parts}
use Rattle.run_queues.proofs.FairnessLemmas.{queue_fair}
use Rattle.run_queues.proofs.StepLemmas.{steps_of, turn_steps}

queue_of_removal : {Gen : Type 0} (l q : ℕ × Gen) → removes l ≡ removes q → l ≡ q
queue_of_removal l q same = cc

run_on : {K : Type 0} (first second : List (Step K)) (old mid new : List K) → IsRun first old mid → IsRun second mid new → IsRun (first ++ second) old new
run_on {K = K} [] second old mid new one two = subst (λ (l : List K). IsRun second l new) one two
run_on (step ∷ first) second old mid new one two = (one.0, one.1, run_on first second one.0 mid new one.2 two)

module _ {A Gen T : Type 0} {view : A → ArenaView Gen (Entry T)} {entry : A → ℕ → Option (Gen × Entry T)} (state : (a : A) → ArenaState (view a) (entry a)) (interlinks : A → LinkMap)
    {P I W : Type 0} (pointers : PointerKind P I Gen W) (decide : (p q : ℕ × Gen) → (p ≡ q) ⊎ (p ≡ q → ⊥)) where
  steps_on : (old mid new : A) (q : ℕ × Gen) (first second : List (Step (ℕ × Gen))) → TakesSteps state interlinks old mid q first → TakesSteps state interlinks mid new q second → TakesSteps state interlinks old new q (first ++ second)
  steps_on old mid new q first second one two tasks is =
      let a = one tasks is in
      let b = two a.0 a.1 in
      (b.0, b.1, run_on first second (pointers_of tasks) (pointers_of a.0) (pointers_of b.0) a.2 b.2)

  -- The steps of `q` until its task `x` has a turn.
  record StepsUntil (old : A) (changes : List (Change Gen)) (new : A) (q x : ℕ × Gen) : Type 0 where
    steps : List (Step (ℕ × Gen))
    taken : TakesSteps state interlinks old new q (steps ++ turn x ∷ [])
    turns : (p : ℕ × Gen) → HasTurn steps p → IsAmong changes (gives_turn q p)
    leaves : (p : ℕ × Gen) → Leaves steps p → OneTakesAway changes q p

  removed_or_kept : (change : Change Gen) (q : ℕ × Gen) → ((p : ℕ × Gen) → TakesAway change q p) ⊎ (change ≡ removes q → ⊥)
  removed_or_kept (creates h) q = inr (λ same. absurd (cc))
  removed_or_kept (spawns h p) q = inr (λ same. absurd (cc))
  removed_or_kept (gives_turn h p) q = inr (λ same. absurd (cc))
  removed_or_kept (moves p h) q = inr (λ same. absurd (cc))
  removed_or_kept (wakes_one l h p) q = inr (λ same. absurd (cc))
  removed_or_kept (wakes_all l h) q = inr (λ same. absurd (cc))
  removed_or_kept (replaces p) q = inr (λ same. absurd (cc))
  removed_or_kept (cancels p) q = inr (λ same. absurd (cc))
  removed_or_kept (removes l) q = ⊎_elim (λ same. inl (λ p. same)) (λ other. inr (λ same. other (queue_of_removal l q same))) (decide l q)
  removed_or_kept grows q = inr (λ same. absurd (cc))

  until : (old new : A) (q x : ℕ × Gen) (changes : List (Change Gen)) → History state interlinks pointers old (changes ++ gives_turn q x ∷ []) new → StepsUntil old changes new q x ⊎ ((p : ℕ × Gen) → OneTakesAway changes q p)
  until old new q x [] past = inl (record {
    steps = [];
    taken = subst (λ (a : A). TakesSteps state interlinks old a q (turn x ∷ [])) (sym past.3) (turn_steps state interlinks pointers decide old past.1 past.0 q x past.2);
    turns = λ p h. absurd h;
    leaves = λ p h. absurd h;
  })
  until old new q x (change ∷ changes) past = ⊎_elim
      (λ away. inr (λ p. inl (away p)))
      (λ keeps.
      let mid = past.1 in
      let now = steps_of state interlinks pointers decide old mid change q past.0 past.2 keeps in
      ⊎_elim
      (λ later. inl (record {
        steps = now.0 ++ later.steps;
        taken = subst (TakesSteps state interlinks old new q) (sym (append_assoc now.0 later.steps (turn x ∷ []))) (steps_on old mid new q now.0 (later.steps ++ turn x ∷ []) now.1.taken later.taken);
        turns = λ p h. ⊎_elim (λ here. inl (now.1.turns p here)) (λ there. inr (later.turns p there)) (among-parts now.0 later.steps (turn p) h);
        leaves = λ p h. ⊎_elim (λ here. inl (now.1.leaves p here)) (λ there. inr (later.leaves p there)) (among-parts now.0 later.steps (leave p) h);
      }))
      (λ away. inr (λ p. inr (away p)))
      (until mid new q x changes past.3))
      (removed_or_kept change q)

  pub calls_fair : CallsAreFair state interlinks pointers
  calls_fair old new q x y tasks changes past is among other =
      let mid = past.1 in
      let first = turn_steps state interlinks pointers decide old mid past.0 q x past.2 in
      ⊎_elim
      (λ rest. ⊎_elim
      (λ turns. inl (rest.turns y turns))
      (λ leaves. inr (rest.leaves y leaves))
      (queue_fair state interlinks decide old new q x y tasks rest.steps is (steps_on old mid new q (turn x ∷ []) (rest.steps ++ turn x ∷ []) first rest.taken) among other))
      (λ away. inr (away y))
      (until mid new q x changes past.3)
