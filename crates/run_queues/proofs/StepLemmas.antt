-- The steps that each call makes in each queue.
use Rattle.std.proofs.Common.{◌≡◌, ◌⊎◌, inl, inr, ⊎_elim, ℕ, List, [], ◌∷◌, ◌++◌, map, refl, sym, ap, ◌∙◌, subst, Option}
use Rattle.std.proofs.lemmas.List.{map-append}
use Rattle.arena_core.specs.PointerKinds.{PointerKind}
use Rattle.chain_laws.specs.Chains.{LinkMap, cyclic, IsChain}
use Rattle.arena_traits.specs.Entries.{ArenaView, ArenaState}
use Rattle.chain_lists.specs.Lists.{Item, indexes}
use Rattle.chain_lists.proofs.ListChangeLemmas.{stays}
use Rattle.linked_lists.specs.declared.entry.Entry.{Entry}
use Rattle.linked_lists.specs.LinkedLists.{pointers_of, ring_of, IsHandle, HasItem, IsList, AllInLists, Becomes, GrowsAtEnd, ValueBecomes, LeavesList, IsItemMoved, AreJoined, AtEnd}
use Rattle.run_queues.specs.Turns.{Step, turn, come, leave, IsRun, HasTurn}
use Rattle.run_queues.specs.RunQueues.{IsTurnTaken, TakesSteps}
use Rattle.run_queues.specs.Histories.{Change, creates, spawns, gives_turn, moves, wakes_one, wakes_all, replaces, cancels, removes, grows, TakesAway, AreStepsOf, CallsTakeSteps}

leave_of : {K : Type 0} (x y : K) → leave x ≡ leave y → x ≡ y
leave_of x y same = cc

turn_of : {K : Type 0} (x y : K) → turn x ≡ turn y → x ≡ y
turn_of x y same = cc

module _ {K : Type 0} where
  leave_all : (tasks : List K) → IsRun (map leave tasks) tasks []
  leave_all [] = refl
  leave_all (x ∷ tasks) = (tasks, ([], tasks, refl, refl), leave_all tasks)

  no_turn : (tasks : List K) (p : K) → HasTurn (map leave tasks) p → ⊥
  no_turn [] p h = h
  no_turn (x ∷ tasks) p (inl same) = absurd (cc)
  no_turn (x ∷ tasks) p (inr h) = no_turn tasks p h

module _ {Gen T : Type 0} where
  pub pointers-append : (xs ys : List (Item Gen T)) → pointers_of (xs ++ ys) ≡ pointers_of xs ++ pointers_of ys
  pointers-append xs ys = map-append (λ (e : Item Gen T). e.0) xs ys

module _ {A Gen T : Type 0} {view : A → ArenaView Gen (Entry T)} {entry : A → ℕ → Option (Gen × Entry T)} (state : (a : A) → ArenaState (view a) (entry a)) (interlinks : A → LinkMap)
    {P I W : Type 0} (pointers : PointerKind P I Gen W) (decide : (p q : ℕ × Gen) → (p ≡ q) ⊎ (p ≡ q → ⊥)) where
  module _ (old new : A) where
    no_step : (q : ℕ × Gen) → ((tasks : List (Item Gen T)) → IsList state interlinks old q tasks → IsList state interlinks new q tasks) → TakesSteps state interlinks old new q []
    no_step q kept tasks is = (tasks, kept tasks is, refl)

    module _ (all : AllInLists state interlinks old) where
      steps_to : (q : ℕ × Gen) (xs ys : List (Item Gen T)) (steps : List (Step (ℕ × Gen))) → IsList state interlinks old q xs → IsList state interlinks new q ys → IsRun steps (pointers_of xs) (pointers_of ys) → TakesSteps state interlinks old new q steps
      steps_to q xs ys steps was is run tasks given =
          let same : xs ≡ tasks = (all.once q q xs tasks q.0 was given (inl refl) (inl refl)).1 in
          (ys, is, subst (λ (l : List (Item Gen T)). IsRun steps (pointers_of l) (pointers_of ys)) same run)

      elsewhere : (h q : ℕ × Gen) (items : List (Item Gen T)) → Becomes state interlinks old new h items → (h ≡ q → ⊥) → TakesSteps state interlinks old new q []
      elsewhere h q items is other = no_step q (λ tasks was. is.others q tasks ((λ same. other (sym same)), tt) was)

    pub turn_steps : AllInLists state interlinks old → (h p : ℕ × Gen) → IsTurnTaken state interlinks old new h p → TakesSteps state interlinks old new h (turn p ∷ [])
    turn_steps all h p is = steps_to all h ((p, is.value) ∷ is.rest) (is.rest ++ (p, is.value) ∷ []) (turn p ∷ []) is.first is.last.list
        (pointers_of (is.rest ++ (p, is.value) ∷ []), (pointers_of is.rest, refl, pointers-append is.rest ((p, is.value) ∷ [])), refl)

    module _ (change : Change Gen) (q : ℕ × Gen) where
      abbrev Steps : Type 0
      Steps = (steps : List (Step (ℕ × Gen))) × AreStepsOf state interlinks pointers old change new q steps

      by_none : TakesSteps state interlinks old new q [] → Steps
      by_none taken = ([], record { taken = taken; turns = λ p h. absurd h; leaves = λ p h. absurd h })

      by_coming : (ps : List (ℕ × Gen)) → TakesSteps state interlinks old new q (come ps ∷ []) → Steps
      by_coming ps taken = (come ps ∷ [], record { taken = taken; turns = λ p h. ⊎_elim (λ same. absurd (cc)) (λ none. absurd none) h; leaves = λ p h. ⊎_elim (λ same. absurd (cc)) (λ none. absurd none) h })

      by_leaving : (r : ℕ × Gen) → ((p : ℕ × Gen) → r ≡ p → TakesAway change q p) → TakesSteps state interlinks old new q (leave r ∷ []) → Steps
      by_leaving r away taken = (leave r ∷ [], record { taken = taken; turns = λ p h. ⊎_elim (λ same. absurd (cc)) (λ none. absurd none) h; leaves = λ p h. ⊎_elim (λ same. away p (leave_of r p same)) (λ none. absurd none) h })

      by_both : (r : ℕ × Gen) (ps : List (ℕ × Gen)) → ((p : ℕ × Gen) → r ≡ p → TakesAway change q p) → TakesSteps state interlinks old new q (leave r ∷ come ps ∷ []) → Steps
      by_both r ps away taken = (
        leave r ∷ come ps ∷ [],
        record {
          taken = taken;
          turns = λ p h. ⊎_elim (λ same. absurd (cc)) (λ more. ⊎_elim (λ same. absurd (cc)) (λ none. absurd none) more) h;
          leaves = λ p h. ⊎_elim (λ same. away p (leave_of r p same)) (λ more. ⊎_elim (λ same. absurd (cc)) (λ none. absurd none) more) h;
        },
      )

      by_turning : (r : ℕ × Gen) → change ≡ gives_turn q r → TakesSteps state interlinks old new q (turn r ∷ []) → Steps
      by_turning r is taken = (
        turn r ∷ [],
        record {
          taken = taken;
          turns = λ p h. ⊎_elim (λ same. is ∙ ap (λ (k : ℕ × Gen). gives_turn q k) (turn_of r p same)) (λ none. absurd none) h;
          leaves = λ p h. ⊎_elim (λ same. absurd (cc)) (λ none. absurd none) h;
        },
      )

      by_emptying : (ps : List (ℕ × Gen)) → ((p : ℕ × Gen) → TakesAway change q p) → TakesSteps state interlinks old new q (map leave ps) → Steps
      by_emptying ps away taken = (map leave ps, record { taken = taken; turns = λ p h. absurd (no_turn ps p h); leaves = λ p h. away p })

      module _ (all : AllInLists state interlinks old) where
        leaving : (h r : ℕ × Gen) (t : T) (before after : List (Item Gen T)) → IsList state interlinks old h (before ++ (r, t) ∷ after) → IsList state interlinks new h (before ++ after) → TakesSteps state interlinks old new h (leave r ∷ [])
        leaving h r t before after was is = steps_to all h (before ++ (r, t) ∷ after) (before ++ after) (leave r ∷ []) was is
            (pointers_of (before ++ after), (pointers_of before, pointers_of after, pointers-append before ((r, t) ∷ after), pointers-append before after), refl)

        coming : (h : ℕ × Gen) (xs ys : List (Item Gen T)) → IsList state interlinks old h xs → IsList state interlinks new h (xs ++ ys) → TakesSteps state interlinks old new h (come (pointers_of ys) ∷ [])
        coming h xs ys was is = steps_to all h xs (xs ++ ys) (come (pointers_of ys) ∷ []) was is (pointers_of (xs ++ ys), pointers-append xs ys, refl)

        by_move : (r k : ℕ × Gen) (t : T) → ((p : ℕ × Gen) → r ≡ p → TakesAway change q p) → HasItem (entry old) r t → IsHandle (entry old) k → IsItemMoved state interlinks old new r (AtEnd k) → Steps
        by_move r k t away item head moved =
            let at = all.items r t item in
            let h = at.handle in
            ⊎_elim
            (λ same_list.
            let is = moved.within h t at.before at.after ((at.before ++ at.after) ++ (r, t) ∷ []) at.list (same_list, refl) in
            ⊎_elim
            (λ same. by_both r (r ∷ []) away (subst (λ (i : ℕ × Gen). TakesSteps state interlinks old new i (leave r ∷ come (r ∷ []) ∷ [])) same
            (steps_to all h (at.before ++ (r, t) ∷ at.after) ((at.before ++ at.after) ++ (r, t) ∷ []) (leave r ∷ come (r ∷ []) ∷ []) at.list is.list (
              pointers_of (at.before ++ at.after),
              (pointers_of at.before, pointers_of at.after, pointers-append at.before ((r, t) ∷ at.after), pointers-append at.before at.after),
              (pointers_of ((at.before ++ at.after) ++ (r, t) ∷ []), pointers-append (at.before ++ at.after) ((r, t) ∷ []), refl),
            ))))
            (λ other. by_none (elsewhere all h q ((at.before ++ at.after) ++ (r, t) ∷ []) is other))
            (decide h q))
            (λ two.
            let others = all.lists k head in
            let is = moved.between h k t at.before at.after others.0 (others.0 ++ (r, t) ∷ []) two at.list others.1 (refl, refl) in
            ⊎_elim
            (λ same. by_leaving r away (subst (λ (i : ℕ × Gen). TakesSteps state interlinks old new i (leave r ∷ [])) same (leaving h r t at.before at.after at.list is.0)))
            (λ not_h. ⊎_elim
            (λ same. by_coming (r ∷ []) (subst (λ (i : ℕ × Gen). TakesSteps state interlinks old new i (come (r ∷ []) ∷ [])) same (coming k others.0 ((r, t) ∷ []) others.1 is.1)))
            (λ not_k. by_none (no_step q (λ tasks was. is.2 q tasks ((λ same. not_h (sym same)), ((λ same. not_k (sym same)), tt)) was)))
            (decide k q))
            (decide h q))
            (decide h k)

      by_spawn : (all : AllInLists state interlinks old) (h p : ℕ × Gen) (t : T) → IsHandle (entry old) h → GrowsAtEnd state interlinks old new h (p, t) → Steps
      by_spawn all h p t head grown =
          let was = all.lists h head in
          let is = grown was.0 was.1 in
          ⊎_elim
          (λ same. by_coming (p ∷ []) (subst (λ (i : ℕ × Gen). TakesSteps state interlinks old new i (come (p ∷ []) ∷ [])) same (coming all h was.0 ((p, t) ∷ []) was.1 is.list)))
          (λ other. by_none (elsewhere all h q (was.0 ++ (p, t) ∷ []) is other))
          (decide h q)

      by_turn : AllInLists state interlinks old → (h p : ℕ × Gen) → ((h ≡ q) → change ≡ gives_turn q p) → IsTurnTaken state interlinks old new h p → Steps
      by_turn all h p named is = ⊎_elim
          (λ same. by_turning p (named same) (subst (λ (i : ℕ × Gen). TakesSteps state interlinks old new i (turn p ∷ [])) same (turn_steps all h p is)))
          (λ other. by_none (elsewhere all h q (is.rest ++ (p, is.value) ∷ []) is.last other))
          (decide h q)

      by_append : AllInLists state interlinks old → (h l : ℕ × Gen) → ((p : ℕ × Gen) → l ≡ q → TakesAway change q p) → IsHandle (entry old) h → IsHandle (entry old) l → AreJoined state interlinks old new h l → Steps
      by_append all h l away queue list is =
          let xs = all.lists h queue in
          let ys = all.lists l list in
          let both = is.lists xs.0 ys.0 xs.1 ys.1 in
          ⊎_elim
          (λ same. by_coming (pointers_of ys.0) (subst (λ (i : ℕ × Gen). TakesSteps state interlinks old new i (come (pointers_of ys.0) ∷ [])) same (coming all h xs.0 ys.0 xs.1 both.0)))
          (λ not_h. ⊎_elim
          (λ same. by_emptying (pointers_of ys.0) (λ p. away p same) (subst (λ (i : ℕ × Gen). TakesSteps state interlinks old new i (map leave (pointers_of ys.0))) same
          (steps_to all l ys.0 [] (map leave (pointers_of ys.0)) ys.1 both.1 (leave_all (pointers_of ys.0)))))
          (λ not_l. by_none (no_step q (λ tasks was. is.others q tasks ((λ same. not_h (sym same)), ((λ same. not_l (sym same)), tt)) was)))
          (decide l q))
          (decide h q)

      by_value : AllInLists state interlinks old → (p : ℕ × Gen) (t former : T) → HasItem (entry old) p former → ValueBecomes state interlinks old new p t → Steps
      by_value all p t former item is =
          let at = all.items p former item in
          let after = is.list at.handle former at.before at.after at.list in
          ⊎_elim
          (λ same. by_none (subst (λ (i : ℕ × Gen). TakesSteps state interlinks old new i []) same
          (steps_to all at.handle (at.before ++ (p, former) ∷ at.after) (at.before ++ (p, t) ∷ at.after) [] at.list after.list
          (pointers-append at.before ((p, t) ∷ at.after) ∙ sym (pointers-append at.before ((p, former) ∷ at.after))))))
          (λ other. by_none (elsewhere all at.handle q (at.before ++ (p, t) ∷ at.after) after other))
          (decide at.handle q)

      by_removal : AllInLists state interlinks old → (p : ℕ × Gen) (t : T) → ((r : ℕ × Gen) → p ≡ r → TakesAway change q r) → LeavesList state interlinks old new pointers p t → Steps
      by_removal all p t away is =
          let at = all.items p t is.removed.0 in
          let after = is.list at.handle at.before at.after at.list in
          ⊎_elim
          (λ same. by_leaving p away (subst (λ (i : ℕ × Gen). TakesSteps state interlinks old new i (leave p ∷ [])) same (leaving all at.handle p t at.before at.after at.list after.list)))
          (λ other. by_none (elsewhere all at.handle q (at.before ++ at.after) after other))
          (decide at.handle q)

  pub steps_of : CallsTakeSteps state interlinks pointers
  steps_of old new (creates h) q all is keeps = by_none old new (creates h) q (no_step old new q (λ tasks was. is.others q tasks tt was))
  steps_of old new (spawns h p) q all is keeps = by_spawn old new (spawns h p) q all h p is.1 is.0 is.2.list
  steps_of old new (gives_turn h p) q all is keeps = by_turn old new (gives_turn h p) q all h p (λ same. ap (λ (i : ℕ × Gen). gives_turn i p) same) is
  steps_of old new (moves p k) q all is keeps = by_move old new (moves p k) q all p k is.0.value (λ r same. same) is.0.stored is.1 is.2
  steps_of old new (wakes_one l k p) q all is keeps = by_move old new (wakes_one l k p) q all p k is.first.value (λ r same. same) is.first.list.are_stored.1.0 is.queue is.moved
  steps_of old new (wakes_all l k) q all is keeps = by_append old new (wakes_all l k) q all k l (λ p same. same) is.0 is.1 is.3
  steps_of old new (replaces p) q all is keeps = by_value old new (replaces p) q all p is.0 is.1 is.2 is.3
  steps_of old new (cancels p) q all is keeps = by_removal old new (cancels p) q all p is.0 (λ r same. same) is.1
  steps_of old new (removes l) q all is keeps = by_none old new (removes l) q (no_step old new q (λ tasks was. is.1.others q tasks ((λ same. keeps (ap removes (sym same))), tt) was))
  steps_of old new grows q all is keeps = by_none old new grows q (no_step old new q (λ tasks was. stays state interlinks cyclic old new is.0 (ring_of q tasks) was.are_stored (subst (λ (l : LinkMap). IsChain l (cyclic (indexes (ring_of q tasks)))) (sym is.1) was.chain)))
