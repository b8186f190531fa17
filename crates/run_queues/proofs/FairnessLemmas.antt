-- Fairness of the queues of an arena.
use Rattle.std.proofs.Common.{◌≡◌, ◌≢◌, ◌⊎◌, inl, inr, ⊎_elim, ℕ, List, [], ◌∷◌, ◌++◌, map, refl, sym, ap, ◌∙◌, subst, Bool, true, false, Option}
use Rattle.std.specs.Prelude.{◌↔◌}
use Rattle.std.proofs.lemmas.Bool.{cases_eq}
use Rattle.chain_laws.specs.Chains.{LinkMap, IsMember, AreDistinct}
use Rattle.arena_traits.specs.Entries.{ArenaView, ArenaState}
use Rattle.chain_lists.specs.Lists.{Item, indexes}
use Rattle.linked_lists.specs.declared.entry.Entry.{Entry}
use Rattle.linked_lists.specs.LinkedLists.{as_item, pointers_of, IsList}
use Rattle.run_queues.specs.Turns.{Step, turn, IsAmong, IsRun, HasTurn, Leaves}
use Rattle.run_queues.specs.RunQueues.{TakesSteps}
use Rattle.run_queues.proofs.TurnLemmas.{turns_fair}

module _ {Gen : Type 0} (same : Gen → Gen → Bool) (same_is_equal : (g h : Gen) → (same g h ≡ true) ↔ (g ≡ h)) where
  pub same_or_not : (p q : ℕ × Gen) → (p ≡ q) ⊎ (p ≡ q → ⊥)
  same_or_not p q = ⊎_elim
      (λ index. by_generation index (same p.1 q.1) refl)
      (λ other. inr (λ is. other (ap (λ (k : ℕ × Gen). k.0) is)))
      (cases_eq p.0 q.0)
    where
      by_generation : p.0 ≡ q.0 → (b : Bool) → same p.1 q.1 ≡ b → (p ≡ q) ⊎ (p ≡ q → ⊥)
      by_generation index true is = inl (ap (λ (i : ℕ). (i, p.1)) index ∙ ap (λ (g : Gen). (q.0, g)) ((same_is_equal p.1 q.1).0 is))
      by_generation index false is = inr (λ both. let equal = (same_is_equal p.1 q.1).1 (ap (λ (k : ℕ × Gen). k.1) both) in cc)

module _ {Gen T : Type 0} where
  member-among : (items : List (Item Gen T)) (x : ℕ × Gen) → IsAmong (pointers_of items) x → IsMember (indexes (map as_item items)) x.0
  member-among [] x h = absurd h
  member-among (e ∷ items) x (inl is) = inl (ap (λ (k : ℕ × Gen). k.0) is)
  member-among (e ∷ items) x (inr h) = inr (member-among items x h)

  pub first_once : (items : List (Item Gen T)) (x : ℕ × Gen) (rest : List (ℕ × Gen)) → AreDistinct (indexes (map as_item items)) → pointers_of items ≡ x ∷ rest → IsAmong rest x → ⊥
  first_once [] x rest distinct written h = absurd (cc)
  first_once (e ∷ items) x rest distinct written h =
      let first : e.0 ≡ x = cc in
      let tail : pointers_of items ≡ rest = cc in
      distinct.0 (subst (IsMember (indexes (map as_item items))) (sym (ap (λ (k : ℕ × Gen). k.0) first)) (member-among items x (subst (λ (l : List (ℕ × Gen)). IsAmong l x) (sym tail) h)))

module _ {A Gen T : Type 0} {view : A → ArenaView Gen (Entry T)} {entry : A → ℕ → Option (Gen × Entry T)} (state : (a : A) → ArenaState (view a) (entry a)) (interlinks : A → LinkMap) where
  pub queue_fair : ((p q : ℕ × Gen) → (p ≡ q) ⊎ (p ≡ q → ⊥)) → (old new : A) (q x y : ℕ × Gen) (tasks : List (Item Gen T)) (steps : List (Step (ℕ × Gen)))
      → IsList state interlinks old q tasks → TakesSteps state interlinks old new q (turn x ∷ steps ++ turn x ∷ [])
      → IsAmong (pointers_of tasks) y → x ≢ y → HasTurn steps y ⊎ Leaves steps y
  queue_fair decide old new q x y tasks steps is taken among other =
      let run = taken tasks is in
      let others = run.2.1.0 in
      let written = run.2.1.1 in
      turns_fair decide x y others (pointers_of run.0) steps
      (subst (λ (l : List (ℕ × Gen)). IsRun (turn x ∷ steps ++ turn x ∷ []) l (pointers_of run.0)) written run.2)
      (first_once tasks x others is.chain.1.1 written)
      (⊎_elim (λ same. absurd (other same)) (λ h. h) (subst (λ (l : List (ℕ × Gen)). IsAmong l y) written among))
