-- Moves of the first task of a queue to the end of any.
use Rattle.std.proofs.Common.{◌≡◌, ◌⊎◌, inl, inr, ⊎_elim, ℕ, List, [], ◌∷◌, ◌++◌, refl, sym, ap, ◌∙◌, subst, Option, None, Some}
use Rattle.chain_laws.specs.Chains.{LinkMap}
use Rattle.chain_laws.proofs.InterlinkLemmas.Inverses.{one_some}
use Rattle.arena_traits.specs.Entries.{ArenaView, ArenaState, first_key}
use Rattle.chain_lists.specs.Lists.{Item}
use Rattle.linked_lists.specs.declared.entry.Entry.{Entry}
use Rattle.linked_lists.specs.declared.entry.Entry.TheVariants as entries
use Rattle.linked_lists.specs.LinkedLists.{IsHandle, IsItem, IsList, AllInLists, ReadsFirst, MovesToBack}
use Rattle.run_queues.specs.RunQueues.{IsFirst, HasNoTask, TakesTurn, WakesOne}

module _ {Gen T : Type 0} (decide : (p q : ℕ × Gen) → (p ≡ q) ⊎ (p ≡ q → ⊥)) (entry : ℕ → Option (Gen × Entry T)) where
  handle_or_not : (h : ℕ × Gen) → IsHandle entry h ⊎ (IsHandle entry h → ⊥)
  handle_or_not h = by (entry h.0) refl
    where
      by : (o : Option (Gen × Entry T)) → entry h.0 ≡ o → IsHandle entry h ⊎ (IsHandle entry h → ⊥)
      by None is = inr (λ head. let both = sym is ∙ head in cc)
      by (Some (g, entries.Item t)) is = inr (λ head. let both = ap (λ (e : Gen × Entry T). e.1) (one_some (sym is ∙ head)) in cc)
      by (Some (g, entries.Head)) is = ⊎_elim
          (λ same. inl (is ∙ ap (λ (k : ℕ × Gen). Some (k.1, entries.Head)) same))
          (λ other. inr (λ head. other (ap (λ (e : Gen × Entry T). (h.0, e.0)) (one_some (sym is ∙ head)))))
          (decide (h.0, g) h)

module _ {A Gen T : Type 0} {view : A → ArenaView Gen (Entry T)} {entry : A → ℕ → Option (Gen × Entry T)} (state : (a : A) → ArenaState (view a) (entry a)) (interlinks : A → LinkMap)
    {P : Type 0} (key : P → ℕ × Gen) (decide : (p q : ℕ × Gen) → (p ≡ q) ⊎ (p ≡ q → ⊥)) where
  module _ (old : A) (all : AllInLists state interlinks old) where
    pub none_first : (l : P) → ReadsFirst state interlinks key old l None → HasNoTask state interlinks old (key l)
    none_first l is head = let at = all.lists (key l) head in by at.0 at.1 (is.first at.0 at.1)
      where
        by : (items : List (Item Gen T)) → IsList state interlinks old (key l) items → None ≡ first_key items → IsList state interlinks old (key l) []
        by [] list same = list
        by (e ∷ items) list same = absurd (cc)

    pub some_first : (l p : P) → ReadsFirst state interlinks key old l (Some p) → IsHandle (entry old) (key l) → IsFirst state interlinks old (key l) (key p)
    some_first l p is head = let at = all.lists (key l) head in by at.0 at.1 (is.first at.0 at.1)
      where
        by : (items : List (Item Gen T)) → IsList state interlinks old (key l) items → Some (key p) ≡ first_key items → IsFirst state interlinks old (key l) (key p)
        by [] list same = absurd (cc)
        by (e ∷ items) list same =
            let first : e.0 ≡ key p = cc in
            record { value = e.1; rest = items; list = subst (λ (k : ℕ × Gen). IsList state interlinks old (key l) ((k, e.1) ∷ items)) first list }

    first_item : (l p : ℕ × Gen) → IsFirst state interlinks old l p → IsItem (entry old) p
    first_item l p is = record { value = is.value; stored = is.list.are_stored.1.0 }

    pub wakes_moved : (l q p : P) (new : A) → ReadsFirst state interlinks key old l (Some p) → MovesToBack state interlinks old (key p) (key q) (Some tt) new → WakesOne state interlinks key old l q (Some p) new
    wakes_moved l q p new first moved = ⊎_elim
        (λ head. record { first = some_first l p first head; queue = moved.1; moved = moved.2 })
        (λ no. let never : Some p ≡ None = first.none no in absurd (cc))
        (handle_or_not decide (entry old) (key l))

    pub wakes_refused : (l q p : P) (new : A) → ReadsFirst state interlinks key old l (Some p) → MovesToBack state interlinks old (key p) (key q) None new → WakesOne state interlinks key old l q None new
    wakes_refused l q p new first moved = ((λ queue head. absurd (moved.0 (first_item (key l) (key p) (some_first l p first head), queue))), moved.1)

  pub takes_turn : (old new : A) (q : P) (r : Option P) → WakesOne state interlinks key old q q r new → TakesTurn state interlinks key old q r new
  takes_turn old new q None is = ((λ head. is.0 head head), is.1)
  takes_turn old new q (Some p) is = record {
    value = is.first.value;
    rest = is.first.rest;
    first = is.first.list;
    last = is.moved.within (key q) is.first.value [] is.first.rest (is.first.rest ++ (key p, is.first.value) ∷ []) is.first.list (refl, refl);
    entries = is.moved.entries;
  }
