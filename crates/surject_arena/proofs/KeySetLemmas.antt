-- The pointers of a walk, and of the keys of a set.
use Rattle.std.proofs.Common.{◌≡◌, ℕ, List, [], ◌∷◌, map, Option, None, Some, inl, inr, refl, sym, ap, ◌∙◌, subst}
use Rattle.std.specs.Prelude.{All, ◌↔◌}
use Rattle.std.proofs.lemmas.List.Elements.{All-cons, All-nil}
use Rattle.arena_traits.specs.Entries.{ArenaView, ArenaState}
use Rattle.chain_laws.specs.Chains.{LinkMap, cyclic, IsMember}
use Rattle.chain_laws.specs.Walks.{Walker, IsWalk, passes_ahead, step_of}
use Rattle.chain_laws.proofs.WalkLemmas.Members.{walk_has, walk_once}
use Rattle.chain_laws.proofs.WalkLemmas.Steps.{step_ahead}
use Rattle.surject_arena.specs.KeySets.{pointers_at, ArePointersOf}
use Rattle.surject_arena.specs.Partitions.{set_in, size_in, IsPartition}
use Rattle.surject_arena.specs.Surjections.{IsKeyOf, AreKeysOf}
use Rattle.surject_arena.specs.declared.members.Member.{Member}
use Rattle.surject_arena.specs.declared.members.Counted.{Counted}
use Rattle.surject_arena.proofs.OptionLemmas.{from_mapped}
use Rattle.surject_arena.proofs.SetReadLemmas.{seen, set_seen, key_of}

module _ {Gen T : Type 0} (entry : ℕ → Option (Gen × T)) where
  at_stored : (i : ℕ) (indexes : List ℕ) (e : Gen × T) → entry i ≡ Some e → pointers_at entry (i ∷ indexes) ≡ (i, e.0) ∷ pointers_at entry indexes
  at_stored i indexes e stored = ap (λ (o : Option (Gen × T)). elim o as (λ o. List (ℕ × Gen)) [ None ↦ [] | Some e ↦ (i, e.0) ∷ pointers_at entry indexes ]) stored

  at_free : (i : ℕ) (indexes : List ℕ) → entry i ≡ None → pointers_at entry (i ∷ indexes) ≡ []
  at_free i indexes free = ap (λ (o : Option (Gen × T)). elim o as (λ o. List (ℕ × Gen)) [ None ↦ [] | Some e ↦ (i, e.0) ∷ pointers_at entry indexes ]) free

  pub pointers_step : (links : LinkMap) (old new : Walker) (p : ℕ × Gen) (t : T) → entry p.0 ≡ Some (p.1, t) → step_of links old ≡ Some (p.0, new) → pointers_at entry (passes_ahead links old) ≡ p ∷ pointers_at entry (passes_ahead links new)
  pointers_step links old new p t stored step = ap (pointers_at entry) (step_ahead links old new p.0 step) ∙ at_stored p.0 (passes_ahead links new) (p.1, t) stored

  pub pointers_end : (indexes : List ℕ) → ((i : ℕ) (rest : List ℕ) → indexes ≡ i ∷ rest → entry i ≡ None) → pointers_at entry indexes ≡ []
  pointers_end [] none = refl
  pointers_end (i ∷ indexes) none = at_free i indexes (none i indexes refl)

module _ {P Gen K : Type 0} (key : P → ℕ × Gen) (entry : ℕ → Option (Gen × Member P K)) (w : ℕ × Gen) where
  indexes_of : (indexes : List ℕ) → ((i : ℕ) → IsMember indexes i → set_in key entry i ≡ Some w) → map (λ p. p.0) (pointers_at entry indexes) ≡ indexes
  indexes_of [] own = refl
  indexes_of (i ∷ indexes) own =
      let e = from_mapped (λ (x : Gen × Member P K). key x.1.set) (entry i) w (own i (inl refl)) in
      ap (map (λ (p : ℕ × Gen). p.0)) (at_stored entry i indexes e.0 e.1) ∙ ap (λ (l : List ℕ). i ∷ l) (indexes_of indexes (λ j has. own j (inr has)))

module _ {A B P Gen K V : Type 0} (key : P → ℕ × Gen) {kview : A → ArenaView Gen (Member P K)} {kentry : A → ℕ → Option (Gen × Member P K)} (kstate : (a : A) → ArenaState (kview a) (kentry a)) (links : A → LinkMap)
    {vview : B → ArenaView Gen (Counted V)} {ventry : B → ℕ → Option (Gen × Counted V)} (vstate : (b : B) → ArenaState (vview b) (ventry b)) (a : A) (b : B) (r : ℕ)
    (is : IsPartition (set_in key (kentry a)) (links a) (size_in (ventry b))) (p w : ℕ × Gen) (own : set_in key (kentry a) p.0 ≡ Some w) (walk : List ℕ) (is_walk : IsWalk (links a) p.0 walk) where
  members : (i : ℕ) → IsMember walk i ↔ (set_in key (kentry a) i ≡ Some w)
  members i =
      let known = is.valued p.0 w own in
      let s = is.sets w known.0 known.1 in
      let has = walk_has (links a) p.0 walk (cyclic s.items) is_walk s.chain ((s.members p.0).1 own) i in
      (λ h. (s.members i).0 (has.0 h), λ at. has.1 ((s.members i).1 at))

  pub pointers_of : ArePointersOf (seen key kstate vstate a b r) w (pointers_at (kentry a) walk)
  pointers_of =
      let in_set = λ (i : ℕ) (has : IsMember walk i). (members i).0 has in
      record {
        once = subst (AreKeysOf (seen key kstate vstate a b r) w) (sym (indexes_of key (kentry a) w walk in_set)) (record {
          once = walk_once (links a) p.0 walk is_walk;
          members = λ i. (λ has. set_seen key kstate vstate a b r i ∙ (members i).0 has, λ at. (members i).1 (sym (set_seen key kstate vstate a b r i) ∙ at));
        });
        keys = all_in walk in_set;
      }
    where
      all_in : (indexes : List ℕ) → ((i : ℕ) → IsMember indexes i → set_in key (kentry a) i ≡ Some w) → All (λ q. IsKeyOf (seen key kstate vstate a b r) w q) (pointers_at (kentry a) indexes)
      all_in [] own = All-nil (λ q. IsKeyOf (seen key kstate vstate a b r) w q)
      all_in (i ∷ indexes) own =
          let e = from_mapped (λ (x : Gen × Member P K). key x.1.set) (kentry a i) w (own i (inl refl)) in
          subst (All (λ q. IsKeyOf (seen key kstate vstate a b r) w q)) (sym (at_stored (kentry a) i indexes e.0 e.1))
          (All-cons (λ q. IsKeyOf (seen key kstate vstate a b r) w q) (i, e.0.0) (pointers_at (kentry a) indexes) (key_of key kstate vstate a b r (i, e.0.0) w (record { value = e.0.1; stored = e.1 }) (own i (inl refl))) (all_in indexes (λ j has. own j (inr has))))
