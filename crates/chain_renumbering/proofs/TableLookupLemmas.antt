-- What a table of moves gives for a pointer.
use Rattle.std.proofs.Common.{◌≡◌, ◌↔◌, ℕ, Bool, true, false, if◌then◌else◌, List, Contains, Option, None, Some, IsSome, is_some, refl, sym, ap, ap₂, ◌∙◌, subst}
use Rattle.std.proofs.lemmas.List.Elements.{All-contains}
use Rattle.arena_traits.specs.Arena.{slot_at, IsValid}
use Rattle.chain_compaction.specs.PointerMoves.{ArePointerMoves, IsPointerMove}
use Rattle.chain_renumbering.specs.Renumbering.{Moves}
use Rattle.chain_renumbering.specs.MoveTables.{key_stored_for, new_key_of}
use Rattle.chain_renumbering.proofs.MappedListLemmas.{map_has_of}
use Rattle.chain_renumbering.proofs.MoveTableLemmas.{IsTable}

-- Exactly the pointers of moves have a new one, that of the move.
pub record GivesMoves {P Gen : Type 0} (key : P → ℕ × Gen) (moves : List (P × P)) (move : Moves Gen) : Type 0 where
  pub has : (m : P × P) → Contains moves m → move (key m.0) ≡ Some (key m.1)
  pub only : (p q : ℕ × Gen) → move p ≡ Some q → (m : P × P) × Contains moves m × (key m.0 ≡ p) × (key m.1 ≡ q)

module _ {P Gen : Type 0} (key : P → ℕ × Gen) (same : Gen → Gen → Bool) (same_is_equal : (g h : Gen) → (same g h ≡ true) ↔ (g ≡ h)) (moves : List (P × P)) (table : List (Option (Gen × P))) (is_table : IsTable key moves table) where
  pub table_gives : GivesMoves key moves (new_key_of key same table)
  table_gives = record { has = has; only = λ p q is. only p q (slot_at table p.0) refl is }
    where
      has : (m : P × P) → Contains moves m → new_key_of key same table (key m.0) ≡ Some (key m.1)
      has m there =
          ap (key_stored_for key same (key m.0).1) (is_table.has m there)
          ∙ ap (λ (b : Bool). if b then Some (key m.1) else None) ((same_is_equal (key m.0).1 (key m.0).1).1 refl)

      only : (p q : ℕ × Gen) (o : Option (Gen × P)) → slot_at table p.0 ≡ o → key_stored_for key same p.1 o ≡ Some q → (m : P × P) × Contains moves m × (key m.0 ≡ p) × (key m.1 ≡ q)
      only p q None stored is = absurd (cc)
      only p q (Some e) stored is = by (same e.0 p.1) refl is where
        by : (b : Bool) → same e.0 p.1 ≡ b → ◌≡◌ {A = Option (ℕ × Gen)} (if b then Some (key e.1) else None) (Some q) → (m : P × P) × Contains moves m × (key m.0 ≡ p) × (key m.1 ≡ q)
        by true equal found =
            let m = is_table.only p.0 e stored in
            let generation : (key m.0.0).1 ≡ p.1 = ap (λ (x : Gen × P). x.0) m.3 ∙ (same_is_equal e.0 p.1).0 equal in
            let target : m.0.1 ≡ e.1 = ap (λ (x : Gen × P). x.1) m.3 in
            (m.0, m.1, ap₂ (λ (i : ℕ) (g : Gen). (i, g)) m.2 generation, ap key target ∙ cc)
        by false other found = absurd (cc)

module _ {P Gen T : Type 0} (key : P → ℕ × Gen) (before after : ℕ → Option (Gen × T)) (moves : List (P × P)) (moved : ArePointerMoves key before after moves) (move : Moves Gen) (gives : GivesMoves key moves move) where
  move_keeps : (m : P × P) → Contains moves m → IsPointerMove key before after m
  move_keeps m has = All-contains (IsPointerMove key before after) moves m moved.values has

  pub valid_moves : (p : ℕ × Gen) → IsValid before p → (q : ℕ × Gen) × (move p ≡ Some q)
  valid_moves p valid =
      let m = map_has_of (λ (m : P × P). key m.0) moves p (moved.old p valid) in
      (key m.0.1, ap move (sym m.2) ∙ gives.has m.0 m.1)

  pub moves_valid : (p : ℕ × Gen) → IsSome (move p) ↔ IsValid before p
  moves_valid p = (by (move p) refl, λ valid. let q = valid_moves p valid in subst (λ (o : Option (ℕ × Gen)). IsSome o) (sym q.1) refl)
    where
      by : (o : Option (ℕ × Gen)) → move p ≡ o → IsSome o → IsValid before p
      by None is some = absurd (cc)
      by (Some q) is some =
          let m = gives.only p q is in
          subst (IsValid before) m.2 (move_keeps m.0 m.1).0

  pub values_move : (p q : ℕ × Gen) (t : T) → move p ≡ Some q → before p.0 ≡ Some (p.1, t) → after q.0 ≡ Some (q.1, t)
  values_move p q t is stored =
      let m = gives.only p q is in
      let kept = move_keeps m.0 m.1 in
      let old_pair : ◌≡◌ {A = Option (Gen × T)} (Some ((key m.0.0).1, kept.0.value)) (Some (p.1, t)) = sym kept.0.stored ∙ (ap (λ (x : ℕ × Gen). before x.0) m.2 ∙ stored) in
      let pairs : ◌≡◌ {A = Gen × T} ((key m.0.0).1, kept.0.value) (p.1, t) = cc in
      let value : kept.1.value ≡ t = sym kept.2 ∙ ap (λ (x : Gen × T). x.1) pairs in
      sym (ap (λ (x : ℕ × Gen). after x.0) m.3) ∙ (kept.1.stored ∙ ap₂ (λ (g : Gen) (u : T). Some (g, u)) (ap (λ (x : ℕ × Gen). x.1) m.3) value)

  pub moves_onto : (q : ℕ × Gen) → IsValid after q → (p : ℕ × Gen) × (move p ≡ Some q)
  moves_onto q valid =
      let m = map_has_of (λ (m : P × P). key m.1) moves q (moved.new q valid) in
      (key m.0.0, gives.has m.0 m.1 ∙ ap (λ (x : ℕ × Gen). Some x) m.2)

  one_at_index : (p r : ℕ × Gen) → IsValid before p → IsValid before r → p.0 ≡ r.0 → p ≡ r
  one_at_index p r one two index =
      let both : ◌≡◌ {A = Option (Gen × T)} (Some (p.1, one.value)) (Some (r.1, two.value)) = sym one.stored ∙ (ap before index ∙ two.stored) in
      let pairs : ◌≡◌ {A = Gen × T} (p.1, one.value) (r.1, two.value) = cc in
      ap₂ (λ (i : ℕ) (g : Gen). (i, g)) index (ap (λ (x : Gen × T). x.0) pairs)

  pub moves_apart : (to : ℕ → Option ℕ) → ((i j k : ℕ) → to i ≡ Some k → to j ≡ Some k → i ≡ j) → ((p q : ℕ × Gen) → move p ≡ Some q → to p.0 ≡ Some q.0)
      → (p r q : ℕ × Gen) → move p ≡ Some q → move r ≡ Some q → p ≡ r
  moves_apart to apart go p r q one two =
      one_at_index p r ((moves_valid p).0 (ap is_some one)) ((moves_valid r).0 (ap is_some two)) (apart p.0 r.0 q.0 (go p q one) (go r q two))
