-- A ring that is alone in its arena has all entries.
use Rattle.std.proofs.Common.{◌≡◌, ℕ, inl, inr, ◌⊎◌, ⊎_elim, List, [], ◌∷◌, length, map, Option, Some, sym, ap, ◌∙◌, subst, arith}
use Rattle.std.specs.Prelude.{Contains, is_some, true}
use Rattle.std.proofs.lemmas.Bool.{cases_order}
use Rattle.std.proofs.lemmas.List.{length-map}
use Rattle.chain_laws.specs.Chains.{LinkMap, IsMember}
use Rattle.chain_laws.proofs.WalkLemmas.WalkBack.{length_among}
use Rattle.chain_laws.proofs.InterlinkLemmas.Inverses.{one_some}
use Rattle.arena_traits.specs.Entries.{ArenaView, ArenaState, count, index_of}
use Rattle.chain_links.proofs.OccupiedIndexLemmas.{found_has}
use Rattle.chain_lists.specs.Lists.{Item, AreEntries, indexes, IsRing}
use Rattle.triangulation.specs.declared.points.Point.{Point}
use Rattle.triangulation.specs.declared.points.Triangle.{Triangle}
use Rattle.triangulation.specs.Triangulations.{IsInTriangle}
use Rattle.triangulation.specs.Clippings.{points}
use Rattle.triangulation.proofs.ClippingLemmas.{in_tail, at_head, head_or_tail}
use Rattle.triangulation.proofs.ReadingLemmas.{stored_some}

item_or_none : {Gen : Type 0} (entry : ℕ → Option (Gen × Point)) (xs : List (Item Gen Point)) (k : ℕ × Gen) (v : Point) → AreEntries entry xs → entry k.0 ≡ Some (k.1, v) → Contains (points xs) v ⊎ (IsMember (indexes xs) k.0 → ⊥)
item_or_none entry [] k v s is = inr (λ has. has)
item_or_none {Gen} entry (x ∷ xs) k v s is = ⊎_elim (λ same. inl (subst (λ (p : Point). Contains (points (x ∷ xs)) p) (value same) (at_head x.1 (points xs)))) (λ other. ⊎_elim (λ below. later (item_or_none entry xs k v s.1 is) (λ e. omega (arith, e, below))) (λ above. later (item_or_none entry xs k v s.1 is) (λ e. omega (arith, e, above))) other) (cases_order x.0.0 k.0)
  where
    value : x.0.0 ≡ k.0 → x.1 ≡ v
    value same = ap (λ (y : Gen × Point). y.1) (one_some (sym s.0 ∙ (ap entry same ∙ is)))

    later : Contains (points xs) v ⊎ (IsMember (indexes xs) k.0 → ⊥) → (x.0.0 ≡ k.0 → ⊥) → Contains (points (x ∷ xs)) v ⊎ (IsMember (indexes (x ∷ xs)) k.0 → ⊥)
    later rest differ = ⊎_elim (λ has. inl (in_tail x.1 (points xs) v has)) (λ none. inr (λ has. ⊎_elim differ none has)) rest

pub stored_point : {Gen : Type 0} (entry : ℕ → Option (Gen × Point)) (items : List (Item Gen Point)) (p : Point) → AreEntries entry items → Contains (points items) p → (k : ℕ × Gen) × (entry k.0 ≡ Some (k.1, p))
stored_point entry [] p stored has = absurd (omega (arith, has.1))
stored_point {Gen} entry (x ∷ xs) p stored has = head_or_tail x.1 (points xs) p ((k : ℕ × Gen) × (entry k.0 ≡ Some (k.1, p))) has
    (λ same. (x.0, subst (λ (q : Point). entry x.0.0 ≡ Some (x.0.1, q)) same stored.0)) (λ later. stored_point entry xs p stored.1 later)

module _ {A Gen : Type 0} {view : A → ArenaView Gen Point} {entry : A → ℕ → Option (Gen × Point)} (state : (a : A) → ArenaState (view a) (entry a)) (interlinks : A → LinkMap) where
  pub all_in_ring : (a : A) (items : List (Item Gen Point)) → IsRing state interlinks a items → count (view a) ≡ length items → (k : ℕ × Gen) (v : Point) → entry a k.0 ≡ Some (k.1, v) → Contains (points items) v
  all_in_ring a items ring alone k v is = ⊎_elim (λ has. has) (λ none. absurd (omega (arith, alone, length_among (k.0 ∷ indexes items) (map index_of (view a).entries) (none, ring.chain.1) among, length-map items index_of, length-map (view a).entries index_of))) (item_or_none (entry a) items k v ring.are_stored is)
    where
      some : (i : ℕ) → IsMember (k.0 ∷ indexes items) i → is_some (entry a i) ≡ true
      some i (inl same) = ap (λ j. is_some (entry a j)) (sym same) ∙ ap is_some is
      some i (inr has) = stored_some (entry a) items i ring.are_stored has

      among : (i : ℕ) → IsMember (k.0 ∷ indexes items) i → IsMember (map index_of (view a).entries) i
      among i has = found_has i (view a).entries (ap is_some ((state a).finds i) ∙ some i has)

pub others_have : (t : Triangle) (rest : List Point) (p : Point) → Contains (t.a ∷ t.b ∷ t.c ∷ rest) p → IsInTriangle t p → Contains rest p
others_have t rest p has is = head_or_tail t.a (t.b ∷ t.c ∷ rest) p (Contains rest p) has (λ e. absurd (is.not_first (sym e)))
    (λ after_a. head_or_tail t.b (t.c ∷ rest) p (Contains rest p) after_a (λ e. absurd (is.not_second (sym e)))
    (λ after_b. head_or_tail t.c rest p (Contains rest p) after_b (λ e. absurd (is.not_third (sym e))) (λ after_c. after_c)))
