-- Rings as walks.
use Rattle.std.proofs.Common.{◌≡◌, ℕ, inl, List, [], ◌∷◌, map, Option, None, Some, refl, sym, ap, ◌∙◌, subst}
use Rattle.std.specs.Prelude.{◌↔◌, All, is_some, true, IsSome, IfSome, IfOk, Result, Ok, Err}
use Rattle.std.specs.List.{AllByRecursion}
use Rattle.std.proofs.lemmas.List.Elements.{recursion_from_All}
use Rattle.chain_laws.specs.Chains.{LinkMap, cyclic, IsChain, IsMember, HasLink, first_or}
use Rattle.chain_laws.specs.Walks.{IsWalk, of_linear, of_cyclic}
use Rattle.chain_laws.proofs.WalkLemmas.Members.{walk_valid}
use Rattle.arena_traits.specs.Arena.{IsValid}
use Rattle.arena_traits.specs.Entries.{ArenaView, ArenaState}
use Rattle.chain_lists.specs.Lists.{Item, AreEntries, indexes}
use Rattle.chain_lists.proofs.ItemListLemmas.{same_pointer}
use Rattle.polygons.specs.Rings.{AllCyclic, IsRingOfCorner, AreInOneRing, PassesCorner, ListsRing, pointers_of}
use Rattle.polygons.proofs.CyclicLemmas.{no_line}
use Rattle.polygons.proofs.RingLemmas.{items_at}

pub walk_is_ring : (links : LinkMap) (i : ℕ) (walk : List ℕ) → AllCyclic links → IsWalk links i walk → IsChain links (cyclic walk) × (first_or walk None ≡ Some i)
walk_is_ring links i _ all_cyclic (of_linear before after is) = absurd (no_line links _ all_cyclic is)
walk_is_ring links i _ all_cyclic (of_cyclic after is) = (is, refl)

pub not_ahead : {X : Type 0} (links : LinkMap) (entry : ℕ → Option X) → ((k : ℕ) → HasLink links k → is_some (entry k) ≡ true) → (i j : ℕ) (walk ahead : List ℕ) → IsWalk links i walk → ((k : ℕ) → IsMember ahead k → IsMember walk k)
    → ((k : ℕ) (rest : List ℕ) → ahead ≡ k ∷ rest → entry k ≡ None) → IsMember ahead j → ⊥
not_ahead links entry occupied i j walk [] is in_walk first has = absurd has
not_ahead links entry occupied i j walk (k ∷ rest) is in_walk first has =
    let some = occupied k (walk_valid links i walk is k (in_walk k (inl refl))) in let none = ap is_some (first k rest refl) in let both = sym some ∙ none in cc

module _ {P Gen T : Type 0} (key : P → ℕ × Gen) (entry : ℕ → Option (Gen × T)) where
  items_of : (ptrs : List P) → AllByRecursion (λ q. IsValid entry (key q)) ptrs → (items : List (Item Gen T)) × (map key ptrs ≡ pointers_of items) × (indexes items ≡ map (λ q. (key q).0) ptrs) × AreEntries entry items
  items_of [] valid = ([], refl, refl, tt)
  items_of (q ∷ ptrs) valid =
      let more = items_of ptrs valid.1 in
      ((key q, valid.0.value) ∷ more.0, ap (λ l. key q ∷ l) more.1, ap (λ l. (key q).0 ∷ l) more.2, (valid.0.stored, more.3))

module _ {A Gen T : Type 0} {view : A → ArenaView Gen T} {entry : A → ℕ → Option (Gen × T)} (state : (a : A) → ArenaState (view a) (entry a)) (interlinks : A → LinkMap) (a : A) where
  from_corner : (p : ℕ × Gen) (items : List (Item Gen T)) → IsValid (entry a) p → AreEntries (entry a) items → IsChain (interlinks a) (cyclic (indexes items)) → first_or (indexes items) None ≡ Some p.0
      → IsRingOfCorner state interlinks a p items
  from_corner p [] valid are_stored chain first = absurd (cc)
  from_corner p (e ∷ es) valid are_stored chain first =
      let index : e.0.0 ≡ p.0 = cc in
      record {
        ring = record { chain = chain; are_stored = are_stored };
        first = ap (λ (k : ℕ × Gen). Some k) (same_pointer (entry a) e.0 p (record { value = e.1; stored = are_stored.0 }) valid index);
      }

  pub lists_ring : {P : Type 0} (key : P → ℕ × Gen) (p : P) (ptrs : List P) → AllCyclic (interlinks a) → IsValid (entry a) (key p) → IsWalk (interlinks a) (key p).0 (map (λ q. (key q).0) ptrs) → All (λ q. IsValid (entry a) (key q)) ptrs
      → ListsRing state interlinks key a p ptrs
  lists_ring key p ptrs all_cyclic valid walk all =
      let items = items_of key (entry a) ptrs (recursion_from_All _ ptrs all) in
      let ring = walk_is_ring (interlinks a) (key p).0 (indexes items.0) all_cyclic (subst (IsWalk (interlinks a) (key p).0) (sym items.2) walk) in
      (items.0, from_corner (key p) items.0 valid items.3 ring.0 ring.1, items.1)

  pub walked : {P V E : Type 0} (key : P → ℕ × Gen) (p : P) (listed : V → List P) → AllCyclic (interlinks a) → (r : Result (Option V) E) → IfOk r (λ o. IsSome o ↔ IsValid (entry a) (key p))
      → IfOk r (λ o. IfSome o (λ v. IsWalk (interlinks a) (key p).0 (map (λ q. (key q).0) (listed v)))) → IfOk r (λ o. IfSome o (λ v. All (λ q. IsValid (entry a) (key q)) (listed v)))
      → IfOk r (λ o. IfSome o (λ v. ListsRing state interlinks key a p (listed v)))
  walked key p listed all_cyclic (Err e) some walk all = tt
  walked key p listed all_cyclic (Ok None) some walk all = tt
  walked key p listed all_cyclic (Ok (Some v)) some walk all = lists_ring key p (listed v) all_cyclic (some.0 refl) walk all

  first_stored : (p : ℕ × Gen) (items : List (Item Gen T)) → IsRingOfCorner state interlinks a p items → IsValid (entry a) p × IsWalk (interlinks a) p.0 (indexes items)
  first_stored p [] is = absurd (let none = is.first in cc)
  first_stored p (e ∷ es) is =
      let same : e.0 ≡ p = let first = is.first in cc in (
        subst (IsValid (entry a)) same (record { value = e.1; stored = is.ring.are_stored.0 }),
        subst (λ (k : ℕ × Gen). IsWalk (interlinks a) k.0 (indexes (e ∷ es))) same (of_cyclic (indexes es) is.ring.chain),
      )

  pub passed_in_ring : ((i : ℕ) → HasLink (interlinks a) i → is_some (entry a i) ≡ true) → AllCyclic (interlinks a) → (p q : ℕ × Gen) → PassesCorner (entry a) (interlinks a) p q ↔ AreInOneRing state interlinks a p q
  passed_in_ring occupied all_cyclic p q = (
    λ passes.
        let items = items_at (entry a) passes.walk (λ k has. occupied k (walk_valid (interlinks a) p.0 passes.walk passes.is_walk k has)) in
        let ring = walk_is_ring (interlinks a) p.0 (indexes items.0) all_cyclic (subst (IsWalk (interlinks a) p.0) (sym items.1) passes.is_walk) in
        record {
          items = items.0;
          ring = from_corner p items.0 passes.valid.0 items.2 ring.0 ring.1;
          valid = passes.valid.1;
          among = subst (λ (l : List ℕ). IsMember l q.0) (sym items.1) passes.among;
        },
    λ together.
        let first = first_stored p together.items together.ring in
        record { valid = (first.0, together.valid); walk = indexes together.items; is_walk = first.1; among = together.among },
  )
