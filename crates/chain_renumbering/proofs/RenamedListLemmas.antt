-- Lists whose items are moved along with a renaming of their links.
use Rattle.std.proofs.Common.{◌≡◌, ℕ, List, [], ◌∷◌, map, Option, None, Some, refl, sym, ap, ◌∙◌}
use Rattle.std.specs.List.{AllByRecursion}
use Rattle.std.specs.Option.{option_map}
use Rattle.chain_laws.specs.Chains.{LinkMap, Chain}
use Rattle.chain_laws.specs.Renamings.{IsRenaming, AreImages, IsImage}
use Rattle.chain_laws.proofs.RenamingLemmas.Chains.{renaming_carries_chains}
use Rattle.arena_traits.specs.Arena.{IsValid}
use Rattle.arena_traits.specs.Entries.{ArenaView, ArenaState}
use Rattle.chain_links.specs.ChainArena.{ptr_at}
use Rattle.chain_lists.specs.Lists.{Item, AreEntries, indexes, IsListOf}
use Rattle.chain_renumbering.specs.Renumbering.{Moves, AreItemsMoved}
use Rattle.chain_renumbering.proofs.MovedItemLemmas.{cons_moved}

module _ {P Gen T : Type 0} (key : P → ℕ × Gen) (entry : ℕ → Option (Gen × T)) (to : ℕ → Option ℕ) (g : Gen) where
  index_there : (p : ℕ × Gen) (i : ℕ) (o : Option (Gen × T)) → Some p ≡ option_map (λ (e : Gen × T). (i, e.0)) o → p.0 ≡ i
  index_there p i None is = absurd (cc)
  index_there p i (Some e) is = let same : p ≡ (i, e.0) = cc in ap (λ (q : ℕ × Gen). q.0) same

  pub moves_follow : (moves : List (P × P)) (is ks : List ℕ) → map (λ m. Some (key m.0)) moves ≡ map (ptr_at entry) is → map (λ m. key m.1) moves ≡ map (λ k. (k, g)) ks → AreImages to is ks
      → AllByRecursion (λ m. (to (key m.0).0 ≡ Some (key m.1).0) × ((key m.1).1 ≡ g)) moves
  moves_follow [] is ks from targets images = tt
  moves_follow (m ∷ moves) [] ks from targets images = absurd (cc)
  moves_follow (m ∷ moves) (i ∷ is) [] from targets images = absurd images
  moves_follow (m ∷ moves) (i ∷ is) (k ∷ ks) from targets images =
      let first : Some (key m.0) ≡ ptr_at entry i = cc in
      let rest : map (λ (n : P × P). Some (key n.0)) moves ≡ map (ptr_at entry) is = cc in
      let goal : key m.1 ≡ (k, g) = cc in
      let goals : map (λ (n : P × P). key n.1) moves ≡ map (λ k. (k, g)) ks = cc in (
        (ap to (index_there (key m.0) i (entry i) first) ∙ (images.0 ∙ ap (λ (q : ℕ × Gen). Some q.0) (sym goal)), ap (λ (q : ℕ × Gen). q.1) goal),
        moves_follow moves is ks rest goals images.1,
      )

module _ {Gen T : Type 0} (before after : ℕ → Option (Gen × T)) (move : Moves Gen) (to : ℕ → Option ℕ) (has : (p : ℕ × Gen) → IsValid before p → (q : ℕ × Gen) × (move p ≡ Some q))
    (values : (p q : ℕ × Gen) (t : T) → move p ≡ Some q → before p.0 ≡ Some (p.1, t) → after q.0 ≡ Some (q.1, t)) (go : (p q : ℕ × Gen) → move p ≡ Some q → to p.0 ≡ Some q.0) where
  pub items_move : (items : List (Item Gen T)) → AreEntries before items → (moved : List (Item Gen T)) × AreItemsMoved move items moved × AreImages to (indexes items) (indexes moved) × AreEntries after moved
  items_move [] are_stored = ([], refl, tt, tt)
  items_move (e ∷ items) are_stored =
      let rest = items_move items are_stored.1 in
      let q = has e.0 (record { value = e.1; stored = are_stored.0 }) in (
        (q.0, e.1) ∷ rest.0,
        cons_moved move e (q.0, e.1) items rest.0 q.1 refl rest.1,
        (go e.0 q.0 q.1, rest.2),
        (values e.0 q.0 e.1 q.1 are_stored.0, rest.3),
      )

module _ {A Gen T : Type 0} {view : A → ArenaView Gen T} {entry : A → ℕ → Option (Gen × T)} (state : (a : A) → ArenaState (view a) (entry a)) (links : A → LinkMap) (old new : A) (move : Moves Gen) (to : ℕ → Option ℕ) where
  pub list_moves : (shape : List ℕ → Chain) → ((is ks : List ℕ) → AreImages to is ks → IsImage to (shape is) (shape ks)) → IsRenaming to (links old) (links new)
      → (items : List (Item Gen T)) → IsListOf state links shape old items
      → (moved : List (Item Gen T)) × AreItemsMoved move items moved × AreImages to (indexes items) (indexes moved) × AreEntries (entry new) moved
      → (after : List (Item Gen T)) × AreItemsMoved move items after × IsListOf state links shape new after
  list_moves shape image renaming items is moved = (
    moved.0,
    moved.1,
    record { chain = renaming_carries_chains to (links old) (links new) (shape (indexes items)) (shape (indexes moved.0)) renaming is.chain (image (indexes items) (indexes moved.0) moved.2); are_stored = moved.3 },
  )
