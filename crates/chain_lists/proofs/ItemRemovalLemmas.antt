-- The effect on lists of removing an entry, or none.
use Rattle.std.proofs.Common.{◌≡◌, ◌≢◌, ℕ, List, [], ◌∷◌, ◌++◌, Option, None, Some, refl}
use Rattle.arena_core.specs.PointerKinds.{PointerKind}
use Rattle.chain_laws.specs.Chains.{LinkMap, Chain, items, IsChain}
use Rattle.chain_laws.specs.Removals.{Removes}
use Rattle.arena_traits.specs.Entries.{ArenaView, ArenaState}
use Rattle.chain_traits.proofs.GenericRemovalLemmas.{TakesEntry, value_known}
use Rattle.chain_lists.specs.Lists.{RemovesItem}
use Rattle.chain_lists.proofs.ListChangeLemmas.{leaves, keeps_left}

module _ {A Gen T : Type 0} {view : A → ArenaView Gen T} {entry : A → ℕ → Option (Gen × T)} (state : (a : A) → ArenaState (view a) (entry a)) (interlinks : A → LinkMap) {P I W : Type 0} (pointers : PointerKind P I Gen W) (old new : A) (p : P) where
  pub removes_item : (shape : List ℕ → Chain) → ((xs : List ℕ) → items (shape xs) ≡ xs) → (o : Option T) → TakesEntry state interlinks pointers.following old new (pointers.key p) o
      → (Removes (interlinks old) (interlinks new) (pointers.key p).0 → (x y : List ℕ) → IsChain (interlinks old) (shape (x ++ (pointers.key p).0 ∷ y)) → x ++ y ≢ [] → IsChain (interlinks new) (shape (x ++ y)))
      → RemovesItem state interlinks shape pointers old p o new
  removes_item shape written None r shrinks = (λ valid. absurd (let some = r.valid valid in cc), r.same refl)
  removes_item shape written (Some t) r shrinks =
      let gone = r.some refl in
      record {
        removed = (value_known state interlinks pointers.following old new (pointers.key p) (Some t) r, gone.view_after);
        list = leaves state interlinks shape written old new (pointers.key p, t) gone.kept (shrinks gone.chains);
        gone = gone.gone;
        entries = gone.kept;
        others = keeps_left state interlinks shape written old new (pointers.key p) gone.kept gone.chains.rest;
        size = gone.one_fewer;
      }
