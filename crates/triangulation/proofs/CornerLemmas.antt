-- Corners of a ring.
use Rattle.std.proofs.Common.{◌≡◌, ℕ, List, [], ◌∷◌, ◌++◌, Option, Some, sym, ap, ◌∙◌, subst}
use Rattle.std.specs.Prelude.{IfSome}
use Rattle.std.specs.Borrow.{Bor}
use Rattle.std.specs.Option.{option_map}
use Rattle.std.proofs.lemmas.List.{map-append}
use Rattle.chain_laws.specs.Chains.{LinkMap, cyclic, IsChain}
use Rattle.chain_laws.proofs.ChainLemmas.Rotations.{rotated}
use Rattle.chain_laws.proofs.InterlinkLemmas.Inverses.{one_some}
use Rattle.arena_traits.specs.Entries.{ArenaView, ArenaState, index_of}
use Rattle.chain_lists.specs.Lists.{Item, AreEntries, indexes, IsRing}
use Rattle.polygons.specs.Rings.{ReadsNextInRing}

pub value_read : {Gen T : Type 0} (entry : ℕ → Option (Gen × T)) (k : ℕ × Gen) (e : Item Gen T) (t : T) → entry k.0 ≡ Some (k.1, t) → k ≡ e.0 → entry e.0.0 ≡ Some (e.0.1, e.1) → t ≡ e.1
value_read entry k e t read same stored = ap (λ (x : _ × _). x.1) (one_some (sym read ∙ subst (λ (j : ℕ × _). entry j.0 ≡ Some (j.1, e.1)) (sym same) stored))

pub value_got : {Gen T : Type 0} (entry : ℕ → Option (Gen × T)) (k : ℕ × Gen) (e : Item Gen T) (result : Option (Bor T)) (x : Bor T) → IfSome result (λ t. entry k.0 ≡ Some (k.1, t.now)) → result ≡ Some x → k ≡ e.0 → entry e.0.0 ≡ Some (e.0.1, e.1) → x.now ≡ e.1
value_got entry k e result x reads is same stored = value_read entry k e x.now (subst (λ (r : Option (Bor _)). IfSome r (λ t. entry k.0 ≡ Some (k.1, t.now))) is reads) same stored

stored_both : {Gen T : Type 0} (entry : ℕ → Option (Gen × T)) (xs ys : List (Item Gen T)) → AreEntries entry xs → AreEntries entry ys → AreEntries entry (xs ++ ys)
stored_both entry [] ys a b = b
stored_both entry (x ∷ xs) ys a b = (a.0, stored_both entry xs ys a.1 b)

stored_left : {Gen T : Type 0} (entry : ℕ → Option (Gen × T)) (xs ys : List (Item Gen T)) → AreEntries entry (xs ++ ys) → AreEntries entry xs
stored_left entry [] ys a = tt
stored_left entry (x ∷ xs) ys a = (a.0, stored_left entry xs ys a.1)

pub stored_right : {Gen T : Type 0} (entry : ℕ → Option (Gen × T)) (xs ys : List (Item Gen T)) → AreEntries entry (xs ++ ys) → AreEntries entry ys
stored_right entry [] ys a = a
stored_right entry (x ∷ xs) ys a = stored_right entry xs ys a.1

module _ {A Gen T : Type 0} {view : A → ArenaView Gen T} {entry : A → ℕ → Option (Gen × T)} (state : (a : A) → ArenaState (view a) (entry a)) (interlinks : A → LinkMap) where
  pub ring_turned : (a : A) (xs ys : List (Item Gen T)) → IsRing state interlinks a (xs ++ ys) → IsRing state interlinks a (ys ++ xs)
  ring_turned a xs ys is = record {
    chain = subst (λ (l : List ℕ). IsChain (interlinks a) (cyclic l)) (sym (map-append index_of ys xs)) (rotated (interlinks a) (indexes xs) (indexes ys) (subst (λ (l : List ℕ). IsChain (interlinks a) (cyclic l)) (map-append index_of xs ys) is.chain));
    are_stored = stored_both (entry a) ys xs (stored_right (entry a) xs ys is.are_stored) (stored_left (entry a) xs ys is.are_stored);
  }

  pub ring_at : (a : A) (k : ℕ × Gen) (e : Item Gen T) (es : List (Item Gen T)) → k ≡ e.0 → IsRing state interlinks a (e ∷ es) → IsRing state interlinks a ((k, e.1) ∷ es)
  ring_at a k e es same is = subst (λ (j : ℕ × Gen). IsRing state interlinks a ((j, e.1) ∷ es)) (sym same) is

  pub next_is_second : {P : Type 0} (key : P → ℕ × Gen) (a : A) (p q : P) (r : Option P) (e f : Item Gen T) (es : List (Item Gen T)) → ReadsNextInRing state interlinks key a p r → r ≡ Some q → key p ≡ e.0 → IsRing state interlinks a (e ∷ f ∷ es) → key q ≡ f.0
  next_is_second key a p q r e f es reads is same ring = one_some (sym (ap (option_map key) is) ∙ reads.next e.1 (f ∷ es) (ring_at a (key p) e (f ∷ es) same ring))
